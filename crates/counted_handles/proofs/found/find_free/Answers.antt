use Rattle.std.proofs.Common.{sym, ap, ◌∙◌, [], ◌∷◌}
use Rattle.counted_handles.specs.declared.view.View.TheVariants.{Publishes}
use Rattle.counted_handles.proofs.CallLemmas.{only_one}
use Rattle.counted_handles.proofs.found.find_free.Goals as goal

pub into_badge-requires : goal.into_badge-requires
into_badge-requires g c =
    let due = c.requires.due in
    let seat = c.into_seat-seat in
    let view = only_one seat.result.me.0 (Publishes due.0) (sym seat.ensures.2 ∙ ap (λ b. b.views) c.replace.ensures.value ∙ due.1.0) in
    let has = c.scan_all-count.ensures.scanned due.0 ((λ i. (view i, seat.ensures.3 i)), due.1.1) in
    λ i. (has.me_is i).1

pub returns-clause-found : goal.returns-clause-found
returns-clause-found g c p can =
    let seat = c.into_seat-seat in
    let view = only_one seat.result.me.0 (Publishes p) (sym seat.ensures.2 ∙ ap (λ b. b.views) c.replace.ensures.value ∙ can.0) in
    let has = c.scan_all-count.ensures.scanned p ((λ i. (view i, seat.ensures.3 i)), can.1) in
    record { found = has.found; views_are = c.into_badge.ensures.2 ∙ ap (λ m. m.0 ∷ []) has.me_is; falls = has.falls; many = has.many }
