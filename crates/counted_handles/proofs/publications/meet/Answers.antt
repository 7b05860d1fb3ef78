use Rattle.std.proofs.Common.{sym, ap, ◌∙◌, [], ◌∷◌}
use Rattle.counted_handles.specs.declared.view.View.TheVariants.{Publishes, Reads}
use Rattle.counted_handles.proofs.CallLemmas.{only_one}
use Rattle.counted_handles.proofs.publications.meet.Goals as goal

pub greet-rest-requires-clause-idle : goal.greet-rest-requires-clause-idle
greet-rest-requires-clause-idle g c =
    let can = c.requires.can in
    let seat = c.into_seat-seat in
    let guest = c.into_seat-guest in
    let view = only_one seat.result.me.0 (Publishes can.0) (sym seat.ensures.2 ∙ ap (λ b. b.views) c.replace.ensures.value ∙ can.2.0) in
    let reads = only_one guest.result.me.0 (Reads can.1) (sym guest.ensures.2 ∙ ap (λ b. b.views) c.replace-2.ensures.value ∙ can.3.0) in
    (can.0, can.1, ((λ i. (view i, seat.ensures.3 i)), can.2.1, can.2.2), ((λ i. (reads i, guest.ensures.3 i)), can.3.1))

pub into_badge-requires : goal.into_badge-requires
into_badge-requires g c =
    let can = c.requires.can in
    let seat = c.into_seat-seat in
    let guest = c.into_seat-guest in
    let view = only_one seat.result.me.0 (Publishes can.0) (sym seat.ensures.2 ∙ ap (λ b. b.views) c.replace.ensures.value ∙ can.2.0) in
    let reads = only_one guest.result.me.0 (Reads can.1) (sym guest.ensures.2 ∙ ap (λ b. b.views) c.replace-2.ensures.value ∙ can.3.0) in
    let is = c.greet-rest.ensures.greeted can.0 can.1 ((λ i. (view i, seat.ensures.3 i)), can.2.1, can.2.2) ((λ i. (reads i, guest.ensures.3 i)), can.3.1) in
    λ i. (is.me_is i).1

pub into_badge-requires-2 : goal.into_badge-requires-2
into_badge-requires-2 g c =
    let can = c.requires.can in
    let seat = c.into_seat-seat in
    let guest = c.into_seat-guest in
    let view = only_one seat.result.me.0 (Publishes can.0) (sym seat.ensures.2 ∙ ap (λ b. b.views) c.replace.ensures.value ∙ can.2.0) in
    let reads = only_one guest.result.me.0 (Reads can.1) (sym guest.ensures.2 ∙ ap (λ b. b.views) c.replace-2.ensures.value ∙ can.3.0) in
    let is = c.greet-rest.ensures.greeted can.0 can.1 ((λ i. (view i, seat.ensures.3 i)), can.2.1, can.2.2) ((λ i. (reads i, guest.ensures.3 i)), can.3.1) in
    λ i. (is.reader_is i).1

pub returns-clause-met : goal.returns-clause-met
returns-clause-met g c p r rest reading =
    let seat = c.into_seat-seat in
    let guest = c.into_seat-guest in
    let view = only_one seat.result.me.0 (Publishes p) (sym seat.ensures.2 ∙ ap (λ b. b.views) c.replace.ensures.value ∙ rest.0) in
    let reads = only_one guest.result.me.0 (Reads r) (sym guest.ensures.2 ∙ ap (λ b. b.views) c.replace-2.ensures.value ∙ reading.0) in
    let is = c.greet-rest.ensures.greeted p r ((λ i. (view i, seat.ensures.3 i)), rest.1, rest.2) ((λ i. (reads i, guest.ensures.3 i)), reading.1) in
    record {
      views_are = c.into_badge.ensures.2 ∙ ap (λ m. m.0 ∷ []) is.me_is;
      reader_is = c.into_badge-2.ensures.2 ∙ ap (λ m. m.0 ∷ []) is.reader_is;
      begun = is.begun;
    }
