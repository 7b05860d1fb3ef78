use Rattle.std.proofs.Common.{refl, sym, ap, ◌∙◌, subst, ◌<◌, [], ◌∷◌, ◌++◌, None}
use Rattle.cell_core.specs.Words.{slots}
use Rattle.counted_handles.specs.declared.view.View.TheVariants.{Publishes}
use Rattle.counted_handles.specs.Found.{without}
use Rattle.counted_handles.specs.Calls.{IsOld, IsNewer, HasNone}
use Rattle.counted_handles.proofs.CallLemmas.{only_one}
use Rattle.counted_handles.proofs.PutLemmas.{put_as, swapping_of, same_publisher}
use Rattle.counted_handles.proofs.publications.publish.Goals as goal

pub into_badge-requires : goal.into_badge-requires
into_badge-requires g c =
    let due = c.requires.due in
    let seat = c.into_seat-seat in
    let view = only_one seat.result.me.0 (Publishes due.0) (sym seat.ensures.2 ∙ ap (λ b. b.views) c.replace.ensures.value ∙ due.1.0) in
    let taken = c.in_default.ensures.taken due.0 ((λ i. (view i, seat.ensures.3 i)), due.1.1) in
    λ i. (taken.1 i).1

pub returns-in_default-clause-refused : goal.returns-in_default-clause-refused
returns-in_default-clause-refused g c =
    let due = c.requires.due in
    let seat = c.into_seat-seat in
    let view = only_one seat.result.me.0 (Publishes due.0) (sym seat.ensures.2 ∙ ap (λ b. b.views) c.replace.ensures.value ∙ due.1.0) in
    let taken = c.in_default.ensures.taken due.0 ((λ i. (view i, seat.ensures.3 i)), due.1.1) in
    (refl, taken.0, c.into_badge.ensures.2 ∙ ap (λ m. m.0 ∷ []) taken.1 ∙ sym due.1.0)

pub returns-in_default-clause-none_found : goal.returns-in_default-clause-none_found
returns-in_default-clause-none_found g c p can =
    let due = c.requires.due in
    let seat = c.into_seat-seat in
    let view = only_one seat.result.me.0 (Publishes due.0) (sym seat.ensures.2 ∙ ap (λ b. b.views) c.replace.ensures.value ∙ due.1.0) in
    let taken = c.in_default.ensures.taken due.0 ((λ i. (view i, seat.ensures.3 i)), due.1.1) in
    subst (λ q. HasNone q) (same_publisher due.0 p c.args.badge.now.views due.1.0 can.0) taken.2

pub put-requires-clause-fits : goal.put-requires-clause-fits
put-requires-clause-fits g c =
    let due = c.requires.due in
    let seat = c.into_seat-seat in
    let view = only_one seat.result.me.0 (Publishes due.0) (sym seat.ensures.2 ∙ ap (λ b. b.views) c.replace.ensures.value ∙ due.1.0) in
    let taken = c.in-Some.ensures.taken due.0 ((λ i. (view i, seat.ensures.3 i)), due.1.1) in
    (c.requires.spots.fits, c.take.ensures.seat.0 ∙ seat.ensures.0 ∙ ap (λ b. b.table_id) c.replace.ensures.value ∙ c.requires.fits.0, c.take.ensures.seat.1 ∙ seat.ensures.1 ∙ ap (λ b. b.id) c.replace.ensures.value ∙ c.requires.fits.1, taken.0)

pub into_badge-requires-2 : goal.into_badge-requires-2
into_badge-requires-2 g c =
    let due = c.requires.due in
    let seat = c.into_seat-seat in
    let view = only_one seat.result.me.0 (Publishes due.0) (sym seat.ensures.2 ∙ ap (λ b. b.views) c.replace.ensures.value ∙ due.1.0) in
    let taken = c.in-Some.ensures.taken due.0 ((λ i. (view i, seat.ensures.3 i)), due.1.1) in
    let lies = c.put.ensures.lies due.0 taken.1 due.3 due.2 in
    let swapping = swapping_of g.C.Names.begins g.C.Follows.follows c.in-Some.slot due.0 c.args.value lies.0 c.put.new.seat.me taken.0 lies.1 due.4 in
    let swapped = c.swap_in-share.ensures.published (put_as due.0 c.in-Some.slot c.args.value lies.0) c.args.value swapping due.1.2 in
    λ i. (swapped.me_is i).1

pub own-requires-clause-has : goal.own-requires-clause-has
own-requires-clause-has g c =
    let due = c.requires.due in
    let seat = c.into_seat-seat in
    let view = only_one seat.result.me.0 (Publishes due.0) (sym seat.ensures.2 ∙ ap (λ b. b.views) c.replace.ensures.value ∙ due.1.0) in
    let taken = c.in-Some.ensures.taken due.0 ((λ i. (view i, seat.ensures.3 i)), due.1.1) in
    let lies = c.put.ensures.lies due.0 taken.1 due.3 due.2 in
    let swapping = swapping_of g.C.Names.begins g.C.Follows.follows c.in-Some.slot due.0 c.args.value lies.0 c.put.new.seat.me taken.0 lies.1 due.4 in
    let swapped = c.swap_in-share.ensures.published (put_as due.0 c.in-Some.slot c.args.value lies.0) c.args.value swapping due.1.2 in
    (swapped.mark, swapped.share_is, swapped.slot_is, swapped.name_is ∙ due.3, subst (λ k. k < slots) swapped.slot_is swapped.within)

pub returns-clause-old : goal.returns-clause-old
returns-clause-old g c =
    let due = c.requires.due in
    let seat = c.into_seat-seat in
    let view = only_one seat.result.me.0 (Publishes due.0) (sym seat.ensures.2 ∙ ap (λ b. b.views) c.replace.ensures.value ∙ due.1.0) in
    let taken = c.in-Some.ensures.taken due.0 ((λ i. (view i, seat.ensures.3 i)), due.1.1) in
    let lies = c.put.ensures.lies due.0 taken.1 due.3 due.2 in
    let swapping = swapping_of g.C.Names.begins g.C.Follows.follows c.in-Some.slot due.0 c.args.value lies.0 c.put.new.seat.me taken.0 lies.1 due.4 in
    let swapped = c.swap_in-share.ensures.published (put_as due.0 c.in-Some.slot c.args.value lies.0) c.args.value swapping due.1.2 in
    let owned = c.own.ensures swapped.mark swapped.share_is in
    let own = sym (ap (λ o. o.version) owned) in (
      ap (λ o. o.table) owned,
      λ p can. subst (λ q. IsOld q c.own.result.version) (same_publisher due.0 p c.args.badge.now.views due.1.0 can.0) (subst (λ v. IsOld due.0 v) own (swapped.last, swapped.value_is)),
    )

pub returns-clause-published : goal.returns-clause-published
returns-clause-published g c p can =
    let due = c.requires.due in
    let seat = c.into_seat-seat in
    let view = only_one seat.result.me.0 (Publishes due.0) (sym seat.ensures.2 ∙ ap (λ b. b.views) c.replace.ensures.value ∙ due.1.0) in
    let taken = c.in-Some.ensures.taken due.0 ((λ i. (view i, seat.ensures.3 i)), due.1.1) in
    let lies = c.put.ensures.lies due.0 taken.1 due.3 due.2 in
    let swapping = swapping_of g.C.Names.begins g.C.Follows.follows c.in-Some.slot due.0 c.args.value lies.0 c.put.new.seat.me taken.0 lies.1 due.4 in
    let swapped = c.swap_in-share.ensures.published (put_as due.0 c.in-Some.slot c.args.value lies.0) c.args.value swapping due.1.2 in
    let views = c.into_badge-2.ensures.2 ∙ ap (λ m. m.0 ∷ []) swapped.me_is ∙ (λ i. Publishes (record (due.0) { published = due.0.published ++ c.args.value ∷ []; how = sym due.1.1 i; next = None; fixed = None; spot = lies.0; found = without c.in-Some.slot due.0.found }) ∷ []) in
    subst (λ q. IsNewer q c.args.value c.into_badge-2.result.views) (same_publisher due.0 p c.args.badge.now.views due.1.0 can.0) (lies.0, c.in-Some.slot, views)
