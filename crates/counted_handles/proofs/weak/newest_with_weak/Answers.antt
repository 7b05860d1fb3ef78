use Rattle.std.proofs.Common.{sym, ap, ◌∙◌, subst, ◌<◌, [], ◌∷◌}
use Rattle.cell_core.specs.Words.{slots}
use Rattle.counted_handles.specs.declared.view.View.TheVariants.{Publishes, Reads}
use Rattle.counted_handles.specs.Calls.{IsOld, gave_back}
use Rattle.counted_handles.specs.Tells.{tie_of}
use Rattle.counted_handles.proofs.CallLemmas.{only_one}
use Rattle.counted_handles.proofs.weak.newest_with_weak.Goals as goal

pub note-owner-requires-clause-has : goal.note-owner-requires-clause-has
note-owner-requires-clause-has g c =
    let can = c.requires.can in
    let seat = c.into_seat-seat in
    let guest = c.into_seat-guest in
    let view = only_one seat.result.me.0 (Publishes can.0) (sym seat.ensures.2 ∙ ap (λ b. b.views) c.replace.ensures.value ∙ can.2.0) in
    let reads = only_one guest.result.me.0 (Reads can.1) (sym guest.ensures.2 ∙ ap (λ b. b.views) c.replace-2.ensures.value ∙ can.3.0) in
    let is = c.draw_newest-found.ensures.newest can.0 can.1 ((λ i. (view i, seat.ensures.3 i)), can.2.1, can.2.2) ((λ i. (reads i, guest.ensures.3 i)), can.3.1, can.3.2) in
    (gave_back can.0, is.mark, is.me_is, can.2.1, can.5, is.share_is, is.last.slot)

pub into_badge-requires : goal.into_badge-requires
into_badge-requires g c =
    let can = c.requires.can in
    let seat = c.into_seat-seat in
    let guest = c.into_seat-guest in
    let view = only_one seat.result.me.0 (Publishes can.0) (sym seat.ensures.2 ∙ ap (λ b. b.views) c.replace.ensures.value ∙ can.2.0) in
    let reads = only_one guest.result.me.0 (Reads can.1) (sym guest.ensures.2 ∙ ap (λ b. b.views) c.replace-2.ensures.value ∙ can.3.0) in
    let is = c.draw_newest-found.ensures.newest can.0 can.1 ((λ i. (view i, seat.ensures.3 i)), can.2.1, can.2.2) ((λ i. (reads i, guest.ensures.3 i)), can.3.1, can.3.2) in
    let noted = c.note-owner.ensures.noted (gave_back can.0) is.mark is.me_is can.2.1 is.share_is in
    λ i. (noted.0 i).1

pub own-strong-requires-clause-has : goal.own-strong-requires-clause-has
own-strong-requires-clause-has g c =
    let can = c.requires.can in
    let seat = c.into_seat-seat in
    let guest = c.into_seat-guest in
    let view = only_one seat.result.me.0 (Publishes can.0) (sym seat.ensures.2 ∙ ap (λ b. b.views) c.replace.ensures.value ∙ can.2.0) in
    let reads = only_one guest.result.me.0 (Reads can.1) (sym guest.ensures.2 ∙ ap (λ b. b.views) c.replace-2.ensures.value ∙ can.3.0) in
    let is = c.draw_newest-found.ensures.newest can.0 can.1 ((λ i. (view i, seat.ensures.3 i)), can.2.1, can.2.2) ((λ i. (reads i, guest.ensures.3 i)), can.3.1, can.3.2) in
    let noted = c.note-owner.ensures.noted (gave_back can.0) is.mark is.me_is can.2.1 is.share_is in
    (is.mark, noted.1, is.last.slot, is.last.name_is ∙ can.4, subst (λ k. k < slots) is.last.slot is.last.within)

pub keep_weak-weak-requires-clause-fits : goal.keep_weak-weak-requires-clause-fits
keep_weak-weak-requires-clause-fits g c =
    let can = c.requires.can in
    let seat = c.into_seat-seat in
    let guest = c.into_seat-guest in
    let view = only_one seat.result.me.0 (Publishes can.0) (sym seat.ensures.2 ∙ ap (λ b. b.views) c.replace.ensures.value ∙ can.2.0) in
    let reads = only_one guest.result.me.0 (Reads can.1) (sym guest.ensures.2 ∙ ap (λ b. b.views) c.replace-2.ensures.value ∙ can.3.0) in
    let is = c.draw_newest-found.ensures.newest can.0 can.1 ((λ i. (view i, seat.ensures.3 i)), can.2.1, can.2.2) ((λ i. (reads i, guest.ensures.3 i)), can.3.1, can.3.2) in
    (c.note-owner.ensures.seats.3 ∙ c.draw_newest-found.ensures.seats.0 ∙ seat.ensures.0 ∙ ap (λ b. b.table_id) c.replace.ensures.value ∙ c.requires.fits.0, subst (λ k. k < slots) is.last.slot is.last.within)

pub keep_weak-weak-requires-clause-has : goal.keep_weak-weak-requires-clause-has
keep_weak-weak-requires-clause-has g c =
    let can = c.requires.can in
    let seat = c.into_seat-seat in
    let guest = c.into_seat-guest in
    let view = only_one seat.result.me.0 (Publishes can.0) (sym seat.ensures.2 ∙ ap (λ b. b.views) c.replace.ensures.value ∙ can.2.0) in
    let reads = only_one guest.result.me.0 (Reads can.1) (sym guest.ensures.2 ∙ ap (λ b. b.views) c.replace-2.ensures.value ∙ can.3.0) in
    let is = c.draw_newest-found.ensures.newest can.0 can.1 ((λ i. (view i, seat.ensures.3 i)), can.2.1, can.2.2) ((λ i. (reads i, guest.ensures.3 i)), can.3.1, can.3.2) in
    let noted = c.note-owner.ensures.noted (gave_back can.0) is.mark is.me_is can.2.1 is.share_is in
    (tie_of is.mark, noted.2, is.last.slot, is.last.name_is ∙ can.4, sym (ap (λ o. o.version) (c.own-strong.ensures is.mark noted.1)) ∙ sym c.version.ensures)

pub returns-clause-newest : goal.returns-clause-newest
returns-clause-newest g c p r rest reading =
    let seat = c.into_seat-seat in
    let guest = c.into_seat-guest in
    let view = only_one seat.result.me.0 (Publishes p) (sym seat.ensures.2 ∙ ap (λ b. b.views) c.replace.ensures.value ∙ rest.0) in
    let reads = only_one guest.result.me.0 (Reads r) (sym guest.ensures.2 ∙ ap (λ b. b.views) c.replace-2.ensures.value ∙ reading.0) in
    let is = c.draw_newest-found.ensures.newest p r ((λ i. (view i, seat.ensures.3 i)), rest.1, rest.2) ((λ i. (reads i, guest.ensures.3 i)), reading.1, reading.2) in
    let noted = c.note-owner.ensures.noted (gave_back p) is.mark is.me_is rest.1 is.share_is in
    let owned = sym (ap (λ o. o.version) (c.own-strong.ensures is.mark noted.1)) in
    record {
      last = subst (λ v. IsOld p v) owned (is.last.last, is.last.value);
      views_are = c.into_badge.ensures.2 ∙ ap (λ m. m.0 ∷ []) noted.0;
      reader_is = c.into_badge-2.ensures.2 ∙ ap (λ m. m.0 ∷ []) is.reader_is;
      begun = is.begun;
    }

pub returns-clause-table : goal.returns-clause-table
returns-clause-table g c =
    let can = c.requires.can in
    let seat = c.into_seat-seat in
    let guest = c.into_seat-guest in
    let view = only_one seat.result.me.0 (Publishes can.0) (sym seat.ensures.2 ∙ ap (λ b. b.views) c.replace.ensures.value ∙ can.2.0) in
    let reads = only_one guest.result.me.0 (Reads can.1) (sym guest.ensures.2 ∙ ap (λ b. b.views) c.replace-2.ensures.value ∙ can.3.0) in
    let is = c.draw_newest-found.ensures.newest can.0 can.1 ((λ i. (view i, seat.ensures.3 i)), can.2.1, can.2.2) ((λ i. (reads i, guest.ensures.3 i)), can.3.1, can.3.2) in
    let noted = c.note-owner.ensures.noted (gave_back can.0) is.mark is.me_is can.2.1 is.share_is in
    let owned = c.own-strong.ensures is.mark noted.1 in
    ap (λ o. o.table) owned

pub returns-clause-weak : goal.returns-clause-weak
returns-clause-weak g c =
    let can = c.requires.can in
    let seat = c.into_seat-seat in
    let guest = c.into_seat-guest in
    let view = only_one seat.result.me.0 (Publishes can.0) (sym seat.ensures.2 ∙ ap (λ b. b.views) c.replace.ensures.value ∙ can.2.0) in
    let reads = only_one guest.result.me.0 (Reads can.1) (sym guest.ensures.2 ∙ ap (λ b. b.views) c.replace-2.ensures.value ∙ can.3.0) in
    let is = c.draw_newest-found.ensures.newest can.0 can.1 ((λ i. (view i, seat.ensures.3 i)), can.2.1, can.2.2) ((λ i. (reads i, guest.ensures.3 i)), can.3.1, can.3.2) in
    let noted = c.note-owner.ensures.noted (gave_back can.0) is.mark is.me_is can.2.1 is.share_is in
    let owned = c.own-strong.ensures is.mark noted.1 in
    c.keep_weak-weak.ensures ∙ (λ i. record { version = (c.version.ensures ∙ ap (λ o. o.version) owned) i; table = c.args.words.now.table_id }) ∙ sym owned
