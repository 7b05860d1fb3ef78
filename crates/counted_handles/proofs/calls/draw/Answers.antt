use Rattle.std.proofs.Common.{refl, sym, ap, ◌∙◌, subst, arith}
use Rattle.counted_handles.specs.declared.view.View.TheVariants.{Reads}
use Rattle.counted_handles.specs.Plays.{LoadTells}
use Rattle.counted_handles.proofs.CallLemmas.{only_one, load_allowed, share_splits, drawn_of}
use Rattle.counted_handles.proofs.calls.draw.Goals as goal

pub fetch_add-found-requires : goal.fetch_add-found-requires
fetch_add-found-requires g c =
    let can = c.requires.can in
    let seat = c.into_seat-seat in
    let view = only_one seat.result.me.0 (Reads can.0) (sym seat.ensures.2 ∙ ap (λ b. b.views) c.replace.ensures.value ∙ can.1.0) in
    (seat.ensures.0 ∙ ap (λ b. b.table_id) c.replace.ensures.value ∙ c.requires.fits.1, omega (arith, c.requires.fits.0.0), load_allowed g.C.Names.begins g.C.Follows.follows c.args.words.now.key.places.items _ seat.result.id seat.result.me can.0 c.requires.fits.0.1 (λ i. (view i, seat.ensures.3 i)) can.1.1 can.1.2)

pub split_seat-share-requires : goal.split_seat-share-requires
split_seat-share-requires g c =
    let can = c.requires.can in
    let seat = c.into_seat-seat in
    let added = c.fetch_add-found in
    let view = only_one seat.result.me.0 (Reads can.0) (sym seat.ensures.2 ∙ ap (λ b. b.views) c.replace.ensures.value ∙ can.1.0) in
    let reported = subst (λ v. LoadTells g.C.Names.begins g.C.Follows.follows v added.result added.new.seat.me) view added.ensures.2 in
    (added.ensures.0 ∙ seat.ensures.0 ∙ ap (λ b. b.table_id) c.replace.ensures.value ∙ c.requires.fits.1, omega (arith, c.requires.fits.0.0), share_splits g.C.Names.begins g.C.Follows.follows c.args.words.now.key.places.items added.new.seat.id added.new.seat.me.0 _ reported.1 (λ i. (reported.2 i).0) refl)

pub returns-clause-drawn : goal.returns-clause-drawn
returns-clause-drawn g c reading can =
    let seat = c.into_seat-seat in
    let added = c.fetch_add-found in
    let share = c.split_seat-share in
    let view = only_one seat.result.me.0 (Reads reading) (sym seat.ensures.2 ∙ ap (λ b. b.views) c.replace.ensures.value ∙ can.0) in
    let reported = subst (λ v. LoadTells g.C.Names.begins g.C.Follows.follows v added.result added.new.seat.me) view added.ensures.2 in
    drawn_of g.C.Names.begins g.C.Follows.follows c.args.words.now.key.places.items reading added.result added.new.seat.me share.new.seat.me share.result.me c.into_badge.result.views can.1 reported share.ensures.2 share.ensures.4 c.into_badge.ensures.2
