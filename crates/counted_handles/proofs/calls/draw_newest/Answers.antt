use Rattle.std.proofs.Common.{refl, ap, ◌∙◌, subst, arith}
use Rattle.counted_handles.specs.Cuts.{kept_share, lodged, lodging}
use Rattle.counted_handles.specs.Plays.{NewestTells}
use Rattle.counted_handles.proofs.CallLemmas.{share_splits_publisher}
use Rattle.counted_handles.proofs.EndLemmas.{lodge_allowed}
use Rattle.counted_handles.proofs.GuestLemmas.{newest_allowed, met_splits, newest_of}
use Rattle.counted_handles.proofs.calls.draw_newest.Goals as goal

pub join_seat-requires : goal.join_seat-requires
join_seat-requires g c =
    let idle = c.requires.idle in
    let fits = c.requires.fits in
    (fits.1, fits.3, (λ i. (idle.3.0 i).1), omega (arith, fits.0.0), lodge_allowed g.C.Names.begins g.C.Follows.follows c.args.words.now.key.places.items c.args.seat.now.id c.args.guest.id c.args.seat.now.me.0 c.args.guest.me.0 idle.0 idle.1 (λ i. (idle.2.0 i).0) (λ i. (idle.3.0 i).0) idle.3.1)

pub fetch_add-found-requires : goal.fetch_add-found-requires
fetch_add-found-requires g c =
    let idle = c.requires.idle in
    let fits = c.requires.fits in
    let me = c.join_seat.ensures.2 ∙ (λ i. (lodging (idle.2.0 i).0 (idle.3.0 i).0, (idle.2.0 i).1)) in
    (c.join_seat.ensures.0 ∙ fits.1, omega (arith, fits.0.0), newest_allowed g.C.Names.begins g.C.Follows.follows c.args.words.now.key.places.items _ c.join_seat.new.seat.id c.join_seat.new.seat.me (lodged idle.0 idle.1) fits.0.1 (c.join_seat.ensures.1 ∙ fits.2) me idle.2.1 (omega (arith, idle.3.2)))

pub split_seat-share-requires : goal.split_seat-share-requires
split_seat-share-requires g c =
    let idle = c.requires.idle in
    let fits = c.requires.fits in
    let me = c.join_seat.ensures.2 ∙ (λ i. (lodging (idle.2.0 i).0 (idle.3.0 i).0, (idle.2.0 i).1)) in
    let reported = subst (λ v. NewestTells g.C.Names.begins g.C.Follows.follows v c.fetch_add-found.result c.fetch_add-found.new.seat.me) (λ i. (me i).0) c.fetch_add-found.ensures.2 in
    (c.fetch_add-found.ensures.0 ∙ c.join_seat.ensures.0 ∙ fits.1, omega (arith, fits.0.0), share_splits_publisher g.C.Names.begins g.C.Follows.follows c.args.words.now.key.places.items c.fetch_add-found.new.seat.id c.fetch_add-found.new.seat.me.0 _ reported.0 (λ i. (reported.1 i).0) refl)

pub split_seat-reader-requires : goal.split_seat-reader-requires
split_seat-reader-requires g c =
    let idle = c.requires.idle in
    let fits = c.requires.fits in
    let me = c.join_seat.ensures.2 ∙ (λ i. (lodging (idle.2.0 i).0 (idle.3.0 i).0, (idle.2.0 i).1)) in
    let reported = subst (λ v. NewestTells g.C.Names.begins g.C.Follows.follows v c.fetch_add-found.result c.fetch_add-found.new.seat.me) (λ i. (me i).0) c.fetch_add-found.ensures.2 in
    let kept = c.split_seat-share.ensures.2 ∙ ap (λ m. (kept_share m.0, m.1)) reported.1 in
    (c.split_seat-share.ensures.0 ∙ c.fetch_add-found.ensures.0 ∙ c.join_seat.ensures.0 ∙ fits.1, omega (arith, fits.0.0), met_splits g.C.Names.begins g.C.Follows.follows c.args.words.now.key.places.items c.split_seat-share.new.seat.id c.split_seat-share.new.seat.me.0 _ (λ i. (kept i).0) refl)

pub returns-clause-newest : goal.returns-clause-newest
returns-clause-newest g c p r idle guest =
    let me = c.join_seat.ensures.2 ∙ (λ i. (lodging (idle.0 i).0 (guest.0 i).0, (idle.0 i).1)) in
    let reported = subst (λ v. NewestTells g.C.Names.begins g.C.Follows.follows v c.fetch_add-found.result c.fetch_add-found.new.seat.me) (λ i. (me i).0) c.fetch_add-found.ensures.2 in
    newest_of g.C.Names.begins g.C.Follows.follows c.args.words.now.key.places.items p r c.fetch_add-found.result c.fetch_add-found.new.seat.me c.split_seat-share.new.seat.me c.split_seat-share.result.me c.split_seat-reader.new.seat.me c.split_seat-reader.result.me idle.1 idle.2 guest.2 reported c.split_seat-share.ensures.2 c.split_seat-share.ensures.4 c.split_seat-reader.ensures.2 c.split_seat-reader.ensures.4
