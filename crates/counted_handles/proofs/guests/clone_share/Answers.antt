use Rattle.std.proofs.Common.{ap, ◌∙◌, subst, arith}
use Rattle.counted_handles.specs.Cuts.{hosting, kept_gain}
use Rattle.counted_handles.specs.Calls.{with_grant_less}
use Rattle.counted_handles.specs.Plays.{RaiseTells}
use Rattle.counted_handles.proofs.HostLemmas.{receive_allowed, clone_allowed, gain_splits, depart_splits, cloned_of}
use Rattle.counted_handles.proofs.guests.clone_share.Goals as goal

pub join_seat-requires : goal.join_seat-requires
join_seat-requires g c =
    let has = c.requires.has in
    let fits = c.requires.fits in
    (fits.1, fits.2, (λ i. (has.3 i).1), omega (arith, fits.0.0), receive_allowed g.C.Names.begins g.C.Follows.follows c.args.words.now.key.places.items c.args.seat.now.id c.args.owner.id c.args.seat.now.me.0 c.args.owner.me.0 has.0 has.1 (λ i. (has.2.0 i).0) (λ i. (has.3 i).0) has.2.1)

pub fetch_add-requires : goal.fetch_add-requires
fetch_add-requires g c =
    let has = c.requires.has in
    let fits = c.requires.fits in
    let me = c.join_seat.ensures.2 ∙ (λ i. (hosting (has.2.0 i).0 (has.3 i).0, (has.2.0 i).1)) in
    (c.join_seat.ensures.0 ∙ fits.1, omega (arith, fits.0.0, fits.3), clone_allowed g.C.Names.begins g.C.Follows.follows c.args.words.now.key.places.items _ c.join_seat.new.seat.id _ c.join_seat.new.seat.me has.0 has.1 fits.0.1 (omega (arith, has.4)) me has.2.2)

pub split_seat-share-requires : goal.split_seat-share-requires
split_seat-share-requires g c =
    let has = c.requires.has in
    let fits = c.requires.fits in
    let me = c.join_seat.ensures.2 ∙ (λ i. (hosting (has.2.0 i).0 (has.3 i).0, (has.2.0 i).1)) in
    let reported = subst (λ v. RaiseTells v c.fetch_add.result c.fetch_add.new.seat.me) (λ i. (me i).0) c.fetch_add.ensures.2 in
    (c.fetch_add.ensures.0 ∙ c.join_seat.ensures.0 ∙ fits.1, omega (arith, fits.0.0), gain_splits g.C.Names.begins g.C.Follows.follows c.args.words.now.key.places.items c.fetch_add.new.seat.id c.fetch_add.new.seat.me.0 (with_grant_less has.0) has.1 (λ i. (reported i).0))

pub split_seat-owner-requires : goal.split_seat-owner-requires
split_seat-owner-requires g c =
    let has = c.requires.has in
    let fits = c.requires.fits in
    let me = c.join_seat.ensures.2 ∙ (λ i. (hosting (has.2.0 i).0 (has.3 i).0, (has.2.0 i).1)) in
    let reported = subst (λ v. RaiseTells v c.fetch_add.result c.fetch_add.new.seat.me) (λ i. (me i).0) c.fetch_add.ensures.2 in
    let kept = c.split_seat-share.ensures.2 ∙ ap (λ m. (kept_gain m.0, m.1)) reported in
    (c.split_seat-share.ensures.0 ∙ c.fetch_add.ensures.0 ∙ c.join_seat.ensures.0 ∙ fits.1, omega (arith, fits.0.0), depart_splits g.C.Names.begins g.C.Follows.follows c.args.words.now.key.places.items c.split_seat-share.new.seat.id c.split_seat-share.new.seat.me.0 (with_grant_less has.0) has.1 (λ i. (kept i).0))

pub returns-clause-cloned : goal.returns-clause-cloned
returns-clause-cloned g c r mark guest owner =
    let me = c.join_seat.ensures.2 ∙ (λ i. (hosting (guest.0 i).0 (owner i).0, (guest.0 i).1)) in
    let reported = subst (λ v. RaiseTells v c.fetch_add.result c.fetch_add.new.seat.me) (λ i. (me i).0) c.fetch_add.ensures.2 in
    cloned_of r mark c.fetch_add.new.seat.me c.split_seat-share.new.seat.me c.split_seat-share.result.me c.split_seat-owner.new.seat.me c.split_seat-owner.result.me reported c.split_seat-share.ensures.2 c.split_seat-share.ensures.4 c.split_seat-owner.ensures.2 c.split_seat-owner.ensures.4
