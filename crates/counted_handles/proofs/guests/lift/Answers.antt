use Rattle.std.proofs.Common.{ap, ◌∙◌, subst, arith}
use Rattle.counted_handles.specs.Cuts.{hosting, kept_gain}
use Rattle.counted_handles.specs.Calls.{with_grant_less}
use Rattle.counted_handles.specs.Tells.{with_gone}
use Rattle.counted_handles.specs.Plays.{RaiseTells, SeeTells}
use Rattle.counted_handles.proofs.HostLemmas.{receive_weak_allowed, lift_allowed, see_allowed, gain_weak_splits, depart_weak_splits, lifted_of}
use Rattle.counted_handles.proofs.guests.lift.Goals as goal

pub join_seat-requires : goal.join_seat-requires
join_seat-requires g c =
    let has = c.requires.has in
    let fits = c.requires.fits in
    (fits.1, fits.2, (λ i. (has.3 i).1), omega (arith, fits.0.0), receive_weak_allowed g.C.Names.begins g.C.Follows.follows c.args.words.now.key.places.items c.args.seat.now.id c.args.weak.id c.args.seat.now.me.0 c.args.weak.me.0 has.0 has.1 (λ i. (has.2.0 i).0) (λ i. (has.3 i).0) has.2.1)

pub load-requires : goal.load-requires
load-requires g c =
    let has = c.requires.has in
    let fits = c.requires.fits in
    let me = c.join_seat.ensures.2 ∙ (λ i. (hosting (has.2.0 i).0 (has.3 i).0, (has.2.0 i).1)) in
    (c.join_seat.ensures.0 ∙ fits.1, omega (arith, fits.0.0, fits.3), see_allowed g.C.Names.begins g.C.Follows.follows c.args.words.now.key.places.items _ c.join_seat.new.seat.id _ c.join_seat.new.seat.me has.0 has.1 fits.0.1 (omega (arith, has.4)) me)

pub split_seat-weak-requires : goal.split_seat-weak-requires
split_seat-weak-requires g c =
    let has = c.requires.has in
    let fits = c.requires.fits in
    let me = c.join_seat.ensures.2 ∙ (λ i. (hosting (has.2.0 i).0 (has.3 i).0, (has.2.0 i).1)) in
    let reported = (subst (λ v. SeeTells v c.load.result c.load.new.seat.me) (λ i. (me i).0) c.load.ensures.2).1 (omega arith) in
    (c.load.ensures.0 ∙ c.join_seat.ensures.0 ∙ fits.1, omega (arith, fits.0.0), depart_weak_splits g.C.Names.begins g.C.Follows.follows c.args.words.now.key.places.items c.load.new.seat.id c.load.new.seat.me.0 (with_gone has.1.number has.0) has.1 (λ i. (reported i).0))

pub fetch_add-requires : goal.fetch_add-requires
fetch_add-requires g c =
    let has = c.requires.has in
    let fits = c.requires.fits in
    let me = c.join_seat.ensures.2 ∙ (λ i. (hosting (has.2.0 i).0 (has.3 i).0, (has.2.0 i).1)) in
    let reported = (subst (λ v. SeeTells v c.load.result c.load.new.seat.me) (λ i. (me i).0) c.load.ensures.2).0 (omega arith) in
    (c.load.ensures.0 ∙ c.join_seat.ensures.0 ∙ fits.1, omega (arith, fits.0.0, fits.3), lift_allowed g.C.Names.begins g.C.Follows.follows c.args.words.now.key.places.items _ c.load.new.seat.id _ c.load.new.seat.me has.0 has.1 fits.0.1 (omega (arith, has.4)) reported has.2.2)

pub split_seat-weak-requires-then-fetch_add-ge-DEAD : goal.split_seat-weak-requires-then-fetch_add-ge-DEAD
split_seat-weak-requires-then-fetch_add-ge-DEAD g c =
    let has = c.requires.has in
    let fits = c.requires.fits in
    let me = c.join_seat.ensures.2 ∙ (λ i. (hosting (has.2.0 i).0 (has.3 i).0, (has.2.0 i).1)) in
    let reported = (subst (λ v. SeeTells v c.load.result c.load.new.seat.me) (λ i. (me i).0) c.load.ensures.2).0 (omega arith) in
    let raised = (subst (λ v. RaiseTells v c.fetch_add.result c.fetch_add.new.seat.me) (λ i. (reported i).0) c.fetch_add.ensures.2).1 (omega arith) in
    (c.fetch_add.ensures.0 ∙ c.load.ensures.0 ∙ c.join_seat.ensures.0 ∙ fits.1, omega (arith, fits.0.0), depart_weak_splits g.C.Names.begins g.C.Follows.follows c.args.words.now.key.places.items c.fetch_add.new.seat.id c.fetch_add.new.seat.me.0 (with_gone has.1.number (with_grant_less has.0)) has.1 (λ i. (raised i).0))

pub split_seat-share-requires : goal.split_seat-share-requires
split_seat-share-requires g c =
    let has = c.requires.has in
    let fits = c.requires.fits in
    let me = c.join_seat.ensures.2 ∙ (λ i. (hosting (has.2.0 i).0 (has.3 i).0, (has.2.0 i).1)) in
    let reported = (subst (λ v. SeeTells v c.load.result c.load.new.seat.me) (λ i. (me i).0) c.load.ensures.2).0 (omega arith) in
    let raised = (subst (λ v. RaiseTells v c.fetch_add.result c.fetch_add.new.seat.me) (λ i. (reported i).0) c.fetch_add.ensures.2).0 (omega arith) in
    (c.fetch_add.ensures.0 ∙ c.load.ensures.0 ∙ c.join_seat.ensures.0 ∙ fits.1, omega (arith, fits.0.0), gain_weak_splits g.C.Names.begins g.C.Follows.follows c.args.words.now.key.places.items c.fetch_add.new.seat.id c.fetch_add.new.seat.me.0 (with_grant_less has.0) raised.0 has.1 (λ i. (raised.2 i).0))

pub split_seat-weak-requires-2 : goal.split_seat-weak-requires-2
split_seat-weak-requires-2 g c =
    let has = c.requires.has in
    let fits = c.requires.fits in
    let me = c.join_seat.ensures.2 ∙ (λ i. (hosting (has.2.0 i).0 (has.3 i).0, (has.2.0 i).1)) in
    let reported = (subst (λ v. SeeTells v c.load.result c.load.new.seat.me) (λ i. (me i).0) c.load.ensures.2).0 (omega arith) in
    let raised = (subst (λ v. RaiseTells v c.fetch_add.result c.fetch_add.new.seat.me) (λ i. (reported i).0) c.fetch_add.ensures.2).0 (omega arith) in
    let kept = c.split_seat-share.ensures.2 ∙ ap (λ m. (kept_gain m.0, m.1)) raised.2 in
    (c.split_seat-share.ensures.0 ∙ c.fetch_add.ensures.0 ∙ c.load.ensures.0 ∙ c.join_seat.ensures.0 ∙ fits.1, omega (arith, fits.0.0), depart_weak_splits g.C.Names.begins g.C.Follows.follows c.args.words.now.key.places.items c.split_seat-share.new.seat.id c.split_seat-share.new.seat.me.0 (with_grant_less has.0) has.1 (λ i. (kept i).0))

pub returns-clause-lifted : goal.returns-clause-lifted
returns-clause-lifted g c r tie guest weak =
    let me = c.join_seat.ensures.2 ∙ (λ i. (hosting (guest.0 i).0 (weak i).0, (guest.0 i).1)) in
    let reported = (subst (λ v. SeeTells v c.load.result c.load.new.seat.me) (λ i. (me i).0) c.load.ensures.2).0 (omega arith) in
    let raised = (subst (λ v. RaiseTells v c.fetch_add.result c.fetch_add.new.seat.me) (λ i. (reported i).0) c.fetch_add.ensures.2).0 (omega arith) in
    lifted_of r tie c.fetch_add.new.seat.me c.split_seat-share.new.seat.me c.split_seat-share.result.me c.split_seat-weak-2.new.seat.me raised c.split_seat-share.ensures.2 c.split_seat-share.ensures.4 c.split_seat-weak-2.ensures.2
