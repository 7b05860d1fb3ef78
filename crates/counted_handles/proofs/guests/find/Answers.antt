use Rattle.std.proofs.Common.{◌∙◌, subst, arith}
use Rattle.counted_handles.specs.Cuts.{hosting}
use Rattle.counted_handles.specs.Plays.{SeeTells}
use Rattle.counted_handles.proofs.HostLemmas.{receive_allowed, find_allowed, depart_splits, found_of}
use Rattle.counted_handles.proofs.guests.find.Goals as goal

pub join_seat-requires : goal.join_seat-requires
join_seat-requires g c =
    let has = c.requires.has in
    let fits = c.requires.fits in
    (fits.1, fits.2, (λ i. (has.3 i).1), omega (arith, fits.0.0), receive_allowed g.C.Names.begins g.C.Follows.follows c.args.words.now.key.places.items c.args.seat.now.id c.args.owner.id c.args.seat.now.me.0 c.args.owner.me.0 has.0 has.1 (λ i. (has.2.0 i).0) (λ i. (has.3 i).0) has.2.1)

pub load-requires : goal.load-requires
load-requires g c =
    let has = c.requires.has in
    let fits = c.requires.fits in
    let me = c.join_seat.ensures.2 ∙ (λ i. (hosting (has.2.0 i).0 (has.3 i).0, (has.2.0 i).1)) in
    (c.join_seat.ensures.0 ∙ fits.1, omega (arith, fits.0.0, fits.3), find_allowed g.C.Names.begins g.C.Follows.follows c.args.words.now.key.places.items _ c.join_seat.new.seat.id _ c.join_seat.new.seat.me has.0 has.1 fits.0.1 (omega (arith, has.4)) me)

pub split_seat-requires : goal.split_seat-requires
split_seat-requires g c =
    let has = c.requires.has in
    let fits = c.requires.fits in
    let me = c.join_seat.ensures.2 ∙ (λ i. (hosting (has.2.0 i).0 (has.3 i).0, (has.2.0 i).1)) in
    let reported = subst (λ v. SeeTells v c.load.result c.load.new.seat.me) (λ i. (me i).0) c.load.ensures.2 in
    (c.load.ensures.0 ∙ c.join_seat.ensures.0 ∙ fits.1, omega (arith, fits.0.0), depart_splits g.C.Names.begins g.C.Follows.follows c.args.words.now.key.places.items c.load.new.seat.id c.load.new.seat.me.0 has.0 has.1 (λ i. (reported.0 i).0))

pub returns-clause-found : goal.returns-clause-found
returns-clause-found g c r mark whole owner =
    let me = c.join_seat.ensures.2 ∙ (λ i. (hosting (whole.0 i).0 (owner i).0, (whole.0 i).1)) in
    let reported = subst (λ v. SeeTells v c.load.result c.load.new.seat.me) (λ i. (me i).0) c.load.ensures.2 in
    found_of r mark c.load.new.seat.me c.split_seat.new.seat.me c.split_seat.result.me reported c.split_seat.ensures.2 c.split_seat.ensures.4
