use Rattle.std.proofs.Common.{subst, arith}
use Rattle.counted_handles.specs.Plays.{ReleaseTells}
use Rattle.counted_handles.specs.Tells.{Sat}
use Rattle.counted_handles.proofs.CallLemmas.{release_allowed}
use Rattle.counted_handles.proofs.calls.lower.Goals as goal

pub fetch_sub-requires : goal.fetch_sub-requires
fetch_sub-requires g c =
    let has = c.requires.has in
    (c.requires.fits.1, omega (arith, c.requires.fits.0.0, has.3), release_allowed g.C.Names.begins g.C.Follows.follows c.args.words.now.key.places.items _ c.args.seat.now.id _ c.args.seat.now.me has.0 c.requires.fits.0.1 (omega (arith, has.2)) has.1)

pub returns-clause-lowered : goal.returns-clause-lowered
returns-clause-lowered g c mark is = subst (λ (m : Sat g.row.T.Denot). ReleaseTells m.0 c.fetch_sub.result c.fetch_sub.new.seat.me) is c.fetch_sub.ensures.2
