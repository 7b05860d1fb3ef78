use Rattle.std.proofs.Common.{subst, arith}
use Rattle.counted_handles.specs.Plays.{LookTells}
use Rattle.counted_handles.specs.Tells.{Sat}
use Rattle.counted_handles.proofs.OpenLemmas.{look_allowed}
use Rattle.counted_handles.proofs.calls.look.Goals as goal

pub load-requires : goal.load-requires
load-requires g c =
    let alone = c.requires.alone in
    (c.requires.fits.1, omega (arith, c.requires.fits.0.0), look_allowed g.C.Names.begins g.C.Follows.follows c.args.words.now.key.places.items _ c.args.seat.now.id c.args.seat.now.me alone.0 c.requires.fits.0.1 c.requires.fits.2 alone.1 alone.2)

pub returns-clause-looked : goal.returns-clause-looked
returns-clause-looked g c p is = subst (λ (m : Sat g.row.T.Denot). LookTells m.0 c.load.result c.load.new.seat.me) is c.load.ensures.2
