use Rattle.std.proofs.Common.{subst, arith}
use Rattle.counted_handles.specs.Plays.{OpenTells}
use Rattle.counted_handles.specs.Tells.{Sat}
use Rattle.counted_handles.proofs.OpenLemmas.{open_allowed}
use Rattle.counted_handles.proofs.calls.open.Goals as goal

pub load-requires : goal.load-requires
load-requires g c =
    let first = c.requires.first in
    (c.requires.fits.1, omega (arith, c.requires.fits.0.0), open_allowed g.C.Names.begins g.C.Follows.follows c.args.words.now.key.places.items _ c.args.seat.now.id c.args.seat.now.me first.0 c.requires.fits.0.1 c.requires.fits.2 first.1)

pub returns-clause-opened : goal.returns-clause-opened
returns-clause-opened g c value is = subst (λ (m : Sat g.row.T.Denot). OpenTells m.0 c.load.new.seat.me) is c.load.ensures.2
