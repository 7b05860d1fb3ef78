use Rattle.std.proofs.Common.{arith}
use Rattle.counted_handles.proofs.OpenLemmas.{offer_allowed, offered_as}
use Rattle.counted_handles.proofs.calls.offer.Goals as goal

pub load-requires : goal.load-requires
load-requires g c =
    let due = c.requires.shared in
    (c.requires.fits.1, omega (arith, c.requires.fits.0.0), offer_allowed g.C.Names.begins g.C.Follows.follows c.args.words.now.key.places.items _ c.args.seat.now.id c.args.seat.now.me due.0 due.1 due.2 c.requires.fits.0.1 c.requires.fits.2 due.3)

pub returns-clause-offered : goal.returns-clause-offered
returns-clause-offered g c value name spot o = offered_as g.C.Names.begins value name spot c.args.seat.now.me c.load.new.seat.me o c.load.ensures.2
