use Rattle.std.proofs.Common.{arith}
use Rattle.counted_handles.proofs.EndLemmas.{shut_allowed}
use Rattle.counted_handles.proofs.ending.shut.Goals as goal

pub load-requires : goal.load-requires
load-requires g c =
    let due = c.requires.vacant in
    (c.requires.fits.1, omega (arith, c.requires.fits.0.0), shut_allowed g.C.Names.begins g.C.Follows.follows c.args.words.now.key.places.items _ c.args.seat.now.id c.args.last due.spot due.room c.args.seat.now.me c.requires.fits.0.1 c.requires.fits.2 due.me_is due.lies due.whole)
