use Rattle.std.proofs.Common.{arith}
use Rattle.counted_handles.proofs.FoundLemmas.{scan_allowed}
use Rattle.counted_handles.proofs.found.scan.Goals as goal

pub load-requires : goal.load-requires
load-requires g c =
    let due = c.requires.due in
    (c.requires.fits.1, omega (arith, c.requires.fits.0.0, c.requires.fits.3), scan_allowed g.C.Names.begins g.C.Follows.follows c.args.words.now.key.places.items _ c.args.seat.now.id _ c.args.slot due.0 c.args.seat.now.me c.requires.fits.0.1 c.requires.fits.2 (omega arith) due.1)
