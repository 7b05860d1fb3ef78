use Rattle.std.proofs.Common.{arith}
use Rattle.counted_handles.proofs.CallLemmas.{probe_allowed}
use Rattle.counted_handles.proofs.probed.Probed.probe.Goals as goal

pub load-free-requires : goal.load-free-requires
load-free-requires g c =
    let due = c.requires.due in
    (c.requires.fits.1, omega (arith, c.requires.fits.0.0, due.0), probe_allowed g.C.Names.begins g.C.Follows.follows c.args.words.now.key.places.items _ c.args.seat.now.id _ c.args.self.now due.1.0 c.args.seat.now.me c.requires.fits.0.1 c.requires.fits.2 (omega arith) due.1.1)
