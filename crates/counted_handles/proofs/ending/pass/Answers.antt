use Rattle.std.proofs.Common.{arith}
use Rattle.counted_handles.proofs.EndLemmas.{sweep_allowed, skip_allowed}
use Rattle.counted_handles.proofs.ending.pass.Goals as goal

pub load-requires : goal.load-requires
load-requires g c =
    let due = c.requires.due in
    (c.requires.fits.1, omega (arith, c.requires.fits.0.0, c.requires.fits.3), skip_allowed g.C.Names.begins g.C.Follows.follows c.args.words.now.key.places.items _ c.args.seat.now.id _ c.args.slot due.1 c.args.last due.0 c.args.seat.now.me c.requires.fits.0.1 c.requires.fits.2 (omega arith) c.if-slot-last.true due.2)

pub load-requires-2 : goal.load-requires-2
load-requires-2 g c =
    let due = c.requires.due in
    (c.requires.fits.1, omega (arith, c.requires.fits.0.0, c.requires.fits.3), sweep_allowed g.C.Names.begins g.C.Follows.follows c.args.words.now.key.places.items _ c.args.seat.now.id _ c.args.slot due.1 c.args.last due.0 c.args.seat.now.me c.requires.fits.0.1 c.requires.fits.2 (omega arith) c.requires.fits.3 c.if-slot-last.false due.2)
