use Rattle.std.proofs.Common.{subst, arith}
use Rattle.counted_handles.specs.Plays.{ResetTells}
use Rattle.counted_handles.specs.Tells.{Sat}
use Rattle.counted_handles.proofs.CallLemmas.{reset_allowed}
use Rattle.counted_handles.proofs.calls.reset.Goals as goal

pub store-requires : goal.store-requires
store-requires g c =
    let due = c.requires.due in
    (c.requires.fits.1, omega (arith, c.requires.fits.0.0, due.1), reset_allowed g.C.Names.begins g.C.Follows.follows c.args.words.now.key.places.items _ c.args.seat.now.id _ c.args.slot c.args.seat.now.me c.requires.fits.0.1 (omega arith) due.0)

pub returns : goal.returns
returns g c = record { seat = (c.store.ensures.0, c.store.ensures.1, subst (λ (m : Sat g.row.T.Denot). ResetTells m.0 c.store.new.seat.me) c.requires.due.0 c.store.ensures.2) }
