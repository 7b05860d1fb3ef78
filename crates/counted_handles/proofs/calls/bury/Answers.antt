use Rattle.std.proofs.Common.{subst, arith}
use Rattle.counted_handles.specs.Plays.{BuryTells}
use Rattle.counted_handles.specs.Tells.{Sat}
use Rattle.counted_handles.proofs.CallLemmas.{bury_allowed}
use Rattle.counted_handles.proofs.calls.bury.Goals as goal

pub compare_exchange-requires : goal.compare_exchange-requires
compare_exchange-requires g c =
    let due = c.requires.due in
    (c.requires.fits.1, omega (arith, c.requires.fits.0.0, due.2), bury_allowed g.C.Names.begins g.C.Follows.follows c.args.words.now.key.places.items _ c.args.seat.now.id _ c.args.slot due.0 c.args.seat.now.me c.requires.fits.0.1 (omega arith) due.1)

pub returns-clause-tried : goal.returns-clause-tried
returns-clause-tried g c name is = subst (λ (m : Sat g.row.T.Denot). BuryTells g.C.Names.begins g.C.Follows.follows m.0 c.compare_exchange.result c.compare_exchange.new.seat.me) is c.compare_exchange.ensures.2
