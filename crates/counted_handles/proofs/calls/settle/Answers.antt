use Rattle.std.proofs.Common.{subst, arith}
use Rattle.counted_handles.specs.Plays.{SettleTells, SettleAt}
use Rattle.counted_handles.specs.Tells.{Sat}
use Rattle.counted_handles.proofs.CallLemmas.{settle_allowed}
use Rattle.counted_handles.proofs.calls.settle.Goals as goal

pub fetch_sub-requires : goal.fetch_sub-requires
fetch_sub-requires g c =
    let due = c.requires.settling in
    (c.requires.fits.1, omega (arith, c.requires.fits.0.0, due.2.within), settle_allowed g.C.Names.begins g.C.Follows.follows c.args.words.now.key.places.items _ c.args.seat.now.id _ _ c.args.slot c.args.given due.0 due.1 c.args.seat.now.me c.requires.fits.0.1 c.requires.fits.2 (omega arith) (omega arith) due.2)

pub returns-clause-settled : goal.returns-clause-settled
returns-clause-settled g c p number due =
    let reported = subst (λ (m : Sat g.row.T.Denot). SettleTells m.0 c.fetch_sub.new.seat.me) due.me_is c.fetch_sub.ensures.2 in
    subst (λ q. SettleAt p q c.fetch_sub.new.seat.me) due.how reported
