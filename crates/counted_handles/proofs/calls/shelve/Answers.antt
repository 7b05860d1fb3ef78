use Rattle.std.proofs.Common.{sym, ◌∙◌, subst, arith}
use Rattle.counted_handles.specs.Plays.{PrepareTells}
use Rattle.counted_handles.specs.Tells.{Sat, Prepared}
use Rattle.counted_handles.proofs.CallLemmas.{prepare_allowed, prepared_value}
use Rattle.counted_handles.proofs.calls.shelve.Goals as goal

pub store-requires : goal.store-requires
store-requires g c =
    let ready = c.requires.ready in
    (c.requires.fits.1, omega (arith, c.requires.fits.0.0, ready.3.within), prepare_allowed g.C.Names.begins g.C.Follows.follows c.args.words.now.key.places.items _ c.args.seat.now.id _ c.args.slot ready.0 ready.1 ready.2 c.args.seat.now.me c.requires.fits.0.1 c.requires.fits.2 (omega arith) ready.3)

pub returns-clause-lies : goal.returns-clause-lies
returns-clause-lies g c p value room ready =
    let reported = subst (λ (m : Sat g.row.T.Denot). PrepareTells m c.store.new.seat.me) ready.me_is c.store.ensures.2 in
    subst (λ v. Prepared p c.args.slot v c.store.new.seat.me) (prepared_value reported.0 value (sym reported.1 ∙ ready.version)) reported.2
