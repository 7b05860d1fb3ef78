use Rattle.std.proofs.Common.{◌≡◌, sym, ◌∙◌, subst, arith, Some}
use Rattle.counted_handles.specs.Plays.{SwapTells}
use Rattle.counted_handles.specs.Tells.{Sat, Swapped}
use Rattle.counted_handles.proofs.CallLemmas.{swap_allowed}
use Rattle.counted_handles.proofs.calls.swap.Goals as goal

pub swap-requires : goal.swap-requires
swap-requires g c =
    let due = c.requires.prepared in
    (c.requires.fits.1, omega (arith, c.requires.fits.0.0), swap_allowed g.C.Names.begins g.C.Follows.follows c.args.words.now.key.places.items _ c.args.seat.now.id _ c.args.slot due.0 due.1 c.args.seat.now.me c.requires.fits.0.1 c.requires.fits.2 (omega (arith, due.2.within)) due.2)

pub returns-clause-published : goal.returns-clause-published
returns-clause-published g c p value due =
    let reported = subst (λ (m : Sat g.row.T.Denot). SwapTells m.0 c.swap.result c.swap.new.seat.me) due.me_is c.swap.ensures.2 in
    subst (λ v. Swapped p v c.swap.result c.swap.new.seat.me) (let e : Some reported.0 ≡ Some value = sym reported.1 ∙ due.next in cc) reported.2
