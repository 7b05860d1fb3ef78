-- Where no memory is there, the step is.
use Rattle.std.proofs.Common.{◌≡◌, ap, arith, rules}
use Rattle.cell_core.proofs.WordMachineLemmas.{has_raise}
use Rattle.cell_core.proofs.word_machine.WordMachine.raise.Goals as goal

pub returns-in_err-next-clause-no_memory : goal.returns-in_err-next-clause-no_memory
returns-in_err-next-clause-no_memory g c =
    let given : c.self.inside.granted ≡ c.args.self.now.granted = ap (λ s. s.granted) c.self.view_is in
    λ _. has_raise c.args.self.now c.args.owner c.in-Some.number c.in-Some.slot c.in-Some-shares.shares (search rules) (search rules) (omega (arith, given, c.if-self-ge-GRANTS.false)) c.if-shares-ge-DEAD.false
