-- Where no memory is there, the step is.
use Rattle.std.proofs.Common.{◌≡◌, ap, arith, rules}
use Rattle.cell_core.proofs.WordMachineLemmas.{has_note}
use Rattle.cell_core.proofs.word_machine.WordMachine.note.Goals as goal

pub returns-in_err-next-clause-no_memory : goal.returns-in_err-next-clause-no_memory
returns-in_err-next-clause-no_memory g c =
    let made : c.self.inside.noted ≡ c.args.self.now.noted = ap (λ s. s.noted) c.self.view_is in
    λ _. has_note c.args.self.now c.args.owner c.in-Some-Holding.number c.in-Some-Holding.slot c.in-Some.weak (search rules) (search rules) (omega (arith, made, c.if-self-ge-NOTES.false))
