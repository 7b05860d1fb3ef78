-- Where no memory is there, the step is.
use Rattle.std.proofs.Common.{◌≡◌, ap, Some, arith}
use Rattle.cell_core.proofs.WordMachineLemmas.{has_load}
use Rattle.cell_core.specs.Words.{slot_of, number_in}
use Rattle.cell_core.proofs.word_machine.WordMachine.load.Goals as goal

pub returns-in_err-owner-clause-no_memory : goal.returns-in_err-owner-clause-no_memory
returns-in_err-owner-clause-no_memory g c =
    let there : number_in c.args.self.now (slot_of c.args.self.now.latest) ≡ Some c.in-Some.number = cc in
    let given : c.self.inside.granted ≡ c.args.self.now.granted = ap (λ s. s.granted) c.self.view_is in
    λ _. has_load c.args.self.now c.in-Some.number there (omega (arith, given, c.if-self-ge-GRANTS.false))
