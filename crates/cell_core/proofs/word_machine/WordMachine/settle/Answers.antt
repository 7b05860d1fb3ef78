-- Where no memory is there, the step is.
use Rattle.std.proofs.Common.{rules}
use Rattle.cell_core.proofs.WordMachineLemmas.{has_settle}
use Rattle.cell_core.proofs.word_machine.WordMachine.settle.Goals as goal

pub returns-in_err-owner-clause-no_memory : goal.returns-in_err-owner-clause-no_memory
returns-in_err-owner-clause-no_memory g c = λ _. has_settle c.args.self.now c.in-Settling.number c.in-Settling.slot c.in-Settling.given c.in-Some.shares (search rules) (search rules)
