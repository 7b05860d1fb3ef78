use Rattle.commands.specs.Versions.{begun}
use Rattle.commands.proofs.AnswerLinesLemmas.{Begins-none}
use Rattle.commands.proofs.LinesLemmas.{IfSome-each, OnErr-each}
use Rattle.commands.proofs.answer.run_answer.Goals as goal

pub returns-in_err-buffers-clause-err : goal.returns-in_err-buffers-clause-err
returns-in_err-buffers-clause-err g c = OnErr-each _ _ (IfSome-each _ _ (λ input e. Begins-none c.args.transport (begun c.args.zone) input _))
