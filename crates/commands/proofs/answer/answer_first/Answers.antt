use Rattle.commands.specs.Versions.{begun}
use Rattle.commands.proofs.AnswerLinesLemmas.{Begins-none}
use Rattle.commands.proofs.LinesLemmas.{IfSome-each, OnErr-each}
use Rattle.commands.proofs.answer.answer_first.Goals as goal

pub returns-in_err-kept-clause-err : goal.returns-in_err-kept-clause-err
returns-in_err-kept-clause-err g c = OnErr-each _ _ (IfSome-each _ _ (λ input e. Begins-none c.args.transport (begun c.args.zone) input _))
