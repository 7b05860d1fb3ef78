use Rattle.commands.proofs.AnswerLemmas.{writes_told}
use Rattle.commands.proofs.answer.write_reply.Goals as goal

pub returns-clause-line : goal.returns-clause-line
returns-clause-line g c = λ past holds. writes_told _ _ _ _ _ _ _ _ c.parse-said.ensures (c.write_said.ensures.line past holds)
