-- An update gets what it comes to, and its call ends so.
use Rattle.world_laws.proofs.AnswerLemmas.{told_got, made_is_got, keeps_head}
use Rattle.world_laws.proofs.laws.updates_are_answered.Goals as goal

pub returns-clause-reported : goal.returns-clause-reported
returns-clause-reported c = told_got

pub returns-clause-made : goal.returns-clause-made
returns-clause-made c = made_is_got

pub returns-clause-under_way : goal.returns-clause-under_way
returns-clause-under_way c = keeps_head
