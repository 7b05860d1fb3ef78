use Rattle.commands.proofs.AnswerLemmas.{writes_served, line_of_none, line_of_some}
use Rattle.commands.proofs.answer.write_served.Goals as goal

pub returns-in-None-clause-line : goal.returns-in-None-clause-line
returns-in-None-clause-line g c =
    λ past holds.
    writes_served _ c.args.transport c.args.said.now past c.args.kept.now c.go_on.new.self c.respond-len.result c.respond-len.new.out _ _ holds (rw c.last_version.ensures at c.respond-len.ensures.served) (rw c.last_version.ensures at c.respond-len.ensures.changes) c.go_on.ensures
    (line_of_none _ _ _ _ _ c.respond-len.result.len c.in-None.is c.write_whole.ensures)

pub returns-in-Some-clause-line : goal.returns-in-Some-clause-line
returns-in-Some-clause-line g c =
    λ past holds.
    writes_served _ c.args.transport c.args.said.now past c.args.kept.now c.go_on.new.self c.respond-len.result c.respond-len.new.out _ _ holds (rw c.last_version.ensures at c.respond-len.ensures.served) (rw c.last_version.ensures at c.respond-len.ensures.changes) c.go_on.ensures
    (line_of_some _ _ _ _ _ c.respond-len.result.len c.in-Some.len c.in-Some.is c.write_octets.ensures)
