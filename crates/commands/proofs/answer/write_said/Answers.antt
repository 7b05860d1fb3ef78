use Rattle.commands.proofs.AnswerLemmas.{said_reply, said_messages, query_reply}
use Rattle.commands.proofs.answer.write_said.Goals as goal

pub returns-in-Query-clause-line : goal.returns-in-Query-clause-line
returns-in-Query-clause-line g c =
    λ past holds.
    said_reply _ c.args.transport c.args.said.now past c.args.kept.now _ _ _ holds (rw (c.last_version.ensures, c.over-peer.ensures.peer) at c.in-None.ensures)
    (rw c.in-Query.is (query_reply _ c.args.transport c.in-Query.query past c.args.kept.now _ _ holds (rw c.over-peer.ensures.peer at c.write_found.ensures)))

pub returns-in_default-clause-line : goal.returns-in_default-clause-line
returns-in_default-clause-line g c = λ past holds. said_reply _ c.args.transport c.args.said.now past c.args.kept.now _ _ _ holds (rw (c.last_version.ensures, c.over-peer.ensures.peer) at c.in-None.ensures) (c.write_served.ensures.line past holds)

pub returns-in-Some-clause-line : goal.returns-in-Some-clause-line
returns-in-Some-clause-line g c =
    λ past holds. said_messages _ c.args.transport c.args.said.now c.in-Some.query.now past c.args.kept.now _ _ holds (rw (c.last_version.ensures, c.over-peer.ensures.peer) at c.in-Some.ensures) (rw c.over-peer.ensures.peer at (c.write_messages.ensures past holds))
