use Rattle.std.proofs.Common.{length}
use Rattle.dns_message.proofs.AnswersLemmas.{Filling}
use Rattle.dns_message.proofs.answers.put_answers.Given as goal

-- the records in front of those that are left are written
abbrev pub invariant-loop-behind : goal.invariant-loop-behind
invariant-loop-behind g l = Filling (g.L.RecordList.left l.initial.records) (g.L.RecordList.left l.records) l.initial.out l.out l.initial.next l.initial.names l.next l.count l.names

abbrev pub decreases-loop-behind : goal.decreases-loop-behind
decreases-loop-behind g l = length (g.L.RecordList.left l.records)
