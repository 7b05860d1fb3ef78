use Rattle.dns_message.proofs.ReceivedLemmas.{IsBehind}
use Rattle.dns_message.proofs.received.behind_questions.Given as goal

abbrev pub invariant-loop : goal.invariant-loop
invariant-loop l = IsBehind l.count l.octets l.at l.counter l.place
