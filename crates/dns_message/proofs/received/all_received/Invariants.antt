use Rattle.dns_message.proofs.ReceivedLemmas.{IsTaking}
use Rattle.dns_message.proofs.received.all_received.Given as goal

abbrev pub invariant-loop : goal.invariant-loop
invariant-loop l = IsTaking l.count l.octets l.at l.counter l.place l.records.items
