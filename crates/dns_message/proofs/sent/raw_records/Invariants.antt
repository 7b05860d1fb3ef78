use Rattle.dns_message.proofs.SentLemmas.{IsReading}
use Rattle.dns_message.proofs.sent.raw_records.Given as goal

abbrev pub invariant-loop : goal.invariant-loop
invariant-loop l = IsReading l.section l.count l.octets l.at l.counter l.place l.records.items
