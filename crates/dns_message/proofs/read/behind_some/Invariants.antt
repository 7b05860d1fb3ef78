use Rattle.dns_message.proofs.ReadLemmas.{IsPast}
use Rattle.dns_message.proofs.read.behind_some.Given as goal

abbrev pub invariant-loop : goal.invariant-loop
invariant-loop l = IsPast l.count l.octets l.at l.counter l.place
