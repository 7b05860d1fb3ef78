use Rattle.dns_message.proofs.TsigLemmas.{IsHad}
use Rattle.dns_message.proofs.tsig.tsigs_at.Given as goal

abbrev pub invariant-loop : goal.invariant-loop
invariant-loop l = IsHad l.count l.octets l.at l.counter l.place l.has
