use Rattle.dns_message.proofs.OptLemmas.{IsHearing}
use Rattle.dns_message.proofs.edns.opt_among.Given as goal

abbrev pub invariant-loop : goal.invariant-loop
invariant-loop l = IsHearing l.count l.octets l.at l.counter l.place l.said
