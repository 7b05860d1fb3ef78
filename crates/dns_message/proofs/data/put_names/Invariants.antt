use Rattle.dns_message.proofs.DataLemmas.{IsAmong}
use Rattle.dns_message.proofs.data.put_names.Given as goal

abbrev pub invariant-loop : goal.invariant-loop
invariant-loop l = IsAmong l.compress l.count l.octets l.initial.out l.initial.next l.initial.names l.counter l.rest l.out l.next l.names
