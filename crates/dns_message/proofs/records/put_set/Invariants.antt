use Rattle.dns_name.specs.Labels.{labels_in}
use Rattle.dns_message.proofs.EncodedLemmas.{Completes}
use Rattle.dns_message.proofs.SetLemmas.{datum_octets}
use Rattle.dns_message.proofs.records.put_set.Given as goal

abbrev pub invariant-loop-data : goal.invariant-loop-data
invariant-loop-data l = Completes (datum_octets (labels_in l.owner) l.rtype.0 l.ttl.0) l.data-items l.data-index l.initial.out l.initial.next l.initial.names l.out l.next l.names
