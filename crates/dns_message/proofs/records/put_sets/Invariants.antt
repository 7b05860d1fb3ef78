use Rattle.std.proofs.Common.{map, option_map}
use Rattle.dns_name.specs.Labels.{labels_in}
use Rattle.dns_rdata.specs.Record.{shown_as}
use Rattle.dns_message.specs.Encoding.{each}
use Rattle.dns_message.specs.Octets.{record_octets}
use Rattle.dns_message.proofs.EncodedLemmas.{Completes}
use Rattle.dns_message.proofs.records.put_sets.Given as goal

abbrev pub invariant-loop-set : goal.invariant-loop-set
invariant-loop-set l = Completes (λ set. each record_octets (map (shown_as (labels_in l.owner) (option_map (λ ttl. ttl.0) l.ttl)) set)) l.sets l.set-index l.initial.out l.initial.next l.initial.names l.out l.next l.names
