use Rattle.dns_rdata.specs.Shown.{records_shown}
use Rattle.dns_message.specs.Encoding.{each}
use Rattle.dns_message.specs.Octets.{record_octets}
use Rattle.dns_message.proofs.EncodedLemmas.{Completes}
use Rattle.dns_message.proofs.records.put_section.Given as goal

abbrev pub invariant-loop-shown : goal.invariant-loop-shown
invariant-loop-shown l = Completes (λ shown. each record_octets (records_shown shown)) l.section l.shown-index l.initial.out l.initial.next l.initial.names l.out l.next l.names
