use Rattle.std.proofs.Common.{◌+◌}
use Rattle.dns_message.specs.Expanded.{octets_from}
use Rattle.dns_message.proofs.SentLemmas.{IsExpanding}
use Rattle.dns_message.proofs.sent.expanded_fields.Given as goal

abbrev pub invariant-loop : goal.invariant-loop
invariant-loop l = IsExpanding l.names l.octets (l.entry.at + l.front) l.counter l.place (octets_from l.octets l.entry.at l.front) l.own.items
