use Rattle.std.proofs.Common.{◌+◌, length}
use Rattle.dns_name.specs.Labels.{labels_in, IsWhole}
use Rattle.wire_names.proofs.TableLemmas.{SpellsAlike}
use Rattle.wire_names.proofs.table.spells.Given as goal

abbrev pub invariant-loop-len : goal.invariant-loop-len
invariant-loop-len l = record {
  alike : SpellsAlike l.msg l.at l.run l.place (labels_in l.octets) (labels_in l.rest);
  whole : IsWhole l.rest;
}

-- each label takes some octets, and each pointer goes down
abbrev pub decreases-loop-len : goal.decreases-loop-len
decreases-loop-len l = l.run + length l.rest
