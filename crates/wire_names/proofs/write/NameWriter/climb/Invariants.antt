use Rattle.std.proofs.Common.{◌≤◌}
use Rattle.dns_name.specs.Labels.{labels_in}
use Rattle.wire_names.specs.Place.{IsPlace}
use Rattle.wire_names.proofs.write.NameWriter.climb.Given as goal

abbrev pub invariant-loop-k : goal.invariant-loop-k
invariant-loop-k l = record {
  place : IsPlace l.msg l.self (labels_in l.octets) (record { labels = l.k; index = l.index });
  up : l.k ≤ l.fn.found.labels;
}

abbrev pub decreases-loop-k : goal.decreases-loop-k
decreases-loop-k l = l.k
