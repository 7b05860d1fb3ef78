use Rattle.std.proofs.Common.{◌≡◌, drop}
use Rattle.dns_name.specs.Stored.{octets_stored}
use Rattle.dns_name.proofs.LastLemmas.{IsBehind}
use Rattle.dns_name.proofs.beside.plain_front.Given as goal

abbrev pub invariant-loop-start : goal.invariant-loop-start
invariant-loop-start l = record {
  behind : IsBehind l.octets l.labels l.start;
  itself : octets_stored (drop l.start l.labels) ≡ drop l.start l.labels;
}

abbrev pub decreases-loop-start : goal.decreases-loop-start
decreases-loop-start l = l.start
