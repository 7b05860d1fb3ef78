use Rattle.std.proofs.Common.{◌≡◌, ◌-◌, ◌≤◌, ◌*◌, ℕ, length, get_or}
use Rattle.dns_name.specs.Labels.{labels_in}
use Rattle.wire_names.specs.Starts.{IsStart}
use Rattle.wire_names.proofs.starts.starts_of.Given as goal

abbrev pub invariant-loop-at : goal.invariant-loop-at
invariant-loop-at l = record {
  here : get_or l.found.starts l.found.count 0 ≡ l.at;
  at_is : IsStart l.octets l.found.count l.at;
  wide : length l.found.starts ≡ 128;
  few : 2 * l.found.count ≤ l.at;
  within : l.found.count ≤ length (labels_in l.octets);
  each : (i : ℕ) → i ≤ l.found.count → IsStart l.octets i (get_or l.found.starts i 0);
}

abbrev pub decreases-loop-at : goal.decreases-loop-at
decreases-loop-at l = length l.octets - l.at
