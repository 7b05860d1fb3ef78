-- Where the labels of a name begin in its octets.
use Rattle.std.specs.Prelude.{◌≡◌, ℕ, ◌<◌, ◌≤◌, List, length, drop, slice_index_or}
use Rattle.dns_name.specs.Labels.{labels_in, IsWhole}

-- the octets from an index on are whole, and are those of the name without so many of its labels
pub record IsStart (octets : List ℕ) (labels start : ℕ) : Type 0 where
  pub within : start < length octets
  pub whole : IsWhole (drop start octets)
  pub rest : labels_in (drop start octets) ≡ drop labels (labels_in octets)

-- for each of the first labels of a name, so many of them, where it begins, and where the octets after them begin
pub record AreStarts (octets starts : List ℕ) (count : ℕ) : Type 0 where
  pub all : count ≤ length (labels_in octets)
  pub each : (i : ℕ) → i ≤ count → IsStart octets i (slice_index_or starts i 0)
