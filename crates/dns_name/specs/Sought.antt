-- How many octets two stored names begin with (own).
use Rattle.std.specs.Prelude.{◌≡◌, ℕ, ◌<◌, ◌≤◌, List, length, take, slice_index, Option, Some, None}
use Rattle.dns_name.specs.Name.{Name}
use Rattle.dns_name.specs.Stored.{stored_of}

-- so many octets, and no more, are what both begin with
pub record IsCommon (own other : List ℕ) (k : ℕ) : Type 0 where
  pub within : k ≤ length own
  pub others : k ≤ length other
  pub same : take k own ≡ take k other
  pub apart : k < length own → k < length other → slice_index own k ≡ slice_index other k → ⊥

-- the same with the octets of a stored name, where there is one: nothing is common with none
abbrev pub IsCommonWith : List ℕ → Option Name → ℕ → Type 0
IsCommonWith octets None own = own ≡ 0
IsCommonWith octets (Some other) own = IsCommon octets (stored_of other) own
