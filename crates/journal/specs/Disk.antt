-- The octets of a disk.
use Rattle.std.specs.Prelude.{◌≡◌, ℕ, List, ◌++◌}
use Rattle.std.specs.List.{AllByRecursion}

-- octets begin with these
abbrev pub BeginsWith : List ℕ → List ℕ → Type 0
BeginsWith octets front = (rest : List ℕ) × (octets ≡ front ++ rest)

-- a crash at any moment between two leaves octets that begin with these: `old` and `new` are what was on the disk after each call so far, the last call first, and a crash
-- during a call leaves what a crash before it or after it leaves (own)
pub record LeavesOnly (old new : List (List ℕ)) (octets : List ℕ) : Type 0 where
  pub since : List (List ℕ)
  pub made : new ≡ since ++ old
  pub each : AllByRecursion (λ left. BeginsWith left octets) since
