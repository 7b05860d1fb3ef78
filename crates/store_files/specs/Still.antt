-- What was read of a journal, and is still there (own).
use Rattle.std.specs.Prelude.{◌≡◌, ℕ, List, ◌++◌, All}
use Rattle.journal.specs.Disk.{BeginsWith}

-- octets are these, followed by zeros
abbrev pub AreZerosBehind : List ℕ → List ℕ → Type 0
AreZerosBehind octets front = (zeros : List ℕ) × (octets ≡ front ++ zeros) × All (λ octet. octet ≡ 0) zeros

-- these are the octets without any of the zeros at their end
abbrev pub IsInFront : List ℕ → List ℕ → Type 0
IsInFront octets front = AreZerosBehind octets front × ((other : List ℕ) → AreZerosBehind octets other → BeginsWith other front)

-- octets that were read are still at the start of what is read again, except for zeros at their end
abbrev pub StandsStill : List ℕ → List ℕ → Type 0
StandsStill octets again = (front : List ℕ) × AreZerosBehind octets front × BeginsWith again front
