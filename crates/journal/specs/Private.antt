-- Definitions that only private contracts cite.
use Rattle.std.specs.Prelude.{◌≡◌, ℕ, ◌+◌, ◌^◌, ◌<◌, ◌≤◌, ◌⊎◌, List, ◌++◌, length, drop}
use Rattle.journal.specs.Frame.{body_limit, summed}
use Rattle.journal.specs.Tail.{BeginsMarked}

-- octets begin with the frame of this number and this body, without its mark, and these octets follow it
pub record IsSummed (salt : List ℕ) (number : ℕ) (octets body rest : List ℕ) : Type 0 where
  pub short : length body < body_limit
  pub counted : number < 2 ^ 64
  pub spelt : octets ≡ summed salt number body ++ rest

-- some octets were digested, or none: those that were begin with a mark, and after its first octet it occurs nowhere in as many octets as were digested
pub record IsDigested (mark octets : List ℕ) (before after : ℕ) : Type 0 where
  pub many : ℕ
  pub few : after ≤ before + many
  pub within : many ≤ length octets
  pub marked : (many ≡ 0) ⊎ BeginsMarked mark octets
  pub alone : (place : ℕ) → 0 < place → place < many → BeginsMarked mark (drop place octets) → ⊥
