-- How many versions are sure to be published.
use Rattle.std.proofs.Common.{◌≡◌, ℕ, ◌+◌, ◌-◌, Bool, true, false, arith}
use Rattle.std.specs.Bool.{MatchBool, OnTrue, OnFalse}
use Rattle.dns_engine.specs.Held.{free_of}

-- one less behind a publication
pub free_next : (ready left noted number : ℕ) → free_of (ready - 1) (left - 1) (noted + 1) (number + 1) ≡ free_of ready left noted number - 1
free_next ready left noted number = omega arith

-- one is published, or nothing has changed
pub published_or_same : (A P S : Type 0) (published : Bool) → OnTrue published A → OnTrue published P → OnFalse published S → MatchBool published (A × P) S
published_or_same A P S true grant is same = (grant, is)
published_or_same A P S false grant is same = same
