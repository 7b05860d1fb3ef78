-- Counts with one more and one less.
use Rattle.std.proofs.Common.{◌≡◌, ℕ, ◌-◌, ◌<◌, Bool, ◌⊎◌, inl, inr, arith, cond}
use Rattle.std.proofs.lemmas.Bool.Decides.{eqb_tells}
use Rattle.cell_core.specs.Cell.{one_more, one_less}

-- a number that has an owner, when k has one more, is k or had one
pub one_more_some : (k : ℕ) (counts : ℕ → ℕ) (j : ℕ) → 0 < one_more k counts j → (j ≡ k) ⊎ (0 < counts j)
one_more_some k counts j h =
    elim (eqb_tells j k) [ inl same ↦ inl same.1 | inr other ↦ inr (rw other.0 at h) ]

-- a number that has an owner, when k has one less, had one
pub one_less_some : (k : ℕ) (counts : ℕ → ℕ) (j : ℕ) → 0 < one_less k counts j → 0 < counts j
one_less_some k counts j h =
    elim (eqb_tells j k) [ inl same ↦ (let l : 0 < counts j - 1 = rw same.0 at h in omega arith) | inr other ↦ rw other.0 at h ]

-- 1 for what passes a test, and 0 for what doesn't
abbrev pub one_if : Bool → ℕ
one_if b = cond b 1 0
