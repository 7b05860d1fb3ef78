-- Tasks that come back from their threads, in their order (own).
use Rattle.std.specs.Prelude.{◌≡◌, ℕ, Bool, true, false, List, [], ◌∷◌}
use Rattle.requests.specs.Served.{BeginsWith}

-- lists of the same length, whose elements are related one by one
pub data Each {A B : Type 0} (R : A → B → Type 0) : List A → List B → Type 0 where
  none : Each R [] []
  one : {x : A} {xs : List A} {y : B} {ys : List B} → R x y → Each R xs ys → Each R (x ∷ xs) (y ∷ ys)

-- a task comes back with its number, and what it has seen published then begins with what it had seen. Where its thread was told that it may not
-- be done, it is as it was given. Where its thread was told that it may be, it is done
abbrev pub IsGivenBack : {W T : Type 0} → (W → ℕ) → (W → List T) → (W → Type 0) → W → Bool → W → Type 0
IsGivenBack number seen IsDone given may work =
    (number work ≡ number given) × BeginsWith (seen work) (seen given) × (may ≡ false → work ≡ given) × (may ≡ true → IsDone work)

-- the same, where the lock with this number told the thread so
abbrev pub IsReturned : {W T : Type 0} → (W → ℕ) → (W → List T) → (W → Type 0) → ℕ → W → ℕ → Bool → W → Type 0
IsReturned number seen IsDone lock given of may work = (of ≡ lock) × IsGivenBack number seen IsDone given may work
