-- Where the pointers of a message lead (RFC 1035, 4.1.4).
use Rattle.std.specs.Prelude.{◌≡◌, ℕ, ◌<◌, ◌≤◌, List, slice_index, Ok}
use Rattle.wire_names.specs.Parts.{part_at}
use Rattle.wire_names.specs.declared.part.Part.TheVariants.{Pointer}

-- a run of labels that begins at a place begins with pointers, one at another's target, that lead to the end place: each to
-- a place below its own, where it is its run's first octet (RFC 1035, 4.1.4; own)
pub data Leads (msg : List ℕ) : ℕ → ℕ → Type 0 where
  -- no pointer is followed
  stays : {at end : ℕ} → end ≡ at → Leads msg at end
  -- a pointer is followed, and then those at its target
  hop : {at target end : ℕ} → part_at msg at ≡ Ok (Pointer target) → target < at → Leads msg target end → Leads msg at end

-- all of them are followed: at the end place there is no pointer, or one that doesn't lead below it
pub record EndsAt (msg : List ℕ) (at end : ℕ) : Type 0 where
  pub leads : Leads msg at end
  pub settled : (target : ℕ) → part_at msg end ≡ Ok (Pointer target) → end ≤ target

-- for each of a message's first places, so many of them, the place where its pointers end
abbrev pub AreEnds : List ℕ → List ℕ → ℕ → Type 0
AreEnds msg ends count = (at : ℕ) → at < count → EndsAt msg at (slice_index ends at)
