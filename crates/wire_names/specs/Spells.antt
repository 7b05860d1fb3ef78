-- Which name a place of a message spells, and which fault it has. A run of labels begins where reading begins, and
-- at each pointer's target; each target is below the place where its run began (RFC 1035, 4.1.4; own).
use Rattle.std.specs.Prelude.{◌≡◌, ℕ, ◌+◌, ◌<◌, ◌≤◌, List, [], ◌∷◌, Ok, Err}
use Rattle.dns_name.specs.Name.{Name}
use Rattle.wire_names.specs.Parts.{part_at, label_at}
use Rattle.wire_names.specs.declared.part.NameReadFault.{NameReadFault}
use Rattle.wire_names.specs.declared.part.NameReadFault.TheVariants.{BadPointer, TooLong}
use Rattle.wire_names.specs.declared.part.Part.TheVariants.{Closing, Label, Pointer}

-- in a run that began at `run`, the octets at `at` spell the name, and reading goes on at `next`
pub data Spells (msg : List ℕ) : ℕ → ℕ → Name → ℕ → Type 0 where
  -- the zero octet closes the name: reading goes on after it (RFC 1035, 3.1)
  closing : {run at next : ℕ} → part_at msg at ≡ Ok Closing → next ≡ at + 1 → Spells msg run at [] next
  -- a label, then what the octets after it spell
  label : {run at next n : ℕ} {l : List ℕ} {ls : Name} → part_at msg at ≡ Ok (Label n) → l ≡ label_at msg at n → Spells msg run (at + 1 + n) ls next → Spells msg run at (l ∷ ls) next
  -- a pointer: what its target spells, where a new run begins; reading goes on after the pointer (RFC 1035, 4.1.4)
  pointer : {run at next target beyond : ℕ} {ls : Name} → part_at msg at ≡ Ok (Pointer target) → target < run → Spells msg target target ls beyond → next ≡ at + 2 → Spells msg run at ls next

-- in a run that began at `run`, after labels of `used` octets with their lengths, the octets at `at` have the fault
pub data Refuses (msg : List ℕ) : ℕ → ℕ → ℕ → NameReadFault → Type 0 where
  -- the octets are no part of a name
  no_part : {run at used : ℕ} {fault : NameReadFault} → part_at msg at ≡ Err fault → Refuses msg run at used fault
  -- a label that leaves no room for the zero octet in 255 octets (RFC 1035, 2.3.4)
  too_long : {run at used n : ℕ} {fault : NameReadFault} → part_at msg at ≡ Ok (Label n) → 255 < used + (n + 2) → fault ≡ TooLong → Refuses msg run at used fault
  -- a label that fits, and a fault after it
  behind_label : {run at used n : ℕ} {fault : NameReadFault} → part_at msg at ≡ Ok (Label n) → used + (n + 2) ≤ 255 → Refuses msg run (at + 1 + n) (used + (n + 1)) fault → Refuses msg run at used fault
  -- a pointer to its own run's start or above it (own)
  bad_pointer : {run at used target : ℕ} {fault : NameReadFault} → part_at msg at ≡ Ok (Pointer target) → run ≤ target → fault ≡ BadPointer → Refuses msg run at used fault
  -- a pointer below its run, and a fault at its target
  behind_pointer : {run at used target : ℕ} {fault : NameReadFault} → part_at msg at ≡ Ok (Pointer target) → target < run → Refuses msg target target used fault → Refuses msg run at used fault
