-- The slots that the publisher has seen free (own).
use Rattle.std.specs.Prelude.{◌≢◌, ◌==◌, ◌<◌, ℕ, zero, suc, List, [], ◌∷◌, if◌then◌else◌}

-- a slot isn't one of these (own)
abbrev pub IsAbsent : ℕ → List ℕ → Type 0
IsAbsent slot [] = Unit {0}
IsAbsent slot (other ∷ found) = (other ≢ slot) × IsAbsent slot found

-- all of these but one (own)
abbrev pub without : ℕ → List ℕ → List ℕ
without slot [] = []
without slot (other ∷ found) = if other == slot then without slot found else other ∷ without slot found

-- those that a look at each slot in turn has seen so far, when this one is due: none at the first one (own)
abbrev pub found_before : ℕ → List ℕ → List ℕ
found_before zero found = []
found_before (suc slot) found = found

-- each of these is less than the one before it, and the first one than this: no two are the same (own)
abbrev pub Falls : ℕ → List ℕ → Type 0
Falls bound [] = Unit {0}
Falls bound (slot ∷ found) = (slot < bound) × Falls slot found
