-- The steps of a weak owner's release, by what each saw (own).
use Rattle.std.specs.Prelude.{ℕ, ◌<◌}
use Rattle.counted_handles.specs.declared.lapsed.Lapse.{Lapse}
use Rattle.counted_handles.specs.declared.lapsed.Lapse.TheVariants.{Faded, Restored, Freed}
use Rattle.counted_handles.specs.Tells as tells
use Rattle.counted_handles.specs.Tells.{Sat}

-- all of them are made: its fade found others in K; or it was the last, and has set K to 1 and given the slot free (own)
abbrev pub IsLapsed : Lapse → Type 0
IsLapsed (Faded found) = 1 < found
IsLapsed Restored = ⊥
IsLapsed Freed = Unit {0}

-- the fade alone is made (own)
abbrev pub HasFaded : {T : Type 0} → ℕ → Lapse → Sat T → Type 0
HasFaded slot (Faded found) me = tells.Faded slot found me
HasFaded slot Restored me = ⊥
HasFaded slot Freed me = ⊥
