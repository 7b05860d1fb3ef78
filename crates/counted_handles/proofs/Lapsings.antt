-- What a weak owner's release tells by what its fade found.
use Rattle.std.proofs.Common.{◌≡◌, ℕ, inl, inr, ap, subst, [], arith}
use Rattle.std.proofs.lemmas.Bool.Decides.{eqb_tells}
use Rattle.counted_handles.specs.declared.lapsed.Lapse.{Lapse}
use Rattle.counted_handles.specs.declared.lapsed.Lapse.TheVariants.{Faded, Restored, Freed}
use Rattle.counted_handles.specs.declared.view.View.TheVariants.{Resets}
use Rattle.counted_handles.specs.Lapses.{IsLapsed, HasFaded}
use Rattle.counted_handles.specs.Tells.{Sat}

-- a fade that found itself alone leaves a reset due
pub last_faded : {T : Type 0} (slot : ℕ) (steps : Lapse) (me : Sat T) → steps ≡ Faded 1 → HasFaded slot steps me → me ≡ (Resets slot, [])
last_faded slot steps me is reported = (subst (λ s. HasFaded slot s me) is reported).1

-- one that found others ends the release
pub ends_faded : {T : Type 0} (slot : ℕ) (steps : Lapse) (me : Sat T) → (steps ≡ Faded 1 → ⊥) → HasFaded slot steps me → IsLapsed steps
ends_faded slot (Faded found) me other reported =
    elim (eqb_tells found 1) [
      | inl one ↦ absurd (other (ap Faded one.1))
      | inr more ↦ omega (arith, reported.0, more.1)
    ]
ends_faded slot Restored me other reported = absurd reported
ends_faded slot Freed me other reported = absurd reported
