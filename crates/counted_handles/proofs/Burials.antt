-- What a release's steps tell by what they found.
use Rattle.std.proofs.Common.{◌≡◌, ℕ, ◌<◌, inl, inr, ap, subst, [], arith}
use Rattle.std.specs.Prelude.{MatchBool}
use Rattle.std.proofs.lemmas.Bool.Decides.{eqb_tells}
use Rattle.counted_handles.specs.declared.released.Steps.{Steps}
use Rattle.counted_handles.specs.declared.released.Steps.TheVariants.{Lowered, Lost, Won, Buried, Faded, Restored, Freed}
use Rattle.counted_handles.specs.declared.view.Mark.{Mark}
use Rattle.counted_handles.specs.declared.view.View.TheVariants.{Buries, Gone}
use Rattle.counted_handles.specs.Releases.{IsReleased, IsLowered, HasLost}
use Rattle.counted_handles.specs.Tells.{Sat, IsWon, Tried}

-- a subtraction that found its own share alone leaves a bury due
pub is_due : {T : Type 0} (mark : Mark T) (steps : Steps) (me : Sat T) → steps ≡ Lowered 1 → IsLowered mark steps me → me ≡ (Buries mark.slot mark.name, [])
is_due mark steps me is reported = (subst (λ s. IsLowered mark s me) is reported).1

module _ {T : Type 0} (begins : T → Type 0) (follows : T → T → Type 0) where
  -- one that found another share too ends the release
  pub ends_there : (mark : Mark T) (steps : Steps) (me : Sat T) → (steps ≡ Lowered 1 → ⊥) → IsLowered mark steps me → IsReleased begins follows steps
  ends_there mark (Lowered found) me other reported =
      elim (eqb_tells found 1) [
        | inl one ↦ absurd (other (ap Lowered one.1))
        | inr more ↦ omega (arith, reported.0, more.1)
      ]
  ends_there mark (Lost found) me other reported = absurd reported
  ends_there mark Won me other reported = absurd reported
  ends_there mark (Buried number) me other reported = absurd reported
  ends_there mark (Faded number found) me other reported = absurd reported
  ends_there mark (Restored number) me other reported = absurd reported
  ends_there mark (Freed number) me other reported = absurd reported

  -- and so does a bury that has lost
  pub ends_lost : (steps : Steps) (me : Sat T) → HasLost steps me → IsReleased begins follows steps
  ends_lost (Lowered found) me reported = absurd reported
  ends_lost (Lost found) me reported = reported.0
  ends_lost Won me reported = absurd reported
  ends_lost (Buried number) me reported = absurd reported
  ends_lost (Faded number found) me reported = absurd reported
  ends_lost (Restored number) me reported = absurd reported
  ends_lost (Freed number) me reported = absurd reported

module _ {T : Type 0} (begins : T → Type 0) (follows : T → T → Type 0) (slot name found : ℕ) (me : Sat T) where
  -- it found another word than 0: it has lost
  pub lost_of : (found ≡ 0 → ⊥) → Tried begins follows slot name found me → (0 < found) × (me ≡ (Gone, []))
  lost_of other reported =
      elim (eqb_tells found 0) [
        | inl same ↦ absurd (other same.1)
        | inr none ↦ (omega (arith, other), subst (λ b. MatchBool b (IsWon begins follows slot name me) (me ≡ (Gone, []))) none.0 reported)
      ]

  -- it found 0: it has won
  pub won_of : found ≡ 0 → Tried begins follows slot name found me → IsWon begins follows slot name me
  won_of same reported =
      elim (eqb_tells found 0) [
        | inl is ↦ subst (λ b. MatchBool b (IsWon begins follows slot name me) (me ≡ (Gone, []))) is.0 reported
        | inr none ↦ absurd (none.1 same)
      ]
