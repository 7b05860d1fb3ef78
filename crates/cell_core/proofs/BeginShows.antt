-- The words at the beginning show the first value alone.
use Rattle.std.proofs.Common.{◌≡◌, refl, sym, ap, subst, ℕ, ◌<◌, ◌⊎◌, inl, inr, List, [], ◌∷◌, arith}
use Rattle.std.specs.Prelude.{Some, ◌==◌, if◌then◌else◌}
use Rattle.std.specs.List.{slice_get}
use Rattle.std.proofs.lemmas.Bool.Decides.{eqb_tells}
use Rattle.cell_core.specs.Words.{slots}
use Rattle.cell_core.specs.Shows.{Plan, IsLive, SlotIs, WeakWord, Shows}
use Rattle.cell_core.specs.Shows.Phase.{free, live}
use Rattle.cell_core.specs.declared.words.Slot.{Slot}
use Rattle.cell_core.specs.declared.words.Owner.{Owner}
use Rattle.cell_core.specs.declared.words.Publisher.TheVariants.{Probing}
use Rattle.std.proofs.Common.{zero, suc}
use Rattle.std.proofs.lemmas.List.{length-replicate}
use Rattle.std.specs.Prelude.{replicate}
use Rattle.cell_core.specs.Cell.{start}
use Rattle.cell_core.specs.Words.{begun, first_slot, free_slot}

-- a list of one thing has it at each place
in_replicate : {X : Type 0} (n k : ℕ) (x y : X) → slice_get (replicate n x) k ≡ Some y → x ≡ y
in_replicate zero k x y h = absurd (let wrong = h in cc)
in_replicate (suc n) zero x y h = (let e = h in cc)
in_replicate (suc n) (suc k) x y h = in_replicate n k x y h

-- number 0 lies in slot 0, and the others are free
abbrev first_plan : Plan
first_plan = record { last = 0; given = 0; slot = λ j. 0; phase = λ p. if p == 0 then live 0 else free }

-- what stands in the table
first_there : {T : Type 0} (value : T) (place : ℕ) (there : Slot T) → slice_get (begun value).table place ≡ Some there → ((place ≡ 0) × (first_slot value ≡ there)) ⊎ ((0 < place) × (free_slot ≡ there))
first_there value zero there h = inl (refl, (let e = h in cc))
first_there value (suc place) there h = inr (omega arith, in_replicate 63 place free_slot there h)

first_is : {T : Type 0} (value : T) → IsLive (begun value) (start value) first_plan 0 0 (first_slot value)
first_is value =
    record {
      here = refl;
      unburied = refl;
      value = value;
      version = refl;
      published = refl;
      shares = refl;
      due = λ empty. absurd (omega (arith, empty));
    }

slot_at_first : {T : Type 0} (value : T) (place : ℕ) (there : Slot T) → ((place ≡ 0) × (first_slot value ≡ there)) ⊎ ((0 < place) × (free_slot ≡ there)) → SlotIs (begun value) (start value) first_plan place (first_plan.phase place) there
slot_at_first {T} value place there cases =
    elim cases [
      | inl same ↦ subst (λ x. SlotIs (begun value) (start value) first_plan place (first_plan.phase place) x) same.1 (subst (λ p. SlotIs (begun value) (start value) first_plan p (first_plan.phase p) (first_slot value)) (sym same.0) (first_is value))
      | inr other ↦ elim (eqb_tells place 0) [
        | inl wrong ↦ absurd (omega (arith, other.0, wrong.1))
        | inr apart ↦ subst (λ x. SlotIs (begun value) (start value) first_plan place (first_plan.phase place) x) other.1 (rw apart.0 (refl, refl))
      ]
    ]

weak_at_first : {T : Type 0} (value : T) (place : ℕ) (there : Slot T) → ((place ≡ 0) × (first_slot value ≡ there)) ⊎ ((0 < place) × (free_slot ≡ there)) → WeakWord [] place (first_plan.phase place) there.weak
weak_at_first {T} value place there cases =
    elim cases [
      | inl same ↦ subst (λ (x : Slot T). WeakWord [] place (first_plan.phase place) x.weak) same.1 (subst (λ p. WeakWord [] p (first_plan.phase p) 1) (sym same.0) refl)
      | inr other ↦ elim (eqb_tells place 0) [
        | inl wrong ↦ absurd (omega (arith, other.0, wrong.1))
        | inr apart ↦ subst (λ (x : Slot T). WeakWord [] place (first_plan.phase place) x.weak) other.1 (rw apart.0 refl)
      ]
    ]

pub begun_shows : {T : Type 0} (value : T) → Shows (begun value) (start value)
begun_shows {T} value =
    record {
      plan = first_plan;
      numbers = record {
        last = refl;
        buried = λ j u. absurd (let wrong = u in cc);
        lies = λ j l u. let none : 0 ≡ j = omega (arith, l) in subst (λ k. (first_plan.slot k < slots) × (first_plan.phase (first_plan.slot k) ≡ live k)) none (omega arith, refl);
      };
      given = record { latest = refl; given = omega arith; granted = omega arith; noted = omega arith };
      counts = record { strong = λ j. refl; few = λ j. omega arith; few_of_last = omega arith; weak = λ j. refl; few_weak = λ j. omega arith };
      table = record {
        size = ap suc (length-replicate 63 (free_slot {T = T}));
        slot_is = λ place there h. slot_at_first value place there (first_there value place there h);
        weak_word = λ place there h. weak_at_first value place there (first_there value place there h);
      };
      owner_is = λ owner how h. absurd (let wrong = h in cc);
      publisher_is = omega arith;
    }

-- a state of these parts is that at the beginning
pub begun_is : {T : Type 0} (value : T) (table : List (Slot T)) (owners : List Owner) → table ≡ first_slot value ∷ replicate 63 free_slot → owners ≡ [] → record { latest = 0; table = table; publisher = Probing 0; owners = owners; granted = 0; noted = 0 } ≡ begun value
begun_is value table owners e f = λ i. record { latest = 0; table = e i; publisher = Probing 0; owners = f i; granted = 0; noted = 0 }
