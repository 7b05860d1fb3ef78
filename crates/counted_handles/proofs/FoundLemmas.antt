-- What the rule allows a publisher that looks for free slots, and how many it has seen.
use Rattle.std.proofs.Common.{◌≡◌, refl, sym, ap, ◌∙◌, subst, ℕ, suc, ◌+◌, ◌<◌, ◌≤◌, inl, inr, List, [], ◌∷◌, length, get_or, arith}
use Rattle.std.proofs.lemmas.Bool.Decides.{eqb_tells}
use Rattle.atomic_table.specs.Table.{Allows, carried_after}
use Rattle.cell_core.specs.Words.{slots}
use Rattle.cell_core.specs.declared.words.Publisher.TheVariants.{Probing}
use Rattle.counted_handles.specs.declared.view.Publishing.{Publishing}
use Rattle.counted_handles.specs.declared.view.View.TheVariants.{Publishes}
use Rattle.counted_handles.specs.Found.{IsAbsent, without, found_before, Falls}
use Rattle.counted_handles.specs.Ruled.{RoomSpot, Ruled}
use Rattle.counted_handles.specs.Tells.{Sat, beyond}
use Rattle.counted_handles.specs.Plays.{ScanTells, ScanAt}
use Rattle.counted_handles.specs.Calls.{IsProbing, HasNone, HasScanned}
use Rattle.counted_handles.proofs.CallLemmas.{at_seat, wrapped, wrapped_is, wrapped_all}
use Rattle.counted_handles.proofs.ScanStep.{scans}

module _ {T : Type 0} (begins : T → Type 0) (follows : T → T → Type 0) (spots : List (RoomSpot T)) where
  pub scan_allowed : (n id i slot : ℕ) (p : Publishing T) (me : Sat T) → n ≡ slots → id ≡ 0 → i ≡ suc (slot + slot) → IsProbing p slot me → Allows (Ruled begins follows spots) n id me i (λ w. w) (λ found new. ScanTells me.0 found new)
  scan_allowed n id i slot p me count seat index due =
      subst (λ j. Allows (Ruled begins follows spots) n id me j (λ w. w) (λ found new. ScanTells me.0 found new)) (sym index)
      (at_seat begins follows spots n id 0 (suc (slot + slot)) me (Publishes p, []) (λ w. w) (λ m found new. ScanTells m.0 found new) count seat due.0 tt
      (λ s h size at bound.
      let made = scans begins follows spots p slot due.1 s h size at bound in
      (made.0, made.1, made.2, made.3, subst (λ q. ScanAt p q (get_or s.words (suc (slot + slot)) 0) (made.0, carried_after [] made.1)) (sym due.1) made.4)))

-- all that were seen when another slot is due
pub before_next : (slot : ℕ) (found : List ℕ) → found_before (slot + 1) found ≡ found
before_next slot found = let e : slot + 1 ≡ suc slot = omega arith in ap (λ k. found_before k found) e

-- what is less than one is less than a greater one
pub falls_more : (low high : ℕ) (found : List ℕ) → low ≤ high → Falls low found → Falls high found
falls_more low high [] l falls = tt
falls_more low high (slot ∷ found) l falls = (omega (arith, falls.0, l), falls.1)

-- a slot that is no less than these is none of them
without_none : (slot bound : ℕ) (found : List ℕ) → Falls bound found → bound ≤ slot → without slot found ≡ found
without_none slot bound [] falls l = refl
without_none slot bound (other ∷ found) falls l = elim (eqb_tells other slot) [
  | inl same ↦ absurd (omega (arith, same.1, falls.0, l))
  | inr apart ↦ rw apart.0 (ap (λ xs. other ∷ xs) (without_none slot other found falls.1 (omega (arith, falls.0, l))))
]

-- they still fall without one
pub falls_without : (slot bound : ℕ) (found : List ℕ) → Falls bound found → Falls bound (without slot found)
falls_without slot bound [] falls = tt
falls_without slot bound (other ∷ found) falls = elim (eqb_tells other slot) [
  | inl same ↦ rw same.0 (falls_more other bound (without slot found) (omega (arith, falls.0)) (falls_without slot other found falls.1))
  | inr apart ↦ rw apart.0 (falls.0, falls_without slot other found falls.1)
]

-- and they are at most one less
pub length_without : (slot bound : ℕ) (found : List ℕ) → Falls bound found → length found ≤ length (without slot found) + 1
length_without slot bound [] falls = omega arith
length_without slot bound (other ∷ found) falls = elim (eqb_tells other slot) [
  | inl same ↦ rw same.0 (let e = ap (λ (xs : List ℕ). length xs) (without_none slot other found falls.1 (omega (arith, same.1))) in omega (arith, e))
  | inr apart ↦ rw apart.0 (let l = length_without slot other found falls.1 in omega (arith, l))
]

-- where no slot is one of these there are none
none_of : (bound : ℕ) (found : List ℕ) → bound ≤ slots → Falls bound found → ((slot : ℕ) → slot < slots → IsAbsent slot found) → length found ≡ 0
none_of bound [] l falls none = refl
none_of bound (slot ∷ found) l falls none = absurd ((none slot (omega (arith, falls.0, l))).0 refl)

pub none_found : {T : Type 0} (p : Publishing T) → Falls slots p.found → HasNone p → length p.found ≡ 0
none_found p falls none = none_of slots p.found (omega arith) falls none

-- the publisher behind some looks
abbrev pub Looking : {T : Type 0} → Publishing T → ℕ → ℕ → Sat T → Type 0
Looking p slot count me =
    (found : List ℕ) × (me ≡ (Publishes (record p { how = Probing (wrapped slot); found = found }), [])) × Falls slot (found_before slot found) × (length (found_before slot found) ≡ count)

module _ {T : Type 0} (p : Publishing T) where
  pub looking_first : (me : Sat T) → IsProbing p 0 me → Looking p 0 0 me
  looking_first me is = (p.found, is.0 ∙ ap (λ h. (Publishes (record p { how = h }), [])) is.1, tt, refl)

  -- the slot that is due
  pub looking_due : (slot count : ℕ) (me : Sat T) → slot < slots → (look : Looking p slot count me) → IsProbing (record p { how = Probing (wrapped slot); found = look.0 }) slot me
  looking_due slot count me l look = (look.1, ap Probing (wrapped_is slot l))

  pub looking_more : (slot count : ℕ) (me new : Sat T) (before : List ℕ) → slot < slots → Falls slot (found_before slot before) → length (found_before slot before) ≡ count
      → new ≡ (Publishes (record p { how = Probing (beyond slot); found = slot ∷ found_before slot before }), []) → Looking p (slot + 1) (count + 1) new
  looking_more slot count me new before l falls many is =
      let next = before_next slot (slot ∷ found_before slot before) in (
        slot ∷ found_before slot before,
        is,
        subst (λ xs. Falls (slot + 1) xs) (sym next) (omega arith, falls),
        (let e = ap (λ (xs : List ℕ). length xs) next in omega (arith, e, many)),
      )

  pub looking_on : (slot count : ℕ) (me new : Sat T) (before : List ℕ) → slot < slots → Falls slot (found_before slot before) → length (found_before slot before) ≡ count
      → new ≡ (Publishes (record p { how = Probing (beyond slot); found = found_before slot before }), []) → Looking p (slot + 1) count new
  looking_on slot count me new before l falls many is =
      let next = before_next slot (found_before slot before) in (
        found_before slot before,
        is,
        subst (λ xs. Falls (slot + 1) xs) (sym next) (falls_more slot (slot + 1) (found_before slot before) (omega arith) falls),
        ap (λ (xs : List ℕ). length xs) next ∙ many,
      )

  pub looked_all : (slot count : ℕ) (me : Sat T) → p.how ≡ Probing 0 → slot ≡ slots → Looking p slot count me → HasScanned p count me
  looked_all slot count me how all look =
      let later : found_before slot look.0 ≡ look.0 = ap (λ k. found_before k look.0) all in
      record {
        found = look.0;
        me_is = look.1 ∙ (λ i. (Publishes (record p { how = (ap Probing (wrapped_all slot all) ∙ sym how) i; found = look.0 }), []));
        falls = subst (λ k. Falls k look.0) all (subst (λ xs. Falls slot xs) later look.2);
        many = ap (λ (xs : List ℕ). length xs) (sym later) ∙ look.3;
      }
