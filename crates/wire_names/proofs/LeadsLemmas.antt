-- Where the pointers of a message lead: what the end place spells is spelt at each place that they lead from.
use Rattle.std.proofs.Common.{◌≡◌, ℕ, ◌+◌, ◌<◌, ◌≤◌, inl, inr, List, length, slice_set, slice_index, Option, Some, Result, Ok, Err, refl, sym, subst, ◌∙◌, arith}
use Rattle.std.specs.Option.{unwrap_or}
use Rattle.std.proofs.lemmas.Grind.{get_or-set_at}
use Rattle.std.proofs.lemmas.List.{get_or-set_other}
use Rattle.wire_names.specs.Leads.{Leads, stays, hop, EndsAt, AreEnds}
use Rattle.wire_names.specs.Parts.{part_at}
use Rattle.wire_names.specs.Spells.{Spells, pointer, Refuses, behind_pointer}
use Rattle.wire_names.specs.declared.part.NameReadFault.{NameReadFault}
use Rattle.wire_names.specs.declared.part.Part.{Part}
use Rattle.wire_names.specs.declared.part.Part.TheVariants.{Closing, Label, Pointer}
use Rattle.wire_names.proofs.GrammarLemmas.{le_or_lt}
use Rattle.wire_names.proofs.ReadLemmas.{IsUnderWay, UnderWay-pointer}

-- pointers lead no higher
pub leads_down : (msg : List ℕ) (at end : ℕ) → Leads msg at end → end ≤ at
leads_down msg at end (stays e) = omega arith
leads_down msg at end (hop {target = target} p g l) = let low = leads_down msg target end l in omega arith

-- a name that is spelt, wherever reading goes on
record IsSpelt (msg : List ℕ) (at : ℕ) (name : List (List ℕ)) : Type 0 where
  next : ℕ
  spells : Spells msg at at name next

spelt_from : (msg : List ℕ) (at end next : ℕ) (name : List (List ℕ)) → Leads msg at end → Spells msg end end name next → IsSpelt msg at name
spelt_from msg at end next name (stays e) s = record { next = next; spells = subst (λ (x : ℕ). Spells msg x x name next) e s }
spelt_from msg at end next name (hop {target = target} p g l) s =
    let rest = spelt_from msg target end next name l s in
    record { next = at + 2; spells = pointer p g rest.spells refl }

refused_from : (msg : List ℕ) (at end used : ℕ) (fault : NameReadFault) → Leads msg at end → Refuses msg end end used fault → Refuses msg at at used fault
refused_from msg at end used fault (stays e) r = subst (λ (x : ℕ). Refuses msg x x used fault) e r
refused_from msg at end used fault (hop {target = target} p g l) r = behind_pointer p g (refused_from msg target end used fault l r)

-- a pointer is followed to where those at its target lead
pub UnderWay-led : (msg : List ℕ) (at run place target end next : ℕ) (behind : Option ℕ) (octets : List ℕ) → IsUnderWay msg at run place behind octets → part_at msg place ≡ Ok (Pointer target) → target < run → Leads msg target end → next ≡ unwrap_or behind (place + 2) → IsUnderWay msg at end end (Some next) octets
UnderWay-led msg at run place target end next behind octets way p g l e =
    let on = UnderWay-pointer msg at run place target next behind octets way p g e in
    record {
      labels = on.labels;
      lawful = on.lawful;
      are = on.are;
      room = on.room;
      found = λ ls beyond s. let rest = spelt_from msg target end beyond ls l s in on.found ls rest.next rest.spells;
      refused = λ fault r. on.refused fault (refused_from msg target end _ fault l r);
    }

same_target : (r : Result Part NameReadFault) (target other : ℕ) → r ≡ Ok (Pointer target) → r ≡ Ok (Pointer other) → target ≡ other
same_target r target other e f = cc

-- a place without a pointer, or with one that doesn't lead below it, is its own end
pub ends_at_part : (msg : List ℕ) (at : ℕ) (r : Result Part NameReadFault) → part_at msg at ≡ r → ((target : ℕ) → r ≡ Ok (Pointer target) → at ≤ target) → EndsAt msg at at
ends_at_part msg at r p h = record { leads = stays refl; settled = λ target q. h target (sym p ∙ q) }

pub ends_at_up : (msg : List ℕ) (at target : ℕ) → part_at msg at ≡ Ok (Pointer target) → at ≤ target → EndsAt msg at at
ends_at_up msg at target p g = ends_at_part msg at (Ok (Pointer target)) p (λ other e. subst (λ (x : ℕ). at ≤ x) (same_target (Ok (Pointer target)) target other refl e) g)

pub ends_at_fault : (msg : List ℕ) (at : ℕ) (fault : NameReadFault) → part_at msg at ≡ Err fault → EndsAt msg at at
ends_at_fault msg at fault p = ends_at_part msg at (Err fault) p (λ target e. absurd (cc))

pub ends_at_closing : (msg : List ℕ) (at : ℕ) → part_at msg at ≡ Ok Closing → EndsAt msg at at
ends_at_closing msg at p = ends_at_part msg at (Ok Closing) p (λ target e. absurd (cc))

pub ends_at_label : (msg : List ℕ) (at n : ℕ) → part_at msg at ≡ Ok (Label n) → EndsAt msg at at
ends_at_label msg at n p = ends_at_part msg at (Ok (Label n)) p (λ target e. absurd (cc))

-- a pointer below its place leads to the end of its target's
pub ends_at_target : (msg : List ℕ) (at target end : ℕ) → part_at msg at ≡ Ok (Pointer target) → target < at → EndsAt msg target end → EndsAt msg at end
ends_at_target msg at target end p g is = record { leads = hop p g is.leads; settled = is.settled }

-- one more place is known
pub more_ends : (msg ends : List ℕ) (at end : ℕ) → AreEnds msg ends at → at < length ends → EndsAt msg at end → AreEnds msg (slice_set ends at end) (at + 1)
more_ends msg ends at end are g is =
    λ place h. elim (le_or_lt at place) [
      | inl up ↦
          let same : at ≡ place = omega arith in
          let there : slice_index (slice_set ends at end) place ≡ end = get_or-set_at ends at place end 0 (sym same) g in
          subst (λ (x : ℕ). EndsAt msg place x) (sym there) (subst (λ (x : ℕ). EndsAt msg x end) same is)
      | inr down ↦
          let there : slice_index (slice_set ends at end) place ≡ slice_index ends place = get_or-set_other ends at place end 0 (λ e. absurd (omega (arith, e))) in
          subst (λ (x : ℕ). EndsAt msg place x) (sym there) (are place down)
    ]
