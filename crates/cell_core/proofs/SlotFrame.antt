-- A step that changes one slot, and neither W nor the publisher, keeps what the words show where it keeps what that slot and the
-- owners are.
use Rattle.std.proofs.Common.{◌≡◌, ◌≢◌, refl, sym, ap, ◌∙◌, ℕ, ◌+◌, ◌≤◌, Bool, List, [], ◌∷◌, ◌++◌, arith, subst}
use Rattle.std.specs.Prelude.{Some}
use Rattle.std.specs.List.{slice_get, slice_set}
use Rattle.std.proofs.lemmas.Bool.Decides.{eqb_tells}
use Rattle.std.proofs.Common.{inl, inr}
use Rattle.cell_core.proofs.SeatLemmas.{get_push_old}
use Rattle.cell_core.proofs.FrameLemmas.{with_phase, charged, table_with, seat_stays, charge_stays, charge_pushed, beside_itself, publisher_stays, phase_here, phase_there, phase_stays, phase_again}
use Rattle.cell_core.specs.Cell.{Cell}
use Rattle.cell_core.specs.Words.{State, grants, notes}
use Rattle.cell_core.specs.Shows.{Rest, Phase, Plan, SlotIs, InCharge, WeakWord, OwnerIs, Counts, Shows, held, weaks, kept_by, kept_by_cell}
use Rattle.cell_core.specs.Shows.Phase.{taken, live}
use Rattle.cell_core.specs.declared.words.Slot.{Slot}
use Rattle.cell_core.specs.declared.words.Owner.{Owner}
use Rattle.cell_core.specs.declared.words.Owner.TheVariants.{Burying}

-- the words with another slot at a place, other owners, and other numbers of shares given out and of weak owners made
abbrev pub stepped : {T : Type 0} → State T → ℕ → Slot T → List Owner → ℕ → ℕ → State T
stepped state place after owners granted noted = record state { table = slice_set state.table place after; owners = owners; granted = granted; noted = noted }

-- a cell with other counts
abbrev pub counted : {T : Type 0} → Cell T → (ℕ → ℕ) → (ℕ → ℕ) → Cell T
counted cell strong weak = record cell { strong = strong; weak = weak }

-- what the facts of another slot tell of the owners is so after a step, too
pub record Around {T : Type 0} (state : State T) (owners : List Owner) (plan : Plan) (p : ℕ) (there : Slot T) : Type 0 where
  pub held_as : (j : ℕ) → plan.slot j ≡ p → held owners j ≡ held state.owners j
  pub weak_as : (j : ℕ) → plan.slot j ≡ p → weaks owners j ≡ weaks state.owners j
  pub burying : there.shares ≡ 0 → (i : ℕ) → slice_get state.owners i ≡ Some (Burying p) → slice_get owners i ≡ Some (Burying p)
  pub charge : (rest : Rest) → InCharge state.owners p rest → InCharge owners p rest

pub step_keeps : {T : Type 0} (state : State T) (cell : Cell T) (s : Shows state cell) (place : ℕ) (there after : Slot T) (owners : List Owner) (granted noted : ℕ) (strong weak : ℕ → ℕ) (phase : Phase) → slice_get state.table place ≡ Some there → state.granted ≤ granted → granted ≤ grants → noted ≤ notes → ((prepared : Bool) → s.plan.phase place ≡ taken prepared → ⊥) → ((j : ℕ) → s.plan.phase place ≡ live j → phase ≡ live j) → Counts (stepped state place after owners granted noted) (counted cell strong weak) (with_phase place phase s.plan) → SlotIs (stepped state place after owners granted noted) (counted cell strong weak) (with_phase place phase s.plan) place phase after → WeakWord owners place phase after.weak → ((p : ℕ) (slot : Slot T) → slice_get state.table p ≡ Some slot → p ≢ place → Around state owners s.plan p slot) → ((i : ℕ) (how : Owner) → slice_get owners i ≡ Some how → OwnerIs (counted cell strong weak) (with_phase place phase s.plan) i how) → Shows (stepped state place after owners granted noted) (counted cell strong weak)
step_keeps {T} state cell s place there after owners granted noted strong weak phase at more few few_weak not_taken still_live counts here k others owner_is =
    let new : State T = stepped state place after owners granted noted in
    let next : Cell T = counted cell strong weak in
    let later : Plan = with_phase place phase s.plan in
    record {
      plan = later;
      numbers = record {
        last = s.numbers.last;
        buried = s.numbers.buried;
        lies = λ j l u. let old = s.numbers.lies j l u in (old.0, phase_again place phase s.plan (live j) (still_live j) (s.plan.slot j) old.1);
      };
      given = record { latest = s.given.latest; given = omega (arith, s.given.given, more); granted = few; noted = few_weak };
      counts = counts;
      table = table_with state new cell next s.plan later place there after s.numbers s.table at refl
          (λ p other. phase_there place p phase s.plan other)
          (subst (λ x. SlotIs new next later place x after) (sym (phase_here place phase s.plan)) here)
          (subst (λ x. WeakWord owners place x after.weak) (sym (phase_here place phase s.plan)) k)
          (λ p slot found other. let around = others p slot found other in record {
            preparing = λ e. e;
            swapping = λ e. (e, refl);
            burying = around.burying;
            charge = around.charge;
            granted = more;
            slot = λ j e l. e;
            buried = λ j e l u. u;
            gone = λ j u. u;
            published = λ j v q. q;
            shares = λ j e l. ap (λ n. n + kept_by_cell s.plan.last s.plan.given j + kept_by state.publisher j) (around.held_as j e);
            weak = λ j e l. around.weak_as j e;
          });
      owner_is = owner_is;
      publisher_is = publisher_stays cell next s.plan later state.granted granted state.publisher (beside_itself cell next s.plan place phase refl) more refl (λ number where_to given e u. u)
          (λ p prepared e. phase_stays place phase s.plan (taken prepared) (not_taken prepared) p e)
          s.publisher_is;
    }

-- the other slots, when one owner more has a number that lies here, or when an owner has come further
pub around_pushed : {T : Type 0} (state : State T) (more : Owner) (plan : Plan) (p : ℕ) (there : Slot T) → ((j : ℕ) → plan.slot j ≡ p → held (state.owners ++ more ∷ []) j ≡ held state.owners j) → ((j : ℕ) → plan.slot j ≡ p → weaks (state.owners ++ more ∷ []) j ≡ weaks state.owners j) → Around state (state.owners ++ more ∷ []) plan p there
around_pushed state more plan p there strong weak =
    record {
      held_as = strong;
      weak_as = weak;
      burying = λ none i q. get_push_old state.owners more (Burying p) i q;
      charge = λ rest c. charge_pushed state.owners more p rest c;
    }

pub around_seat : {T : Type 0} (state : State T) (i : ℕ) (before after : Owner) (plan : Plan) (p : ℕ) (there : Slot T) → slice_get state.owners i ≡ Some before → (before ≡ Burying p → ⊥) → (charged before ≡ Some p → ⊥) → ((j : ℕ) → plan.slot j ≡ p → held (slice_set state.owners i after) j ≡ held state.owners j) → ((j : ℕ) → plan.slot j ≡ p → weaks (slice_set state.owners i after) j ≡ weaks state.owners j) → Around state (slice_set state.owners i after) plan p there
around_seat state i before after plan p there seat burying charge strong weak =
    record {
      held_as = strong;
      weak_as = weak;
      burying = λ none k q. seat_stays state.owners i before after (Burying p) seat burying k q;
      charge = λ rest c. charge_stays state.owners i before after p seat charge rest c;
    }

-- a slot that keeps its phase
pub phase_same : (place : ℕ) (phase : Phase) (plan : Plan) → plan.phase place ≡ phase → (p : ℕ) → (with_phase place phase plan).phase p ≡ plan.phase p
phase_same place phase plan is p =
    elim (eqb_tells p place) [
      | inl same ↦ ap (with_phase place phase plan).phase same.1 ∙ phase_here place phase plan ∙ sym is ∙ ap plan.phase (sym same.1)
      | inr other ↦ phase_there place p phase plan other.1
    ]
