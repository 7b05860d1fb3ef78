-- Which steps on words can be made.
use Rattle.std.proofs.Common.{◌≡◌, refl, sym, ap, ◌∙◌, ℕ, ◌<◌, length, true, arith}
use Rattle.std.specs.Prelude.{Option, None, Some, Result, Ok, Err, ◌↔◌, IfOk, nat_lt}
use Rattle.std.specs.List.{slice_get}
use Rattle.std.proofs.lemmas.Bool.{lt-ltb}
use Rattle.std.specs.Option.{option_map}
use Rattle.std.specs.Result.{IsErrOf}
use Rattle.cell_core.specs.Words.{State, grants, notes, dead_word, slot_of, number_in, fetch_add}
use Rattle.cell_core.specs.WordSteps.{Makes, HasWordStep, owned_in, with_slot, with_new_owner, with_shares, with_grant}
use Rattle.cell_core.specs.declared.words.Slot.{Slot}
use Rattle.cell_core.specs.declared.words.Owner.TheVariants.{Holding}
use Rattle.cell_core.specs.declared.words.Publisher.TheVariants.{Settling}
use Rattle.cell_core.specs.declared.words.WordEvent.{WordEvent}
use Rattle.cell_core.specs.declared.words.WordStep.{WordStep}
use Rattle.cell_core.specs.declared.words.WordStep.TheVariants.{Load, Settle, Raise, Note}
use Rattle.cell_core.specs.declared.words.WordEvent.TheVariants.{Raised}
use Rattle.cell_core.specs.declared.fault.StepFault.{StepFault}
use Rattle.cell_core.specs.declared.fault.StepFault.TheVariants.{NotEnabled, NoMemory}

-- a step is refused exactly where there is none, if what is made is one, what is refused for want of a step isn't there, and
-- what is refused for want of memory is
pub exactly : {T : Type 0} (state : State T) (step : WordStep T) (r : Result WordEvent StepFault) (new : State T) → IfOk r (λ event. Makes state step event new) → (IsErrOf r NotEnabled → HasWordStep state step → ⊥) → (IsErrOf r NoMemory → HasWordStep state step) → IsErrOf r NotEnabled ↔ (HasWordStep state step → ⊥)
exactly state step (Ok event) new word none_there there = (λ e. absurd (cc), λ none. absurd (none (event, new, word)))
exactly state step (Err NotEnabled) new word none_there there = (none_there, λ _. refl)
exactly state step (Err NoMemory) new word none_there there = (λ e. absurd (cc), λ none. absurd (none (there refl)))

-- a load can be made
pub has_load : {T : Type 0} (state : State T) (number : ℕ) → number_in state (slot_of state.latest) ≡ Some number → state.granted < grants → HasWordStep {T = T} state Load
has_load state number there few = (_, _, (number, there, few, refl, refl))

-- a slot whose word is there is there
slot_there : {T : Type 0} (there : Option (Slot T)) (shares : ℕ) → option_map (λ (s : Slot T). s.shares) there ≡ Some shares → (slot : Slot T) × (there ≡ Some slot)
slot_there None shares h = absurd (let wrong = h in cc)
slot_there (Some slot) shares h = (slot, refl)

weak_there : {T : Type 0} (there : Option (Slot T)) (weak : ℕ) → option_map (λ (s : Slot T). s.weak) there ≡ Some weak → (slot : Slot T) × (there ≡ Some slot)
weak_there None weak h = absurd (let wrong = h in cc)
weak_there (Some slot) weak h = (slot, refl)

-- a raise that makes an owner can be made
pub has_raise : {T : Type 0} (state : State T) (owner number place shares : ℕ) → owned_in state owner ≡ Some (number, place) → option_map (λ (s : Slot T). s.shares) (slice_get state.table place) ≡ Some shares → state.granted < grants → shares < dead_word → HasWordStep {T = T} state (Raise owner)
has_raise {T} state owner number place shares is h few little =
    let there = slot_there (slice_get state.table place) shares h in
    let e : there.0.shares ≡ shares = (let f : Some there.0.shares ≡ Some shares = ap (option_map (λ (s : Slot T). s.shares)) (sym there.1) ∙ h in cc) in
    let below : nat_lt there.0.shares dead_word ≡ true = lt-ltb there.0.shares dead_word (omega (arith, e, little)) in
    (Raised (length state.owners) number, with_new_owner (Holding number place) (with_grant (with_slot place (with_shares (fetch_add there.0.shares 1) there.0) state)), (number, place, there.0, is, there.1, few, rw below (refl, refl)))

-- a note can be made
pub has_note : {T : Type 0} (state : State T) (owner number place weak : ℕ) → slice_get state.owners owner ≡ Some (Holding number place) → option_map (λ (s : Slot T). s.weak) (slice_get state.table place) ≡ Some weak → state.noted < notes → HasWordStep {T = T} state (Note owner)
has_note {T} state owner number place weak is h few =
    let there = weak_there (slice_get state.table place) weak h in
    (_, _, (number, place, there.0, is, there.1, few, refl, refl))

-- a settle can be made
pub has_settle : {T : Type 0} (state : State T) (number place given shares : ℕ) → state.publisher ≡ Settling number place given → option_map (λ (s : Slot T). s.shares) (slice_get state.table place) ≡ Some shares → HasWordStep {T = T} state Settle
has_settle state number place given shares is h =
    let there = slot_there (slice_get state.table place) shares h in
    (_, _, (number, place, given, there.0, is, there.1, refl, refl))
