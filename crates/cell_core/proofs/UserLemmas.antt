-- What words that show a cell tell a user of it.
use Rattle.std.proofs.Common.{◌≡◌, ◌≢◌, refl, sym, ap, ◌∙◌, subst, ℕ, ◌≤◌, true, false, inl, inr, List, [], ◌∷◌, arith}
use Rattle.std.specs.Prelude.{None, Some}
use Rattle.std.specs.List.{slice_get}
use Rattle.std.proofs.lemmas.Bool.Decides.{eqb_tells}
use Rattle.cell_core.proofs.SeatLemmas.{get_within}
use Rattle.cell_core.specs.Cell.{Cell, CellStep, IsLast, Steps, with_buried}
use Rattle.cell_core.specs.Words.{State, slot_of, number_in}
use Rattle.cell_core.specs.WordSteps.{Makes}
use Rattle.cell_core.specs.Shows.{IsLive, SlotIs, Shows, ShowsStep, held, owned_by}
use Rattle.cell_core.specs.Shows.Phase.{live}
use Rattle.cell_core.specs.declared.words.Owner.TheVariants.{Holding}
use Rattle.cell_core.specs.declared.words.WordStep.{WordStep}
use Rattle.cell_core.specs.declared.words.WordEvent.{WordEvent}
use Rattle.cell_core.proofs.ShowsLemmas.{last_lies, latest_slot, number_there, latest_number}
use Rattle.std.proofs.Common.{zero, suc}
use Rattle.cell_core.proofs.LawLemmas.{run_grows}
use Rattle.cell_core.proofs.BuryKeeps.{can_bury}
use Rattle.cell_core.proofs.StepShows.{step_shows}
use Rattle.cell_core.proofs.RunShows.{step_runs}
use Rattle.std.specs.Option.{option_and_then, option_map}
use Rattle.cell_core.specs.Words.{version_in, place_of, found_by, found_last}
use Rattle.cell_core.specs.Shows.{WordRuns}
use Rattle.cell_core.specs.declared.words.Version.{Version}
use Rattle.cell_core.specs.declared.words.WordStep.TheVariants.{Bury}
use Rattle.cell_core.specs.declared.words.WordEvent.TheVariants.{Buried, Kept}

-- an owner's value lies in its slot
pub owner_finds : {T : Type 0} (state : State T) (cell : Cell T) (owner number place : ℕ) → Shows state cell → slice_get state.owners owner ≡ Some (Holding number place) → (value : T) × (version_in state place ≡ Some (record { number = number; value = value })) × (slice_get cell.published number ≡ Some value)
owner_finds {T} state cell owner number place s seat =
    let lies = s.owner_is owner (Holding number place) seat in
    let before : number ≤ s.plan.last = omega (arith, lies.published, s.numbers.last) in
    let there = s.numbers.lies number before lies.unburied in
    let phase : s.plan.phase place ≡ live number = ap s.plan.phase (sym lies.here) ∙ there.1 in
    let found = get_within state.table place (omega (arith, there.0, lies.here, s.table.size)) in
    let is : IsLive state cell s.plan place number found.0 = subst (λ p. SlotIs state cell s.plan place p found.0) phase (s.table.slot_is place found.0 found.1) in
    (is.value, rw found.1 is.version, is.published)

-- the owner is given that value
pub owner_is_given : {T : Type 0} (state : State T) (cell : Cell T) (owner number place : ℕ) → Shows state cell → slice_get state.owners owner ≡ Some (Holding number place) → found_by state owner ≡ slice_get cell.published number
owner_is_given {T} state cell owner number place s seat =
    let found = owner_finds state cell owner number place s seat in
    let there : option_and_then (version_in state) (option_and_then place_of (slice_get state.owners owner)) ≡ Some (record { number = number; value = found.0 }) =
    ap (λ how. option_and_then (version_in state) (option_and_then place_of how)) seat ∙ found.1 in
    ap (λ version. option_map (λ (v : Version T). v.value) version) there ∙ sym found.2

-- the value in W's slot is the last one
pub last_is_given : {T : Type 0} (state : State T) (cell : Cell T) (number : ℕ) → Shows state cell → IsLast cell number → found_last state ≡ slice_get cell.published number
last_is_given {T} state cell number s is =
    let lies = last_lies state cell s in
    let at = get_within state.table (s.plan.slot s.plan.last) (omega (arith, lies.0, s.table.size)) in
    let there : IsLive state cell s.plan (s.plan.slot s.plan.last) s.plan.last at.0 = subst (λ p. SlotIs state cell s.plan (s.plan.slot s.plan.last) p at.0) lies.1 (s.table.slot_is (s.plan.slot s.plan.last) at.0 at.1) in
    let version : version_in state (slot_of state.latest) ≡ Some (record { number = s.plan.last; value = there.value }) =
    ap (version_in state) (latest_slot state cell s) ∙ rw at.1 there.version in
    let same : s.plan.last ≡ number = omega (arith, is, s.numbers.last) in
    ap (λ v. option_map (λ (x : Version T). x.value) v) version ∙ sym there.published ∙ ap (slice_get cell.published) same

-- what is buried has no owner and isn't in W
pub bury_finds_unowned : {T : Type 0} (state new : State T) (cell : Cell T) (owner number : ℕ) → Shows state cell → Makes state (Bury owner) (Buried number) new → (held state.owners number ≡ 0) × (owned_by state.publisher number ≡ 0) × (number_in state (slot_of state.latest) ≢ Some number)
bury_finds_unowned {T} state new cell owner number s m =
    elim (eqb_tells m.1.shares 0) [
      | inl none ↦ (
          let r = rw none.0 at m.4 in
          let found = can_bury state cell s m.0 m.1 m.3 none.1 in
          let can = found.1 in
          let there = number_there state m.0 found.0 can.is.value m.1 m.3 can.is.version in
          let e : r.0 ≡ found.0 = (let f : Some r.0 ≡ Some found.0 = sym r.1 ∙ there in cc) in
          let is : found.0 ≡ number = (let f : Buried number ≡ Buried r.0 = r.2 in let g : number ≡ r.0 = cc in sym (g ∙ e)) in
          (ap (held state.owners) (sym is) ∙ can.unheld, ap (owned_by state.publisher) (sym is) ∙ can.unowned, λ h. let last = latest_number state cell s number h in absurd (omega (arith, last, is, can.before)))
          )
      | inr some ↦ (let r = rw some.0 at m.4 in absurd (let apart : Buried number ≡ Kept = r.0 in cc))
    ]

-- the parts of an entry of a run
entry_is : {A B : Type 0} {x y : A × B} → Some x ≡ Some y → (x.0 ≡ y.0) × (x.1 ≡ y.1)
entry_is {A} {B} {x} {y} h = let e : x ≡ y = cc in (ap (λ (p : A × B). p.0) e, ap (λ (p : A × B). p.1) e)

-- a step that buries a number
buries_it : {T : Type 0} (state : State T) (step : WordStep T) (event : WordEvent) (cell next : Cell T) (owner number : ℕ) → step ≡ Bury owner → event ≡ Buried number → ShowsStep state step event cell next → Steps cell (CellStep.Bury number) None next
buries_it state step event cell next owner number e f s = subst (λ x. ShowsStep state (Bury owner) x cell next) f (subst (λ x. ShowsStep state x event cell next) e s)

-- a buried number isn't buried again
not_again : {T : Type 0} (before after : State T) (cell : Cell T) (run : List (WordStep T × WordEvent)) (place number owner : ℕ) → Shows before cell → cell.buried number ≡ true → WordRuns before run after → slice_get run place ≡ Some (Bury owner, Buried number) → ⊥
not_again before after cell [] place number owner s gone r h = let wrong = h in cc
not_again before after cell ((step, event) ∷ run) zero number owner s gone r h =
    let made = step_shows before r.0 step event cell s r.1 in
    let is = entry_is h in
    let buries = buries_it before step event cell made.0 owner number is.0 is.1 made.1 in
    let apart : true ≡ false = sym gone ∙ buries.2 in cc
not_again before after cell ((step, event) ∷ run) (suc place) number owner s gone r h =
    let made = step_shows before r.0 step event cell s r.1 in
    let short = step_runs before step event cell made.0 made.1 in
    not_again r.0 after made.0 run place number owner made.2 ((run_grows cell made.0 short.steps short.runs).buried number gone) r.2 h

-- a number that a step has buried isn't buried by a later one
buried_before : {T : Type 0} (before between after : State T) (cell : Cell T) (step : WordStep T) (event : WordEvent) (run : List (WordStep T × WordEvent)) (place number first second : ℕ) → Shows before cell → Makes before step event between → WordRuns between run after → step ≡ Bury first → event ≡ Buried number → slice_get run place ≡ Some (Bury second, Buried number) → ⊥
buried_before before between after cell step event run place number first second s m r e f later =
    let made = step_shows before between step event cell s m in
    let buries = buries_it before step event cell made.0 first number e f made.1 in
    let gone : (with_buried number cell).buried number ≡ true = elim (eqb_tells number number) [ inl same ↦ rw same.0 refl | inr other ↦ absurd (other.1 refl) ] in
    not_again between after made.0 run place number second made.2 (ap (λ c. c.buried number) buries.4 ∙ gone) r later

pub once : {T : Type 0} (before after : State T) (cell : Cell T) (run : List (WordStep T × WordEvent)) (one two number first second : ℕ) → Shows before cell → WordRuns before run after → slice_get run one ≡ Some (Bury first, Buried number) → slice_get run two ≡ Some (Bury second, Buried number) → one ≡ two
once before after cell [] one two number first second s r h k = absurd (let wrong = h in cc)
once before after cell ((step, event) ∷ run) zero zero number first second s r h k = refl
once before after cell ((step, event) ∷ run) zero (suc two) number first second s r h k = let is = entry_is h in absurd (buried_before before r.0 after cell step event run two number first second s r.1 r.2 is.0 is.1 k)
once before after cell ((step, event) ∷ run) (suc one) zero number first second s r h k = let is = entry_is k in absurd (buried_before before r.0 after cell step event run one number second first s r.1 r.2 is.0 is.1 h)
once before after cell ((step, event) ∷ run) (suc one) (suc two) number first second s r h k =
    let made = step_shows before r.0 step event cell s r.1 in
    ap suc (once r.0 after made.0 run one two number first second made.2 r.2 h k)
