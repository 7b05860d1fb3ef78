-- What a user of a cell knows of a run from the first value on.
use Rattle.std.proofs.Common.{◌≡◌, refl, sym, ap, ◌∙◌, subst, ℕ, zero, suc, ◌+◌, ◌-◌, ◌<◌, ◌≤◌, true, false, ◌⊎◌, inl, inr, List, [], ◌∷◌, ◌++◌, length, take, arith, append_assoc, true≢false}
use Rattle.std.specs.Prelude.{Option, None, Some, ◌^◌}
use Rattle.std.specs.List.{slice_get}
use Rattle.std.specs.Option.{option_to_list}
use Rattle.std.proofs.lemmas.Bool.Decides.{eqb_tells}
use Rattle.std.proofs.lemmas.Option.{slice_get_within}
use Rattle.cell_core.proofs.SeatLemmas.{held_none, held_some, one_at_itself, get_within}
use Rattle.cell_core.proofs.ShowsLemmas.{last_lies, latest_number, latest_slot}
use Rattle.cell_core.proofs.LawLemmas.{get_before_more}
use Rattle.cell_core.proofs.LittleLemmas.{live_little, few_weak}
use Rattle.cell_core.proofs.StepShows.{step_shows}
use Rattle.cell_core.proofs.BeginShows.{begun_shows}
use Rattle.cell_core.proofs.UserLemmas.{owner_finds, owner_is_given, last_is_given, bury_finds_unowned}
use Rattle.cell_core.proofs.OwnerLemmas.{was_in_w}
use Rattle.cell_core.proofs.PublishedLemmas.{waits_not, no_probing, RunTells, run_tells}
use Rattle.cell_core.specs.Cell.{Cell, start}
use Rattle.cell_core.specs.Words.{State, begun, grants, notes, bulk, free_word, dead_word, slot_of, fetch_add, found_by, found_last}
use Rattle.cell_core.specs.WordSteps.{Makes}
use Rattle.cell_core.specs.Shows.{Rest, Phase, IsLive, SlotIs, RestWord, WeakWord, OwnerIs, PublisherIs, Plan, Shows, WordRuns, held, holds, weaks, owned_by, kept_by}
use Rattle.cell_core.specs.Shows.Rest.{fading, outlived, closing, closed}
use Rattle.cell_core.specs.Shows.Phase.{free, taken, live, dead}
use Rattle.cell_core.specs.Published.{swapped, published_by, IsBuriedBy}
use Rattle.cell_core.specs.declared.words.Slot.{Slot}
use Rattle.cell_core.specs.declared.words.Owner.{Owner}
use Rattle.cell_core.specs.declared.words.Owner.TheVariants.{Holding, Twice, Weakly, Both, Burying, Fading, Resetting, Freeing, Spent}
use Rattle.cell_core.specs.declared.words.Publisher.{Publisher}
use Rattle.cell_core.specs.declared.words.Publisher.TheVariants.{Probing, Preparing, Swapping, Settling}
use Rattle.cell_core.specs.declared.words.WordStep.{WordStep}
use Rattle.cell_core.specs.declared.words.WordStep.TheVariants.{Load, Prepare, Swap, Bury}
use Rattle.cell_core.specs.declared.words.WordEvent.{WordEvent}
use Rattle.cell_core.specs.declared.words.WordEvent.TheVariants.{Loaded, Swapped, Buried}

-- what a run from the first value on tells
pub from_first : {T : Type 0} (first : T) (after : State T) (run : List (WordStep T × WordEvent)) → WordRuns (begun first) run after → RunTells after run None (start first)
from_first first after run r =
    run_tells (begun first) after run None (start first) (begun_shows first) (waits_not (begun first) None (Probing 0) refl (no_probing 0)) r

pub shown_cell : {T : Type 0} (first : T) (after : State T) (run : List (WordStep T × WordEvent)) (r : WordRuns (begun first) run after) → (number : ℕ) → (from_first first after run r).next.buried number ≡ true → IsBuriedBy run number
shown_cell first after run r number h = elim ((from_first first after run r).reported number h) [ inl wrong ↦ absurd (true≢false (sym wrong)) | inr there ↦ there ]

-- an owner finds the value of its number
pub owner_has : {T : Type 0} (first : T) (after : State T) (run : List (WordStep T × WordEvent)) (owner number place : ℕ) → WordRuns (begun first) run after → slice_get after.owners owner ≡ Some (Holding number place) → (value : T) × (found_by after owner ≡ Some value) × (slice_get (published_by first run) number ≡ Some value)
owner_has first after run owner number place r seat =
    let t = from_first first after run r in
    let found = owner_finds after t.next owner number place t.shows seat in
    (found.0, owner_is_given after t.next owner number place t.shows seat ∙ found.2, ap (λ l. slice_get l number) (sym t.published) ∙ found.2)

-- the value published last lies in W's slot
pub last_has : {T : Type 0} (first : T) (after : State T) (run : List (WordStep T × WordEvent)) (last : ℕ) → WordRuns (begun first) run after → length (published_by first run) ≡ last + 1 → (value : T) × (found_last after ≡ Some value) × (slice_get (published_by first run) last ≡ Some value)
last_has first after run last r is =
    let t = from_first first after run r in
    let there = get_within (published_by first run) last (omega (arith, is)) in
    (there.0, last_is_given after t.next last t.shows (ap length t.published ∙ is) ∙ ap (λ l. slice_get l last) t.published ∙ there.1, there.1)

-- a load gives the last number
pub load_has : {T : Type 0} (first : T) (after : State T) (run : List (WordStep T × WordEvent)) (place owner number : ℕ) → WordRuns (begun first) run after → slice_get run place ≡ Some (Load, Loaded owner number) → length (published_by first (take place run)) ≡ number + 1
load_has first after run place owner number r l =
    let was = was_in_w (begun first) after run place owner number r l in
    let t = from_first first was.0 (take place run) was.1 in
    let e = latest_number was.0 t.next t.shows number was.2 in
    ap length (sym t.published) ∙ t.shows.numbers.last ∙ ap (λ n. n + 1) (sym e)

-- a step of a run, at its place
pub record StepAt {T : Type 0} (before : State T) (run : List (WordStep T × WordEvent)) (place : ℕ) (step : WordStep T) (event : WordEvent) : Type 0 where
  pub between : State T
  pub next : State T
  pub made : WordRuns before (take place run) between
  pub makes : Makes between step event next

pub step_at : {T : Type 0} (before after : State T) (run : List (WordStep T × WordEvent)) (place : ℕ) (step : WordStep T) (event : WordEvent) → WordRuns before run after → slice_get run place ≡ Some (step, event) → StepAt before run place step event
step_at before after [] place step event r h = absurd (let wrong = h in cc)
step_at {T} before after ((s, e) ∷ run) zero step event r h =
    let same : (s, e) ≡ (step, event) = (let f = h in cc) in
    record { between = before; next = r.0; made = refl; makes = subst (λ (p : WordStep T × WordEvent). Makes before p.0 p.1 r.0) same r.1 }
step_at before after ((s, e) ∷ run) (suc place) step event r h =
    let found = step_at r.0 after run place step event r.2 h in
    record { between = found.between; next = found.next; made = (r.0, r.1, found.made); makes = found.makes }

-- what a bury buries
pub buried_unowned : {T : Type 0} (first : T) (after : State T) (run : List (WordStep T × WordEvent)) (place owner number : ℕ) → WordRuns (begun first) run after → slice_get run place ≡ Some (Bury owner, Buried number) → (between : State T) × WordRuns (begun first) (take place run) between × (held between.owners number ≡ 0) × (owned_by between.publisher number ≡ 0) × (number + 1 < length (published_by first (take place run)))
buried_unowned {T} first after run place owner number r h =
    let at = step_at (begun first) after run place (Bury owner) (Buried number) r h in
    let t = from_first first at.between (take place run) at.made in
    let found = bury_finds_unowned at.between at.next t.next owner number t.shows at.makes in
    let shown = step_shows at.between at.next (Bury owner) (Buried number) t.next t.shows at.makes in
    let before_last : number + 1 < length t.next.published = shown.1.0 in
    (at.between, at.made, found.0, found.1, subst (λ (l : List T). number + 1 < length l) t.published before_last)

-- an owner of what is buried
pub holds_not : {T : Type 0} (cell : Cell T) (plan : Plan) (number i : ℕ) (how : Owner) → cell.buried number ≡ true → OwnerIs cell plan i how → holds number how ≡ 0
holds_not cell plan number i (Holding j place) gone is =
    elim (eqb_tells number j) [
      | inl same ↦ absurd (true≢false (sym gone ∙ ap cell.buried same.1 ∙ is.unburied))
      | inr other ↦ rw other.0 refl
    ]
holds_not cell plan number i (Twice j place) gone is =
    elim (eqb_tells number j) [
      | inl same ↦ absurd (true≢false (sym gone ∙ ap cell.buried same.1 ∙ is.unburied))
      | inr other ↦ rw other.0 refl
    ]
holds_not cell plan number i (Both j place) gone is =
    elim (eqb_tells number j) [
      | inl same ↦ absurd (true≢false (sym gone ∙ ap cell.buried same.1 ∙ is.0.unburied))
      | inr other ↦ rw other.0 refl
    ]
holds_not cell plan number i (Weakly j place) gone is = refl
holds_not cell plan number i (Burying place) gone is = refl
holds_not cell plan number i (Fading place) gone is = refl
holds_not cell plan number i (Resetting place) gone is = refl
holds_not cell plan number i (Freeing place) gone is = refl
holds_not cell plan number i Spent gone is = refl

settles_not : {T : Type 0} (cell : Cell T) (plan : Plan) (number granted : ℕ) (publisher : Publisher) → cell.buried number ≡ true → PublisherIs cell plan granted publisher → owned_by publisher number ≡ 0
settles_not cell plan number granted (Settling j place given) gone is =
    elim (eqb_tells number j) [
      | inl same ↦ absurd (true≢false (sym gone ∙ ap cell.buried same.1 ∙ is.0.unburied))
      | inr other ↦ rw other.0 refl
    ]
settles_not cell plan number granted (Probing place) gone is = refl
settles_not cell plan number granted (Preparing place) gone is = refl
settles_not cell plan number granted (Swapping place) gone is = refl

pub buried_behind : {T : Type 0} (first : T) (after : State T) (run : List (WordStep T × WordEvent)) (number : ℕ) → WordRuns (begun first) run after → IsBuriedBy run number → (held after.owners number ≡ 0) × (owned_by after.publisher number ≡ 0) × (number + 1 < length (published_by first run))
buried_behind first after run number r b =
    let t = from_first first after run r in
    let gone = t.buries number b in
    let s = t.shows in
    let l = s.numbers.buried number gone in (
      held_none after.owners number (λ i how h. holds_not t.next s.plan number i how gone (s.owner_is i how h)),
      settles_not t.next s.plan number after.granted after.publisher gone s.publisher_is,
      omega (arith, l, s.numbers.last, ap length t.published),
    )

-- a run that goes on
swapped_more : {T : Type 0} (waiting : Option T) (run more : List (WordStep T × WordEvent)) → (values : List T) × (swapped waiting (run ++ more) ≡ swapped waiting run ++ values)
swapped_more waiting [] more = (swapped waiting more, refl)
swapped_more waiting ((Prepare value, event) ∷ run) more = swapped_more (Some value) run more
swapped_more {T} waiting ((Swap, Swapped number) ∷ run) more =
    let rest = swapped_more {T = T} None run more in
    (rest.0, ap (λ l. option_to_list waiting ++ l) rest.1 ∙ sym (append_assoc (option_to_list waiting) (swapped None run) rest.0))
swapped_more waiting ((step, event) ∷ run) more = swapped_more waiting run more

pub published_more : {T : Type 0} (first : T) (run more : List (WordStep T × WordEvent)) → (values : List T) × (published_by first (run ++ more) ≡ published_by first run ++ values)
published_more {T} first run more = let rest = swapped_more {T = T} None run more in (rest.0, ap (λ l. first ∷ l) rest.1)

pub buried_more : {T : Type 0} (run more : List (WordStep T × WordEvent)) (number : ℕ) → IsBuriedBy run number → IsBuriedBy (run ++ more) number
buried_more run more number b = (b.0, b.1, get_before_more run more b.0 (slice_get_within run b.0 (Bury b.1, Buried number) b.2) ∙ b.2)

-- W is small
pub latest_little : {T : Type 0} (state : State T) (cell : Cell T) → Shows state cell → (state.granted ≤ grants) × (state.latest < 2 ^ 54)
latest_little state cell s =
    let lies = last_lies state cell s in
    (s.given.granted, omega (arith, s.given.latest, s.given.given, s.given.granted, lies.0))

-- S of a slot, by its phase
abbrev pub IsLittle : ℕ → Type 0
IsLittle shares = (shares ≡ free_word) ⊎ ((dead_word ≤ shares) × (shares ≤ dead_word + grants)) ⊎ (shares ≤ bulk + grants)

little_by_phase : {T : Type 0} (state : State T) (cell : Cell T) (s : Shows state cell) (place : ℕ) (there : Slot T) (phase : Phase) → SlotIs state cell s.plan place phase there → IsLittle there.shares
little_by_phase state cell s place there free is = inl is.0
little_by_phase state cell s place there (taken false) is = inl is.1
little_by_phase state cell s place there (taken true) is = inr (inr (omega (arith, is.1)))
little_by_phase state cell s place there (live j) is = inr (inr (live_little state cell s place j there is))
little_by_phase state cell s place there (dead j late rest) is = inr (inl (omega (arith, is.shares), omega (arith, is.shares, is.few, s.given.granted)))

pub shares_little : {T : Type 0} (state : State T) (cell : Cell T) (s : Shows state cell) (place : ℕ) (there : Slot T) → slice_get state.table place ≡ Some there → IsLittle there.shares
shares_little state cell s place there at = little_by_phase state cell s place there (s.plan.phase place) (s.table.slot_is place there at)

-- K of a slot, by its phase
rest_little : (weak k : ℕ) (rest : Rest) → RestWord weak rest k → k ≤ weak + 1
rest_little weak k (fading o) w = omega (arith, w)
rest_little weak k outlived w = omega (arith, w.0)
rest_little weak k (closing o) w = omega (arith, w.0)
rest_little weak k (closed o) w = omega (arith, w.0)

weak_by_phase : {T : Type 0} (state : State T) (cell : Cell T) (s : Shows state cell) (place k : ℕ) (phase : Phase) → WeakWord state.owners place phase k → k ≤ notes + 1
weak_by_phase state cell s place k free w = omega (arith, w)
weak_by_phase state cell s place k (taken prepared) w = omega (arith, w)
weak_by_phase state cell s place k (live j) w = let few = few_weak state cell s j in omega (arith, w, few)
weak_by_phase state cell s place k (dead j late rest) w =
    let few = few_weak state cell s j in
    let little = rest_little (weaks state.owners j) k rest w.0 in
    omega (arith, little, few)

pub weak_little : {T : Type 0} (state : State T) (cell : Cell T) (s : Shows state cell) (place : ℕ) (there : Slot T) → slice_get state.table place ≡ Some there → there.weak ≤ notes + 1
weak_little state cell s place there at = weak_by_phase state cell s place there.weak (s.plan.phase place) (s.table.weak_word place there at)

-- a load adds one to the shares given out, and leaves the slot as it was
pub load_adds : {T : Type 0} (state new : State T) (cell : Cell T) (event : WordEvent) → Shows state cell → Makes {T = T} state Load event new → (new.latest ≡ state.latest + 1) × (slot_of new.latest ≡ slot_of state.latest)
load_adds {T} state new cell event s m =
    let little = latest_little state cell s in
    let made : new.latest ≡ fetch_add state.latest 1 = ap (λ (x : State T). x.latest) m.4 in
    let more : new.latest ≡ state.latest + 1 = omega (arith, made, little.1) in
    let slot : slot_of state.latest ≡ s.plan.slot s.plan.last = latest_slot state cell s in
    (more, omega (arith, more, slot, s.given.latest, s.given.given, s.given.granted))

-- what a settle takes off is there
pub settle_has : {T : Type 0} (state : State T) (cell : Cell T) (number place given : ℕ) (there : Slot T) → Shows state cell → state.publisher ≡ Settling number place given → slice_get state.table place ≡ Some there → bulk - given - 1 ≤ there.shares
settle_has state cell number place given there s is at =
    let mine = subst (λ p. PublisherIs cell s.plan state.granted p) is s.publisher_is in
    let phase : s.plan.phase place ≡ live number = ap s.plan.phase (sym mine.0.here) ∙ (s.numbers.lies number (omega (arith, mine.1)) mine.0.unburied).1 in
    let there_is : IsLive state cell s.plan place number there = subst (λ p. SlotIs state cell s.plan place p there) phase (s.table.slot_is place there at) in
    let by_it : kept_by state.publisher number ≡ bulk - given = ap (λ p. kept_by p number) is ∙ elim (eqb_tells number number) [ inl same ↦ rw same.0 refl | inr other ↦ absurd (other.1 refl) ] in
    omega (arith, there_is.shares, by_it)

-- and what a release does
pub release_has : {T : Type 0} (state : State T) (cell : Cell T) (owner number place : ℕ) (there : Slot T) → Shows state cell → slice_get state.owners owner ≡ Some (Holding number place) → slice_get state.table place ≡ Some there → (0 < there.shares) × (there.shares < free_word)
release_has state cell owner number place there s seat at =
    let lies = s.owner_is owner (Holding number place) seat in
    let phase : s.plan.phase place ≡ live number = ap s.plan.phase (sym lies.here) ∙ (s.numbers.lies number (omega (arith, lies.published, s.numbers.last)) lies.unburied).1 in
    let there_is : IsLive state cell s.plan place number there = subst (λ p. SlotIs state cell s.plan place p there) phase (s.table.slot_is place there at) in
    let counted = held_some state.owners owner number (Holding number place) seat in
    let one = one_at_itself number in
    let some : 0 < held state.owners number = omega (arith, counted, one) in
    let little = live_little state cell s place number there there_is in
    (omega (arith, there_is.shares, some), omega (arith, little))
