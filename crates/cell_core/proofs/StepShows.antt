-- Each step on one word shows at most one step of a cell.
use Rattle.std.proofs.Common.{◌≡◌, refl, sym, ap, ◌∙◌, subst, ℕ, ◌+◌, ◌-◌, true, inl, inr, length, arith}
use Rattle.std.specs.Prelude.{Result, Ok, Err, IfOk, None, Some}
use Rattle.std.proofs.lemmas.Bool.Decides.{eqb_tells}
use Rattle.std.proofs.lemmas.Option.{slice_get_within}
use Rattle.cell_core.proofs.SeatLemmas.{get_within}
use Rattle.cell_core.specs.Cell.{Cell, with_strong, without_strong, with_value, with_buried}
use Rattle.cell_core.specs.Words.{State, slots, free_word, dead_word, bulk, word_of, slot_of, given_of, fetch_sub, fetch_add}
use Rattle.cell_core.specs.WordSteps.{Makes, Loads, Probes, Prepares, Swaps, Settles, Releases, Buries, Frees, with_slot, with_owner, with_new_owner, with_publisher, with_shares, with_version}
use Rattle.cell_core.specs.Shows.{SlotIs, PublisherIs, Shows, ShowsStep}
use Rattle.cell_core.specs.Shows.Phase.{taken}
use Rattle.cell_core.specs.declared.words.Owner.TheVariants.{Holding, Burying, Fading, Spent}
use Rattle.cell_core.specs.declared.words.Publisher.TheVariants.{Probing, Preparing, Swapping, Settling}
use Rattle.cell_core.specs.declared.words.WordStep.{WordStep}
use Rattle.cell_core.specs.declared.words.WordStep.TheVariants.{Load, Probe, Prepare, Swap, Settle, Release, Bury, Free, Look, Raise, Note, Fade, Reset}
use Rattle.cell_core.specs.declared.words.WordEvent.{WordEvent}
use Rattle.cell_core.specs.declared.words.WordEvent.TheVariants.{Loaded, Passed, Taken, NoSlot, Prepared, Swapped, Settled, Left, Emptied, Buried, Kept, Freed}
use Rattle.cell_core.proofs.ShowsLemmas.{latest_slot, latest_given, number_there, latest_number}
use Rattle.cell_core.proofs.FreeKeeps.{free_keeps}
use Rattle.cell_core.proofs.SwapKeeps.{swap_keeps}
use Rattle.cell_core.proofs.BuryKeeps.{can_bury, bury_keeps, kept_keeps}
use Rattle.cell_core.proofs.ReleaseKeeps.{can_release, release_keeps}
use Rattle.cell_core.proofs.ProbeKeeps.{take_keeps, pass_keeps, prepare_keeps}
use Rattle.cell_core.proofs.LoadKeeps.{load_keeps, settle_keeps}
use Rattle.cell_core.proofs.WeakShows.{shown, look_shows, raise_shows, note_shows, fade_shows, reset_shows}

load_shows : {T : Type 0} (state new : State T) (event : WordEvent) (cell : Cell T) → Shows state cell → Loads state event new → (next : Cell T) × ShowsStep {T = T} state Load event cell next × Shows new next
load_shows {T} state new event cell s m =
    let e = latest_number state cell s m.0 m.1 in
    let base : State T = record state { latest = fetch_add state.latest 1; granted = state.granted + 1 } in
    let path = m.4 ∙ ap (λ n. with_new_owner (Holding n (slot_of state.latest)) base) e ∙ ap (λ p. with_new_owner (Holding s.plan.last p) base) (latest_slot state cell s) in
    shown state new (with_new_owner (Holding s.plan.last (s.plan.slot s.plan.last)) base) Load event (Loaded (length state.owners) m.0) cell (with_strong s.plan.last cell) m.3 path
    (s.plan.last, s.numbers.last, ap Some e, refl)
    (load_keeps state cell s m.2)

probe_shows : {T : Type 0} (state new : State T) (event : WordEvent) (cell : Cell T) → Shows state cell → Probes state event new → (next : Cell T) × ShowsStep {T = T} state Probe event cell next × Shows new next
probe_shows {T} state new event cell s m =
    let mine = subst (λ p. PublisherIs cell s.plan state.granted p) m.2 s.publisher_is in
    elim (eqb_tells m.1.shares free_word) [
      | inl is_free ↦ (
          let r = rw is_free.0 at m.4 in
          shown state new (with_publisher (Preparing m.0) state) Probe event Taken cell cell r.0 r.1 refl (take_keeps state cell m.0 m.1 s m.2 m.3 is_free.1)
          )
      | inr not_free ↦ (
          let rest = rw not_free.0 at m.4 in
          elim (eqb_tells (m.0 + 1) slots) [
            | inl all ↦ (let r = rw all.0 at rest in shown state new (with_publisher (Probing 0) state) Probe event NoSlot cell cell r.0 r.1 refl (pass_keeps state cell m.0 0 s m.2 (omega arith)))
            | inr more ↦ (let r = rw more.0 at rest in shown state new (with_publisher (Probing (m.0 + 1)) state) Probe event Passed cell cell r.0 r.1 refl (pass_keeps state cell m.0 (m.0 + 1) s m.2 (omega (arith, mine, more.1))))
          ]
          )
    ]

prepare_shows : {T : Type 0} (state new : State T) (value : T) (event : WordEvent) (cell : Cell T) → Shows state cell → Prepares state value event new → (next : Cell T) × ShowsStep state (Prepare value) event cell next × Shows new next
prepare_shows {T} state new value event cell s m =
    let e = latest_number state cell s m.2 m.5 in
    let path = m.8 ∙ ap (λ n. with_publisher (Swapping m.0) (with_slot m.0 (with_shares bulk (with_version (Some (record { number = n + 1; value = value })) m.1)) state)) e in
    shown state new (with_publisher (Swapping m.0) (with_slot m.0 (with_shares bulk (with_version (Some (record { number = s.plan.last + 1; value = value })) m.1)) state)) (Prepare value) event Prepared cell cell m.7 path refl
    (prepare_keeps state cell m.0 m.1 value s m.3 m.4)

swap_shows : {T : Type 0} (state new : State T) (event : WordEvent) (cell : Cell T) → Shows state cell → Swaps state event new → (next : Cell T) × ShowsStep {T = T} state Swap event cell next × Shows new next
swap_shows {T} state new event cell s m =
    let e = latest_number state cell s m.1 m.4 in
    let mine = subst (λ p. PublisherIs cell s.plan state.granted p) m.2 s.publisher_is in
    let found = get_within state.table m.0 (omega (arith, m.3, s.table.size)) in
    let was : SlotIs state cell s.plan m.0 (taken true) found.0 = subst (λ p. SlotIs state cell s.plan m.0 p found.0) mine.1 (s.table.slot_is m.0 found.0 found.1) in
    let base : State T = record state { latest = word_of m.0 0 } in
    let path = m.6
    ∙ ap (λ n. with_publisher (Settling n (slot_of state.latest) (given_of state.latest)) base) e
    ∙ ap (λ p. with_publisher (Settling s.plan.last p (given_of state.latest)) base) (latest_slot state cell s)
    ∙ ap (λ n. with_publisher (Settling s.plan.last (s.plan.slot s.plan.last) n) base) (latest_given state cell s) in
    shown state new (with_publisher (Settling s.plan.last (s.plan.slot s.plan.last) s.plan.given) base) Swap event (Swapped m.1) cell (with_value was.2 (with_strong s.plan.last cell)) m.5 path
    (was.2, (m.0, s.plan.last + 1, m.2, rw found.1 was.3), (s.plan.last, s.numbers.last, ap Some e, refl))
    (swap_keeps state cell m.0 found.0 was.2 s m.2 found.1 was.1 was.3)

settle_shows : {T : Type 0} (state new : State T) (event : WordEvent) (cell : Cell T) → Shows state cell → Settles state event new → (next : Cell T) × ShowsStep {T = T} state Settle event cell next × Shows new next
settle_shows {T} state new event cell s m =
    shown state new (with_publisher (Probing 0) (with_new_owner (Holding m.0 m.1) (with_slot m.1 (with_shares (fetch_sub m.3.shares (bulk - m.2 - 1)) m.3) state))) Settle event (Settled (length state.owners) m.0) cell cell m.6 m.7 refl
    (settle_keeps state cell m.0 m.1 m.2 m.3 s m.4 m.5)

release_shows : {T : Type 0} (state new : State T) (owner : ℕ) (event : WordEvent) (cell : Cell T) → Shows state cell → Releases state owner event new → (next : Cell T) × ShowsStep {T = T} state (Release owner) event cell next × Shows new next
release_shows {T} state new owner event cell s m =
    let can = can_release state cell s owner m.0 m.1 m.2 m.3 m.4 in
    let within = slice_get_within state.table m.1 m.2 m.4 in
    elim (eqb_tells (fetch_sub m.2.shares 1) 0) [
      | inl none ↦ (
          let r = rw none.0 at m.5 in
          shown state new (with_owner owner (Burying m.1) (with_slot m.1 (with_shares 0 m.2) state)) (Release owner) event Emptied cell (without_strong m.0 cell) r.0 r.1
          (m.0, m.1, m.3, (can.owned, refl, refl))
          (release_keeps state cell owner m.0 m.1 0 m.2 (Burying m.1) s m.3 m.4 (omega (arith, can.less, none.1)) (λ j. (refl, refl)) (λ e. refl) (omega (arith, within, s.table.size)))
          )
      | inr some ↦ (
          let r = rw some.0 at m.5 in
          shown state new (with_owner owner Spent (with_slot m.1 (with_shares (fetch_sub m.2.shares 1) m.2) state)) (Release owner) event Left cell (without_strong m.0 cell) r.0 r.1
          (m.0, m.1, m.3, (can.owned, refl, refl))
          (release_keeps state cell owner m.0 m.1 (fetch_sub m.2.shares 1) m.2 Spent s m.3 m.4 can.less (λ j. (refl, refl)) (λ e. absurd (some.1 e)) tt)
          )
    ]

bury_shows : {T : Type 0} (state new : State T) (owner : ℕ) (event : WordEvent) (cell : Cell T) → Shows state cell → Buries state owner event new → (next : Cell T) × ShowsStep {T = T} state (Bury owner) event cell next × Shows new next
bury_shows {T} state new owner event cell s m =
    elim (eqb_tells m.1.shares 0) [
      | inl zero ↦ (
          let r = rw zero.0 at m.4 in
          let found = can_bury state cell s m.0 m.1 m.3 zero.1 in
          let can = found.1 in
          let there = number_there state m.0 found.0 can.is.value m.1 m.3 can.is.version in
          let e : r.0 ≡ found.0 = (let f : Some r.0 ≡ Some found.0 = sym r.1 ∙ there in cc) in
          shown state new (with_owner owner (Fading m.0) (with_slot m.0 (with_shares dead_word (with_version None m.1)) state)) (Bury owner) event (Buried found.0) cell (with_buried found.0 cell) (r.2 ∙ ap Buried e) r.3
          (omega (arith, can.before, s.numbers.last), omega (arith, s.counts.strong found.0, can.unheld, can.unowned), can.is.unburied, refl, refl)
          (bury_keeps state cell owner m.0 found.0 m.1 s m.2 m.3 can)
          )
      | inr some ↦ (
          let r = rw some.0 at m.4 in
          shown state new (with_owner owner Spent state) (Bury owner) event Kept cell cell r.0 r.1 refl (kept_keeps state cell owner m.0 m.1 s m.2 m.3 some.1)
          )
    ]

free_shows : {T : Type 0} (state new : State T) (owner : ℕ) (event : WordEvent) (cell : Cell T) → Shows state cell → Frees state owner event new → (next : Cell T) × ShowsStep {T = T} state (Free owner) event cell next × Shows new next
free_shows {T} state new owner event cell s m =
    shown state new (with_owner owner Spent (with_slot m.0 (with_shares free_word m.1) state)) (Free owner) event Freed cell cell m.4 m.5 refl (free_keeps state cell owner m.0 m.1 s m.2 m.3)

pub step_shows : {T : Type 0} (state new : State T) (step : WordStep T) (event : WordEvent) (cell : Cell T) → Shows state cell → Makes state step event new → (next : Cell T) × ShowsStep state step event cell next × Shows new next
step_shows state new Load event cell s m = load_shows state new event cell s m
step_shows state new Probe event cell s m = probe_shows state new event cell s m
step_shows state new (Prepare value) event cell s m = prepare_shows state new value event cell s m
step_shows state new Swap event cell s m = swap_shows state new event cell s m
step_shows state new Settle event cell s m = settle_shows state new event cell s m
step_shows state new (Release owner) event cell s m = release_shows state new owner event cell s m
step_shows state new (Bury owner) event cell s m = bury_shows state new owner event cell s m
step_shows state new (Free owner) event cell s m = free_shows state new owner event cell s m
step_shows state new (Look owner) event cell s m = look_shows state new owner event cell s m
step_shows state new (Raise owner) event cell s m = raise_shows state new owner event cell s m
step_shows state new (Note owner) event cell s m = note_shows state new owner event cell s m
step_shows state new (Fade owner) event cell s m = fade_shows state new owner event cell s m
step_shows state new (Reset owner) event cell s m = reset_shows state new owner event cell s m

-- what a step gives shows it
pub shows_as : {T E : Type 0} (old new : State T) (step : WordStep T) (r : Result WordEvent E) → IfOk r (λ event. Makes old step event new) → IfOk r (λ event. (cell : Cell T) → Shows old cell → (next : Cell T) × ShowsStep old step event cell next × Shows new next)
shows_as old new step (Ok event) m = λ cell s. step_shows old new step event cell s m
shows_as old new step (Err fault) m = tt
