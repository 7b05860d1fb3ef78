-- A publication that finds no slot has probed them all.
use Rattle.std.proofs.Common.{◌≡◌, ◌≢◌, refl, sym, ap, ◌∙◌, subst, ℕ, zero, suc, ◌+◌, ◌<◌, false, ◌⊎◌, inl, inr, List, [], ◌∷◌, take, arith}
use Rattle.std.specs.Prelude.{Some, ◌==◌, nat_lt}
use Rattle.std.specs.List.{slice_get}
use Rattle.std.proofs.lemmas.Bool.{cases_Bool}
use Rattle.std.proofs.lemmas.Bool.Decides.{eqb_tells}
use Rattle.cell_core.proofs.RunLawLemmas.{step_at}
use Rattle.cell_core.specs.Words.{State, slots, free_word, dead_word, fetch_sub}
use Rattle.cell_core.specs.WordSteps.{Makes}
use Rattle.cell_core.specs.Shows.{WordRuns}
use Rattle.cell_core.specs.Published.{is_publishing, SeesTaken, SeesAllTaken}
use Rattle.cell_core.specs.declared.words.Slot.{Slot}
use Rattle.cell_core.specs.declared.words.Publisher.TheVariants.{Probing, Preparing, Swapping, Settling}
use Rattle.cell_core.specs.declared.words.WordStep.{WordStep}
use Rattle.cell_core.specs.declared.words.WordStep.TheVariants.{Load, Probe, Prepare, Swap, Settle, Release, Bury, Free, Look, Raise, Note, Fade, Reset}
use Rattle.cell_core.specs.declared.words.WordEvent.{WordEvent}
use Rattle.cell_core.specs.declared.words.WordEvent.TheVariants.{NoSlot}

-- a probe that sees another word than FREE
pub record Passes {T : Type 0} (state : State T) (slot : ℕ) : Type 0 where
  pub due : state.publisher ≡ Probing slot
  pub there : Slot T
  pub found : slice_get state.table slot ≡ Some there
  pub taken : there.shares ≢ free_word

-- a number is 0, or the next one of another
cases_zero : (n : ℕ) → (n ≡ 0) ⊎ ((m : ℕ) × (n ≡ suc m))
cases_zero zero = inl refl
cases_zero (suc m) = inr (m, refl)

some_is : {X : Type 0} {x y : X} → Some x ≡ Some y → x ≡ y
some_is e = cc

-- what a step does to a publication that is to probe this slot behind it: nothing, or it has passed the slot before it
abbrev pub Came : {T : Type 0} → State T → WordStep T → ℕ → Type 0
Came state step slot = ((is_publishing step ≡ false) × (state.publisher ≡ Probing (suc slot))) ⊎ ((step ≡ Probe) × Passes state slot)

next_slot : (place slot : ℕ) → Probing (place + 1) ≡ Probing (suc slot) → place ≡ slot
next_slot place slot e = let same : place + 1 ≡ suc slot = cc in omega (arith, same)

no_first : (slot : ℕ) → Probing 0 ≡ Probing (suc slot) → ⊥
no_first slot e = let same : 0 ≡ suc slot = cc in omega (arith, same)

no_preparing : (place slot : ℕ) → Preparing place ≡ Probing slot → ⊥
no_preparing place slot e = let wrong = e in absurd (cc)

no_swapping : (place slot : ℕ) → Swapping place ≡ Probing slot → ⊥
no_swapping place slot e = let wrong = e in absurd (cc)

no_settling : (number place given slot : ℕ) → Settling number place given ≡ Probing slot → ⊥
no_settling number place given slot e = let wrong = e in absurd (cc)

probe_came : {T : Type 0} (old new : State T) (event : WordEvent) (slot : ℕ) → Makes {T = T} old Probe event new → new.publisher ≡ Probing (suc slot) → Came {T = T} old Probe slot
probe_came {T} old new event slot (place, there, at, found, m) due =
    elim (eqb_tells there.shares free_word) [
      | inl free ↦ (let h = rw free.0 at m in absurd (no_preparing place (suc slot) (sym (ap (λ (s : State T). s.publisher) h.1) ∙ due)))
      | inr isnt ↦ (
          let rest = rw isnt.0 at m in
          elim (cases_Bool (place + 1 == slots)) [
            | inl all ↦ (let h = rw all at rest in absurd (no_first slot (sym (ap (λ (s : State T). s.publisher) h.1) ∙ due)))
            | inr more ↦ (
                let h = rw more at rest in
                let same : place ≡ slot = next_slot place slot (sym (ap (λ (s : State T). s.publisher) h.1) ∙ due) in
                inr (refl, record { due = at ∙ ap Probing same; there = there; found = ap (slice_get old.table) (sym same) ∙ found; taken = isnt.1 })
                )
          ]
          )
    ]

release_came : {T : Type 0} (old new : State T) (owner : ℕ) (event : WordEvent) → Makes {T = T} old (Release owner) event new → new.publisher ≡ old.publisher
release_came {T} old new owner event (number, place, there, seat, found, m) =
    elim (cases_Bool (fetch_sub there.shares 1 == 0)) [
      | inl none ↦ (let h = rw none at m in ap (λ (s : State T). s.publisher) h.1)
      | inr some ↦ (let h = rw some at m in ap (λ (s : State T). s.publisher) h.1)
    ]

bury_came : {T : Type 0} (old new : State T) (owner : ℕ) (event : WordEvent) → Makes {T = T} old (Bury owner) event new → new.publisher ≡ old.publisher
bury_came {T} old new owner event (place, there, seat, found, m) =
    elim (cases_Bool (there.shares == 0)) [
      | inl none ↦ (let h = rw none at m in ap (λ (s : State T). s.publisher) h.3)
      | inr some ↦ (let h = rw some at m in ap (λ (s : State T). s.publisher) h.1)
    ]

look_came : {T : Type 0} (old new : State T) (owner : ℕ) (event : WordEvent) → Makes {T = T} old (Look owner) event new → new.publisher ≡ old.publisher
look_came {T} old new owner event (number, place, there, own, found, m) =
    elim (cases_Bool (nat_lt there.shares dead_word)) [
      | inl little ↦ (let h = rw little at m in ap (λ (s : State T). s.publisher) h.1)
      | inr great ↦ (let h = rw great at m in ap (λ (s : State T). s.publisher) h.1)
    ]

raise_came : {T : Type 0} (old new : State T) (owner : ℕ) (event : WordEvent) → Makes {T = T} old (Raise owner) event new → new.publisher ≡ old.publisher
raise_came {T} old new owner event (number, place, there, own, found, room, m) =
    elim (cases_Bool (nat_lt there.shares dead_word)) [
      | inl little ↦ (let h = rw little at m in ap (λ (s : State T). s.publisher) h.1)
      | inr great ↦ (let h = rw great at m in ap (λ (s : State T). s.publisher) h.1)
    ]

fade_came : {T : Type 0} (old new : State T) (owner : ℕ) (event : WordEvent) → Makes {T = T} old (Fade owner) event new → new.publisher ≡ old.publisher
fade_came {T} old new owner event (place, there, fades, found, m) =
    elim (cases_Bool (fetch_sub there.weak 1 == 0)) [
      | inl none ↦ (let h = rw none at m in ap (λ (s : State T). s.publisher) h.1)
      | inr some ↦ (let h = rw some at m in ap (λ (s : State T). s.publisher) h.1)
    ]

came : {T : Type 0} (old new : State T) (step : WordStep T) (event : WordEvent) (slot : ℕ) → Makes old step event new → new.publisher ≡ Probing (suc slot) → Came old step slot
came {T} old new Load event slot (given, found, few, reported, is) due = inl (refl, sym (ap (λ (s : State T). s.publisher) is) ∙ due)
came old new Probe event slot m due = probe_came old new event slot m due
came {T} old new (Prepare value) event slot (place, there, last, at, found, latest, fits, reported, is) due = absurd (no_swapping place (suc slot) (sym (ap (λ (s : State T). s.publisher) is) ∙ due))
came {T} old new Swap event slot (place, last, at, within, latest, reported, is) due = absurd (no_settling last _ _ (suc slot) (sym (ap (λ (s : State T). s.publisher) is) ∙ due))
came {T} old new Settle event slot (number, place, given, there, at, found, reported, is) due = absurd (no_first slot (sym (ap (λ (s : State T). s.publisher) is) ∙ due))
came old new (Release owner) event slot m due = inl (refl, sym (release_came old new owner event m) ∙ due)
came old new (Bury owner) event slot m due = inl (refl, sym (bury_came old new owner event m) ∙ due)
came {T} old new (Free owner) event slot (place, there, seat, found, reported, is) due = inl (refl, sym (ap (λ (s : State T). s.publisher) is) ∙ due)
came old new (Look owner) event slot m due = inl (refl, sym (look_came old new owner event m) ∙ due)
came old new (Raise owner) event slot m due = inl (refl, sym (raise_came old new owner event m) ∙ due)
came {T} old new (Note owner) event slot (number, place, there, seat, found, room, reported, is) due = inl (refl, sym (ap (λ (s : State T). s.publisher) is) ∙ due)
came old new (Fade owner) event slot m due = inl (refl, sym (fade_came old new owner event m) ∙ due)
came {T} old new (Reset owner) event slot (place, there, seat, found, reported, is) due = inl (refl, sym (ap (λ (s : State T). s.publisher) is) ∙ due)

-- no publication makes a step in a run, or behind a place of it
abbrev pub AllQuiet : {T : Type 0} → List (WordStep T × WordEvent) → Type 0
AllQuiet {T} run = (place : ℕ) (step : WordStep T) (event : WordEvent) → slice_get run place ≡ Some (step, event) → is_publishing step ≡ false

abbrev pub QuietBehind : {T : Type 0} → List (WordStep T × WordEvent) → ℕ → Type 0
QuietBehind {T} run low = (place : ℕ) (step : WordStep T) (event : WordEvent) → low < place → slice_get run place ≡ Some (step, event) → is_publishing step ≡ false

pub record PassedAt {T : Type 0} (before : State T) (run : List (WordStep T × WordEvent)) (slot : ℕ) : Type 0 where
  pub place : ℕ
  pub sees : SeesTaken before run place slot
  pub quiet : QuietBehind run place

all_quiet : {T : Type 0} (step : WordStep T) (event : WordEvent) (run : List (WordStep T × WordEvent)) → is_publishing step ≡ false → AllQuiet run → AllQuiet ((step, event) ∷ run)
all_quiet {T} step event run is rest =
    λ place s e h. elim (cases_zero place) [
      | inl first ↦ (
          let same : Some (step, event) ≡ Some (s, e) = ap (slice_get ((step, event) ∷ run)) (sym first) ∙ h in
          ap is_publishing (sym (ap (λ (p : WordStep T × WordEvent). p.0) (some_is same))) ∙ is
          )
      | inr later ↦ rest later.0 s e (ap (slice_get ((step, event) ∷ run)) (sym later.1) ∙ h)
    ]

shifted : {T : Type 0} (before between : State T) (step : WordStep T) (event : WordEvent) (run : List (WordStep T × WordEvent)) (place slot : ℕ) → Makes before step event between → SeesTaken between run place slot → SeesTaken before ((step, event) ∷ run) (suc place) slot
shifted before between step event run place slot m s =
    record { event = s.event; probe = s.probe; between = s.between; made = (between, m, s.made); due = s.due; there = s.there; found = s.found; taken = s.taken }

behind_shifted : {T : Type 0} (step : WordStep T) (event : WordEvent) (run : List (WordStep T × WordEvent)) (low : ℕ) → QuietBehind run low → QuietBehind ((step, event) ∷ run) (suc low)
behind_shifted step event run low rest =
    λ place s e l h. elim (cases_zero place) [
      | inl first ↦ absurd (omega (arith, first, l))
      | inr later ↦ rest later.0 s e (omega (arith, later.1, l)) (ap (slice_get ((step, event) ∷ run)) (sym later.1) ∙ h)
    ]

behind_first : {T : Type 0} (step : WordStep T) (event : WordEvent) (run : List (WordStep T × WordEvent)) → AllQuiet run → QuietBehind ((step, event) ∷ run) 0
behind_first step event run rest =
    λ place s e l h. elim (cases_zero place) [
      | inl first ↦ absurd (omega (arith, first, l))
      | inr later ↦ rest later.0 s e (ap (slice_get ((step, event) ∷ run)) (sym later.1) ∙ h)
    ]

sees_first : {T : Type 0} (before : State T) (step : WordStep T) (event : WordEvent) (run : List (WordStep T × WordEvent)) (slot : ℕ) → step ≡ Probe → Passes before slot → SeesTaken before ((step, event) ∷ run) 0 slot
sees_first before step event run slot is p =
    record { event = event; probe = ap (λ s. Some (s, event)) is; between = before; made = refl; due = p.due; there = p.there; found = p.found; taken = p.taken }

-- a publication that is to probe a slot behind the first has done so all along, or has passed the slot before it
pub last_probe : {T : Type 0} (before after : State T) (run : List (WordStep T × WordEvent)) (slot : ℕ) → WordRuns before run after → after.publisher ≡ Probing (suc slot) → ((before.publisher ≡ Probing (suc slot)) × AllQuiet run) ⊎ PassedAt before run slot
last_probe {T} before after [] slot r due = inl (sym (ap (λ (s : State T). s.publisher) r) ∙ due, λ place step event h. absurd (let wrong = h in cc))
last_probe before after ((step, event) ∷ run) slot r due =
    elim (last_probe r.0 after run slot r.2 due) [
      | inl still ↦ elim (came before r.0 step event slot r.1 still.0) [
        | inl nothing ↦ inl (nothing.1, all_quiet step event run nothing.0 still.1)
        | inr passed ↦ inr (record { place = 0; sees = sees_first before step event run slot passed.0 passed.1; quiet = behind_first step event run still.1 })
      ]
      | inr found ↦ inr (record { place = suc found.place; sees = shifted before r.0 step event run found.place slot r.1 found.sees; quiet = behind_shifted step event run found.place found.quiet })
    ]

-- a place of the beginning of a run
get_take : {X : Type 0} (xs : List X) (n k : ℕ) → k < n → slice_get (take n xs) k ≡ slice_get xs k
get_take [] zero k l = refl
get_take [] (suc n) k l = refl
get_take (x ∷ xs) zero k l = absurd (omega arith)
get_take (x ∷ xs) (suc n) zero l = refl
get_take (x ∷ xs) (suc n) (suc k) l = get_take xs n k (omega arith)

get_past : {X : Type 0} (xs : List X) (n k : ℕ) (x : X) → slice_get (take n xs) k ≡ Some x → k < n
get_past [] zero k x h = absurd (let wrong = h in cc)
get_past [] (suc n) k x h = absurd (let wrong = h in cc)
get_past (y ∷ xs) zero k x h = absurd (let wrong = h in cc)
get_past (y ∷ xs) (suc n) zero x h = omega arith
get_past (y ∷ xs) (suc n) (suc k) x h = let l = get_past xs n k x h in omega arith

take_take : {X : Type 0} (xs : List X) (n k : ℕ) → k < n → take k (take n xs) ≡ take k xs
take_take [] zero zero l = refl
take_take [] zero (suc k) l = refl
take_take [] (suc n) zero l = refl
take_take [] (suc n) (suc k) l = refl
take_take (x ∷ xs) zero k l = absurd (omega arith)
take_take (x ∷ xs) (suc n) zero l = refl
take_take (x ∷ xs) (suc n) (suc k) l = ap (λ ys. x ∷ ys) (take_take xs n k (omega arith))

-- a probe of the beginning of a run is one of the run
in_run : {T : Type 0} (before : State T) (run : List (WordStep T × WordEvent)) (n place slot : ℕ) → place < n → SeesTaken before (take n run) place slot → SeesTaken before run place slot
in_run {T} before run n place slot l s =
    record {
      event = s.event;
      probe = sym (get_take run n place l) ∙ s.probe;
      between = s.between;
      made = subst (λ (xs : List (WordStep T × WordEvent)). WordRuns before xs s.between) (take_take run n place l) s.made;
      due = s.due;
      there = s.there;
      found = s.found;
      taken = s.taken;
    }

-- the probes before one
pub all_seen : {T : Type 0} (before : State T) (run : List (WordStep T × WordEvent)) (place slot : ℕ) → before.publisher ≡ Probing 0 → SeesTaken before run place slot → SeesAllTaken before run place slot
all_seen before run place zero start s = s
all_seen {T} before run place (suc slot) start s =
    elim (last_probe before s.between (take place run) slot s.made s.due) [
      | inl still ↦ absurd (no_first slot (sym start ∙ still.0))
      | inr passed ↦ (
          let earlier = get_past run place passed.place (Probe, passed.sees.event) passed.sees.probe in (
            s,
            passed.place,
            earlier,
            λ p step event low high h. passed.quiet p step event low (get_take run place p high ∙ h),
            all_seen before run passed.place slot start (in_run before run place passed.place slot earlier passed.sees),
          )
          )
    ]

-- a probe that finds no slot looks at the last one
finds_none : {T : Type 0} (old new : State T) → Makes {T = T} old Probe NoSlot new → Passes old 63
finds_none {T} old new (place, there, at, found, m) =
    elim (eqb_tells there.shares free_word) [
      | inl free ↦ (let h = rw free.0 at m in absurd (let wrong = h.0 in cc))
      | inr isnt ↦ (
          let rest = rw isnt.0 at m in
          elim (eqb_tells (place + 1) slots) [
            | inl all ↦ (
                let same : place ≡ 63 = omega (arith, all.1) in
                record { due = at ∙ ap Probing same; there = there; found = ap (slice_get old.table) (sym same) ∙ found; taken = isnt.1 }
                )
            | inr more ↦ (let h = rw more.0 at rest in absurd (let wrong = h.0 in cc))
          ]
          )
    ]

pub no_slot_seen : {T : Type 0} (before after : State T) (run : List (WordStep T × WordEvent)) (place : ℕ) → before.publisher ≡ Probing 0 → WordRuns before run after → slice_get run place ≡ Some (Probe, NoSlot) → SeesAllTaken before run place 63
no_slot_seen before after run place start r h =
    let at = step_at before after run place Probe NoSlot r h in
    let none = finds_none at.between at.next at.makes in
    all_seen before run place 63 start (record { event = NoSlot; probe = h; between = at.between; made = at.made; due = none.due; there = none.there; found = none.found; taken = none.taken })
