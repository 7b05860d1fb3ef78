-- What a run publishes and buries is what its words show behind it.
use Rattle.std.proofs.Common.{◌≡◌, refl, sym, ap, ◌∙◌, subst, ℕ, zero, suc, ◌+◌, ◌<◌, true, ◌⊎◌, inl, inr, List, [], ◌∷◌, ◌++◌, length, append_assoc}
use Rattle.std.specs.Prelude.{Option, None, Some, ◌==◌, nat_lt}
use Rattle.std.specs.List.{slice_get, slice_set}
use Rattle.std.specs.Option.{option_to_list, option_and_then, option_map}
use Rattle.std.proofs.lemmas.List.{append-nil}
use Rattle.std.proofs.lemmas.Bool.{cases_Bool}
use Rattle.std.proofs.lemmas.Bool.Decides.{eqb_tells}
use Rattle.std.proofs.lemmas.Option.{slice_get_within}
use Rattle.cell_core.proofs.SeatLemmas.{get_set_same, get_set_other}
use Rattle.cell_core.proofs.LawLemmas.{run_grows}
use Rattle.cell_core.proofs.StepShows.{step_shows}
use Rattle.cell_core.proofs.RunShows.{step_runs}
use Rattle.cell_core.specs.Cell.{Cell, CellStep, Steps, with_buried}
use Rattle.cell_core.specs.Words.{State, slots, free_word, dead_word, bulk, fetch_add, fetch_sub, version_in}
use Rattle.cell_core.specs.WordSteps.{Makes, with_shares, with_weak_word, with_version}
use Rattle.cell_core.specs.Shows.{Shows, ShowsRaise, ShowsFade, ShowsStep, WordRuns}
use Rattle.cell_core.specs.Published.{swapped, IsBuriedBy}
use Rattle.cell_core.specs.declared.words.Slot.{Slot}
use Rattle.cell_core.specs.declared.words.Version.{Version}
use Rattle.cell_core.specs.declared.words.Publisher.{Publisher}
use Rattle.cell_core.specs.declared.words.Publisher.TheVariants.{Probing, Preparing, Swapping, Settling}
use Rattle.cell_core.specs.declared.words.WordStep.{WordStep}
use Rattle.cell_core.specs.declared.words.WordStep.TheVariants.{Load, Probe, Prepare, Swap, Settle, Release, Bury, Free, Look, Raise, Note, Fade, Reset}
use Rattle.cell_core.specs.declared.words.WordEvent.{WordEvent}
use Rattle.cell_core.specs.declared.words.WordEvent.TheVariants.{Loaded, Swapped, Buried, Dead, Raised, Noted}

-- the value that waits is the one in the slot that is to be swapped in
abbrev pub Waits : {T : Type 0} → State T → Option T → Type 0
Waits {T} state waiting =
    (place number : ℕ) (value : T) → state.publisher ≡ Swapping place → version_in state place ≡ Some (record { number = number; value = value }) → waiting ≡ Some value

-- where nothing is to be swapped in, anything may be said to wait
pub waits_not : {T : Type 0} (new : State T) (waiting : Option T) (is : Publisher) → new.publisher ≡ is → ((place : ℕ) → is ≡ Swapping place → ⊥) → Waits new waiting
waits_not new waiting is at apart = λ place number value e v. absurd (apart place (sym at ∙ e))

-- a version that lies in a slot of a table that is set at a place lay there before
version_was : {T : Type 0} (state new : State T) (at : ℕ) (there after : Slot T) → slice_get state.table at ≡ Some there → new.table ≡ slice_set state.table at after → ((v : Version T) → after.version ≡ Some v → there.version ≡ Some v) → (place : ℕ) (v : Version T) → version_in new place ≡ Some v → version_in state place ≡ Some v
version_was {T} state new at there after found is had place v h =
    let within = slice_get_within state.table at there found in
    elim (eqb_tells place at) [
      | inl same ↦ (
          let here : slice_get new.table place ≡ Some after = ap (λ t. slice_get t place) is ∙ ap (slice_get (slice_set state.table at after)) same.1 ∙ get_set_same state.table at after within in
          let lies : after.version ≡ Some v = sym (ap (option_and_then (λ (s : Slot T). s.version)) here) ∙ h in
          ap (option_and_then (λ (s : Slot T). s.version)) (ap (slice_get state.table) same.1 ∙ found) ∙ had v lies
          )
      | inr other ↦ (
          let still = get_set_other state.table at place after other.1 in
          ap (option_and_then (λ (s : Slot T). s.version)) (sym still ∙ ap (λ t. slice_get t place) (sym is)) ∙ h
          )
    ]

-- it still waits while the publisher is as far, and versions are only taken out
waits_still : {T : Type 0} (state new : State T) (waiting : Option T) → new.publisher ≡ state.publisher → ((place : ℕ) (v : Version T) → version_in new place ≡ Some v → version_in state place ≡ Some v) → Waits state waiting → Waits new waiting
waits_still state new waiting same had w = λ place number value e v. w place number value (sym same ∙ e) (had place (record { number = number; value = value }) v)

same_table : {T : Type 0} (state new : State T) → new.table ≡ state.table → (place : ℕ) (v : Version T) → version_in new place ≡ Some v → version_in state place ≡ Some v
same_table {T} state new is place v h = ap (λ (t : List (Slot T)). option_and_then (λ (s : Slot T). s.version) (slice_get t place)) (sym is) ∙ h

pub no_probing : (at place : ℕ) → Probing at ≡ Swapping place → ⊥
no_probing at place e = let wrong = e in absurd (cc)

no_preparing : (at place : ℕ) → Preparing at ≡ Swapping place → ⊥
no_preparing at place e = let wrong = e in absurd (cc)

no_settling : (number at given place : ℕ) → Settling number at given ≡ Swapping place → ⊥
no_settling number at given place e = let wrong = e in absurd (cc)

-- what a step publishes, and what it buries
pub record Tells {T : Type 0} (new : State T) (step : WordStep T) (event : WordEvent) (waiting : Option T) (cell next : Cell T) : Type 0 where
  pub later : Option T
  pub values : List T
  pub published : next.published ≡ cell.published ++ values
  pub rest : (more : List (WordStep T × WordEvent)) → swapped waiting ((step, event) ∷ more) ≡ values ++ swapped later more
  pub waits : Waits new later
  pub reported : (j : ℕ) → next.buried j ≡ true → (cell.buried j ≡ true) ⊎ ((owner : ℕ) × (step ≡ Bury owner) × (event ≡ Buried j))

-- a step that publishes and buries nothing
quiet : {T : Type 0} (new : State T) (step : WordStep T) (event : WordEvent) (waiting later : Option T) (cell next : Cell T) → next.published ≡ cell.published → ((j : ℕ) → next.buried j ≡ cell.buried j) → ((more : List (WordStep T × WordEvent)) → swapped waiting ((step, event) ∷ more) ≡ swapped later more) → Waits new later → Tells new step event waiting cell next
quiet new step event waiting later cell next published buried rest waits =
    record {
      later = later;
      values = [];
      published = published ∙ sym (append-nil cell.published);
      rest = rest;
      waits = waits;
      reported = λ j h. inl (sym (buried j) ∙ h);
    }

-- one that shows the same cell
same_cell : {T : Type 0} (new : State T) (step : WordStep T) (event : WordEvent) (waiting later : Option T) (cell next : Cell T) → next ≡ cell → ((more : List (WordStep T × WordEvent)) → swapped waiting ((step, event) ∷ more) ≡ swapped later more) → Waits new later → Tells new step event waiting cell next
same_cell {T} new step event waiting later cell next is rest waits =
    quiet new step event waiting later cell next (ap (λ (c : Cell T). c.published) is) (λ j. ap (λ (c : Cell T). c.buried j) is) rest waits

load_waits : {T : Type 0} (old new : State T) (event : WordEvent) (waiting : Option T) → Makes {T = T} old Load event new → Waits old waiting → Waits new waiting
load_waits {T} old new event waiting (given, found, few, reported, is) w =
    waits_still old new waiting (ap (λ (s : State T). s.publisher) is) (same_table old new (ap (λ (s : State T). s.table) is)) w

probe_waits : {T : Type 0} (old new : State T) (event : WordEvent) (waiting : Option T) → Makes {T = T} old Probe event new → Waits new waiting
probe_waits {T} old new event waiting (place, there, at, found, m) =
    elim (cases_Bool (there.shares == free_word)) [
      | inl free ↦ (let h = rw free at m in waits_not new waiting (Preparing place) (ap (λ (s : State T). s.publisher) h.1) (no_preparing place))
      | inr isnt ↦ elim (cases_Bool (place + 1 == slots)) [
        | inl all ↦ (let h = rw (isnt, all) at m in waits_not new waiting (Probing 0) (ap (λ (s : State T). s.publisher) h.1) (no_probing 0))
        | inr more ↦ (let h = rw (isnt, more) at m in waits_not new waiting (Probing (place + 1)) (ap (λ (s : State T). s.publisher) h.1) (no_probing (place + 1)))
      ]
    ]

-- a value that is put into a slot waits
waits_there : {T : Type 0} (new : State T) (table : List (Slot T)) (place number : ℕ) (value : T) (after : Slot T) → new.publisher ≡ Swapping place → new.table ≡ slice_set table place after → place < length table → after.version ≡ Some (record { number = number; value = value }) → Waits new (Some value)
waits_there {T} new table place number value after at is within version =
    λ p n v e h.
    let here : Swapping place ≡ Swapping p = sym at ∙ e in
    let same : place ≡ p = cc in
    let set : slice_get new.table p ≡ Some after = ap (λ t. slice_get t p) is ∙ ap (slice_get (slice_set table place after)) (sym same) ∙ get_set_same table place after within in
    let lies : version_in new p ≡ Some (record { number = number; value = value }) = ap (option_and_then (λ (s : Slot T). s.version)) set ∙ version in
    ap (option_map (λ (x : Version T). x.value)) (sym lies ∙ h)

prepare_waits : {T : Type 0} (old new : State T) (value : T) (event : WordEvent) → Makes old (Prepare value) event new → Waits new (Some value)
prepare_waits {T} old new value event (place, there, last, at, found, latest, fits, reported, is) =
    waits_there new old.table place (last + 1) value (with_shares bulk (with_version (Some (record { number = last + 1; value = value })) there)) (ap (λ (s : State T). s.publisher) is) (ap (λ (s : State T). s.table) is) (slice_get_within old.table place there found) refl

swap_waits : {T : Type 0} (old new : State T) (event : WordEvent) (waiting : Option T) → Makes {T = T} old Swap event new → Waits new waiting
swap_waits {T} old new event waiting (place, last, at, within, latest, reported, is) =
    waits_not new waiting (Settling last _ _) (ap (λ (s : State T). s.publisher) is) (no_settling last _ _)

settle_waits : {T : Type 0} (old new : State T) (event : WordEvent) (waiting : Option T) → Makes {T = T} old Settle event new → Waits new waiting
settle_waits {T} old new event waiting (number, place, given, there, at, found, reported, is) =
    waits_not new waiting (Probing 0) (ap (λ (s : State T). s.publisher) is) (no_probing 0)

release_waits : {T : Type 0} (old new : State T) (owner : ℕ) (event : WordEvent) (waiting : Option T) → Makes {T = T} old (Release owner) event new → Waits old waiting → Waits new waiting
release_waits {T} old new owner event waiting (number, place, there, seat, found, m) w =
    elim (cases_Bool (fetch_sub there.shares 1 == 0)) [
      | inl none ↦ (let h = rw none at m in waits_still old new waiting (ap (λ (s : State T). s.publisher) h.1) (version_was old new place there (with_shares 0 there) found (ap (λ (s : State T). s.table) h.1) (λ v e. e)) w)
      | inr some ↦ (let h = rw some at m in waits_still old new waiting (ap (λ (s : State T). s.publisher) h.1) (version_was old new place there (with_shares (fetch_sub there.shares 1) there) found (ap (λ (s : State T). s.table) h.1) (λ v e. e)) w)
    ]

bury_waits : {T : Type 0} (old new : State T) (owner : ℕ) (event : WordEvent) (waiting : Option T) → Makes {T = T} old (Bury owner) event new → Waits old waiting → Waits new waiting
bury_waits {T} old new owner event waiting (place, there, seat, found, m) w =
    elim (cases_Bool (there.shares == 0)) [
      | inl none ↦ (let h = rw none at m in waits_still old new waiting (ap (λ (s : State T). s.publisher) h.3) (version_was old new place there (with_shares dead_word (with_version None there)) found (ap (λ (s : State T). s.table) h.3) (λ v e. absurd (let wrong = e in cc))) w)
      | inr some ↦ (let h = rw some at m in waits_still old new waiting (ap (λ (s : State T). s.publisher) h.1) (same_table old new (ap (λ (s : State T). s.table) h.1)) w)
    ]

free_waits : {T : Type 0} (old new : State T) (owner : ℕ) (event : WordEvent) (waiting : Option T) → Makes {T = T} old (Free owner) event new → Waits old waiting → Waits new waiting
free_waits {T} old new owner event waiting (place, there, seat, found, reported, is) w =
    waits_still old new waiting (ap (λ (s : State T). s.publisher) is) (version_was old new place there (with_shares free_word there) found (ap (λ (s : State T). s.table) is) (λ v e. e)) w

look_waits : {T : Type 0} (old new : State T) (owner : ℕ) (event : WordEvent) (waiting : Option T) → Makes {T = T} old (Look owner) event new → Waits old waiting → Waits new waiting
look_waits {T} old new owner event waiting (number, place, there, own, found, m) w =
    elim (cases_Bool (nat_lt there.shares dead_word)) [
      | inl little ↦ (let h = rw little at m in waits_still old new waiting (ap (λ (s : State T). s.publisher) h.1) (same_table old new (ap (λ (s : State T). s.table) h.1)) w)
      | inr great ↦ (let h = rw great at m in waits_still old new waiting (ap (λ (s : State T). s.publisher) h.1) (same_table old new (ap (λ (s : State T). s.table) h.1)) w)
    ]

raise_waits : {T : Type 0} (old new : State T) (owner : ℕ) (event : WordEvent) (waiting : Option T) → Makes {T = T} old (Raise owner) event new → Waits old waiting → Waits new waiting
raise_waits {T} old new owner event waiting (number, place, there, own, found, room, m) w =
    elim (cases_Bool (nat_lt there.shares dead_word)) [
      | inl little ↦ (let h = rw little at m in waits_still old new waiting (ap (λ (s : State T). s.publisher) h.1) (version_was old new place there (with_shares (fetch_add there.shares 1) there) found (ap (λ (s : State T). s.table) h.1) (λ v e. e)) w)
      | inr great ↦ (let h = rw great at m in waits_still old new waiting (ap (λ (s : State T). s.publisher) h.1) (version_was old new place there (with_shares (fetch_add there.shares 1) there) found (ap (λ (s : State T). s.table) h.1) (λ v e. e)) w)
    ]

note_waits : {T : Type 0} (old new : State T) (owner : ℕ) (event : WordEvent) (waiting : Option T) → Makes {T = T} old (Note owner) event new → Waits old waiting → Waits new waiting
note_waits {T} old new owner event waiting (number, place, there, seat, found, room, reported, is) w =
    waits_still old new waiting (ap (λ (s : State T). s.publisher) is) (version_was old new place there (with_weak_word (fetch_add there.weak 1) there) found (ap (λ (s : State T). s.table) is) (λ v e. e)) w

fade_waits : {T : Type 0} (old new : State T) (owner : ℕ) (event : WordEvent) (waiting : Option T) → Makes {T = T} old (Fade owner) event new → Waits old waiting → Waits new waiting
fade_waits {T} old new owner event waiting (place, there, fades, found, m) w =
    elim (cases_Bool (fetch_sub there.weak 1 == 0)) [
      | inl none ↦ (let h = rw none at m in waits_still old new waiting (ap (λ (s : State T). s.publisher) h.1) (version_was old new place there (with_weak_word 0 there) found (ap (λ (s : State T). s.table) h.1) (λ v e. e)) w)
      | inr some ↦ (let h = rw some at m in waits_still old new waiting (ap (λ (s : State T). s.publisher) h.1) (version_was old new place there (with_weak_word (fetch_sub there.weak 1) there) found (ap (λ (s : State T). s.table) h.1) (λ v e. e)) w)
    ]

reset_waits : {T : Type 0} (old new : State T) (owner : ℕ) (event : WordEvent) (waiting : Option T) → Makes {T = T} old (Reset owner) event new → Waits old waiting → Waits new waiting
reset_waits {T} old new owner event waiting (place, there, seat, found, reported, is) w =
    waits_still old new waiting (ap (λ (s : State T). s.publisher) is) (version_was old new place there (with_weak_word 1 there) found (ap (λ (s : State T). s.table) is) (λ v e. e)) w

-- a weak owner's step up publishes and buries nothing
up_quiet : {T : Type 0} (before after : Cell T) (k : ℕ) (given : Option ℕ) → Steps before (CellStep.Up k) given after → (after.published ≡ before.published) × ((j : ℕ) → after.buried j ≡ before.buried j)
up_quiet {T} before after k given s =
    elim (cases_Bool (before.buried k)) [
      | inl gone ↦ (let up = rw gone at s.1 in (ap (λ (c : Cell T). c.published) up.1, λ j. ap (λ (c : Cell T). c.buried j) up.1))
      | inr there ↦ (let up = rw there at s.1 in (ap (λ (c : Cell T). c.published) up.1, λ j. ap (λ (c : Cell T). c.buried j) up.1))
    ]

raise_quiet : {T : Type 0} (state : State T) (owner number : ℕ) (before after : Cell T) → ShowsRaise state owner number before after → (after.published ≡ before.published) × ((j : ℕ) → after.buried j ≡ before.buried j)
raise_quiet {T} state owner number before after s =
    elim s.1 [
      | inl strong ↦ (ap (λ (c : Cell T). c.published) strong.1.2, λ j. ap (λ (c : Cell T). c.buried j) strong.1.2)
      | inr weak ↦ up_quiet before after number (Some number) weak.1
    ]

fade_quiet : {T : Type 0} (state : State T) (owner : ℕ) (before after : Cell T) → ShowsFade state owner before after → (after.published ≡ before.published) × ((j : ℕ) → after.buried j ≡ before.buried j)
fade_quiet {T} state owner before after s =
    elim s [
      | inl weak ↦ (ap (λ (c : Cell T). c.published) weak.3.2, λ j. ap (λ (c : Cell T). c.buried j) weak.3.2)
      | inr burier ↦ (ap (λ (c : Cell T). c.published) burier.2, λ j. ap (λ (c : Cell T). c.buried j) burier.2)
    ]

-- a step of weak owners, or by which an owner is given another
abbrev pub OfWeak : {T : Type 0} → WordStep T → Type 0
OfWeak (Look owner) = Unit {0}
OfWeak (Raise owner) = Unit {0}
OfWeak (Note owner) = Unit {0}
OfWeak (Fade owner) = Unit {0}
OfWeak (Reset owner) = Unit {0}
OfWeak Load = ⊥
OfWeak Probe = ⊥
OfWeak (Prepare value) = ⊥
OfWeak Swap = ⊥
OfWeak Settle = ⊥
OfWeak (Release owner) = ⊥
OfWeak (Bury owner) = ⊥
OfWeak (Free owner) = ⊥

-- it publishes and buries nothing
same_quiet : {T : Type 0} (before after : Cell T) → after ≡ before → (after.published ≡ before.published) × ((j : ℕ) → after.buried j ≡ before.buried j)
same_quiet {T} before after e = (ap (λ (c : Cell T). c.published) e, λ j. ap (λ (c : Cell T). c.buried j) e)

pub weak_quiet : {T : Type 0} (state : State T) (step : WordStep T) (event : WordEvent) (before after : Cell T) → OfWeak step → ShowsStep state step event before after → (after.published ≡ before.published) × ((j : ℕ) → after.buried j ≡ before.buried j)
weak_quiet state (Look owner) Dead before after of s = up_quiet before after s.0 None s.3
weak_quiet state (Look owner) event before after of s = same_quiet before after s
weak_quiet state (Raise owner) Dead before after of s = up_quiet before after s.0 None s.3
weak_quiet state (Raise owner) (Raised given number) before after of s = raise_quiet state owner number before after s
weak_quiet state (Raise owner) event before after of s = same_quiet before after s
weak_quiet {T} state (Note owner) (Noted given number) before after of s = (ap (λ (c : Cell T). c.published) s.2, λ j. ap (λ (c : Cell T). c.buried j) s.2)
weak_quiet state (Note owner) event before after of s = same_quiet before after s
weak_quiet state (Fade owner) event before after of s = fade_quiet state owner before after s
weak_quiet state (Reset owner) event before after of s = same_quiet before after s
weak_quiet state Load event before after of s = absurd of
weak_quiet state Probe event before after of s = absurd of
weak_quiet state (Prepare value) event before after of s = absurd of
weak_quiet state Swap event before after of s = absurd of
weak_quiet state Settle event before after of s = absurd of
weak_quiet state (Release owner) event before after of s = absurd of
weak_quiet state (Bury owner) event before after of s = absurd of
weak_quiet state (Free owner) event before after of s = absurd of

-- a swap publishes the value that waits
swap_tells : {T : Type 0} (state new : State T) (number : ℕ) (waiting : Option T) (cell next : Cell T) → Waits state waiting → Makes {T = T} state Swap (Swapped number) new → ShowsStep {T = T} state Swap (Swapped number) cell next → Tells {T = T} new Swap (Swapped number) waiting cell next
swap_tells {T} state new number waiting cell next w m s =
    let is : waiting ≡ Some s.0 = w s.1.0 s.1.1 s.0 s.1.2 s.1.3 in
    record {
      later = None;
      values = s.0 ∷ [];
      published = ap (λ (c : Cell T). c.published) s.2.3;
      rest = λ more. ap (λ x. option_to_list x ++ swapped None more) is;
      waits = swap_waits state new (Swapped number) None m;
      reported = λ j h. inl (ap (λ (c : Cell T). c.buried j) (sym s.2.3) ∙ h);
    }

-- a bury that wins buries its number, and no other
bury_tells : {T : Type 0} (state new : State T) (owner number : ℕ) (waiting : Option T) (cell next : Cell T) → Waits state waiting → Makes {T = T} state (Bury owner) (Buried number) new → Steps cell (CellStep.Bury number) None next → Tells {T = T} new (Bury owner) (Buried number) waiting cell next
bury_tells {T} state new owner number waiting cell next w m s =
    record {
      later = waiting;
      values = [];
      published = ap (λ (c : Cell T). c.published) s.4 ∙ sym (append-nil cell.published);
      rest = λ more. refl;
      waits = bury_waits state new owner (Buried number) waiting m w;
      reported = λ j h.
          let gone : (with_buried number cell).buried j ≡ true = ap (λ (c : Cell T). c.buried j) (sym s.4) ∙ h in
          elim (eqb_tells j number) [
            | inl same ↦ inr (owner, refl, ap Buried (sym same.1))
            | inr other ↦ inl (rw other.0 at gone)
          ];
    }

step_tells : {T : Type 0} (state new : State T) (step : WordStep T) (event : WordEvent) (waiting : Option T) (cell next : Cell T) → Waits state waiting → Makes state step event new → ShowsStep state step event cell next → Tells new step event waiting cell next
step_tells {T} state new Load (Loaded owner number) waiting cell next w m s =
    quiet new Load (Loaded owner number) waiting waiting cell next (ap (λ (c : Cell T). c.published) s.3) (λ j. ap (λ (c : Cell T). c.buried j) s.3) (λ more. refl) (load_waits state new (Loaded owner number) waiting m w)
step_tells state new Load event waiting cell next w m s = same_cell new Load event waiting waiting cell next s (λ more. refl) (load_waits state new event waiting m w)
step_tells state new Probe event waiting cell next w m s = same_cell new Probe event waiting waiting cell next s (λ more. refl) (probe_waits state new event waiting m)
step_tells state new (Prepare value) event waiting cell next w m s = same_cell new (Prepare value) event waiting (Some value) cell next s (λ more. refl) (prepare_waits state new value event m)
step_tells state new Swap (Swapped number) waiting cell next w m s = swap_tells state new number waiting cell next w m s
step_tells state new Swap event waiting cell next w m s = same_cell new Swap event waiting waiting cell next s (λ more. refl) (swap_waits state new event waiting m)
step_tells state new Settle event waiting cell next w m s = same_cell new Settle event waiting waiting cell next s (λ more. refl) (settle_waits state new event waiting m)
step_tells {T} state new (Release owner) event waiting cell next w m s =
    quiet new (Release owner) event waiting waiting cell next (ap (λ (c : Cell T). c.published) s.3.2) (λ j. ap (λ (c : Cell T). c.buried j) s.3.2) (λ more. refl) (release_waits state new owner event waiting m w)
step_tells state new (Bury owner) (Buried number) waiting cell next w m s = bury_tells state new owner number waiting cell next w m s
step_tells state new (Bury owner) event waiting cell next w m s = same_cell new (Bury owner) event waiting waiting cell next s (λ more. refl) (bury_waits state new owner event waiting m w)
step_tells state new (Free owner) event waiting cell next w m s = same_cell new (Free owner) event waiting waiting cell next s (λ more. refl) (free_waits state new owner event waiting m w)
step_tells state new (Look owner) event waiting cell next w m s =
    let q = weak_quiet state (Look owner) event cell next tt s in
    quiet new (Look owner) event waiting waiting cell next q.0 q.1 (λ more. refl) (look_waits state new owner event waiting m w)
step_tells state new (Raise owner) event waiting cell next w m s =
    let q = weak_quiet state (Raise owner) event cell next tt s in
    quiet new (Raise owner) event waiting waiting cell next q.0 q.1 (λ more. refl) (raise_waits state new owner event waiting m w)
step_tells state new (Note owner) event waiting cell next w m s =
    let q = weak_quiet state (Note owner) event cell next tt s in
    quiet new (Note owner) event waiting waiting cell next q.0 q.1 (λ more. refl) (note_waits state new owner event waiting m w)
step_tells state new (Fade owner) event waiting cell next w m s =
    let q = weak_quiet state (Fade owner) event cell next tt s in
    quiet new (Fade owner) event waiting waiting cell next q.0 q.1 (λ more. refl) (fade_waits state new owner event waiting m w)
step_tells state new (Reset owner) event waiting cell next w m s =
    let q = weak_quiet state (Reset owner) event cell next tt s in
    quiet new (Reset owner) event waiting waiting cell next q.0 q.1 (λ more. refl) (reset_waits state new owner event waiting m w)

-- what a run publishes, and what it buries
pub record RunTells {T : Type 0} (after : State T) (run : List (WordStep T × WordEvent)) (waiting : Option T) (cell : Cell T) : Type 0 where
  pub next : Cell T
  pub shows : Shows after next
  pub published : next.published ≡ cell.published ++ swapped waiting run
  pub stays : (j : ℕ) → cell.buried j ≡ true → next.buried j ≡ true
  pub reported : (j : ℕ) → next.buried j ≡ true → (cell.buried j ≡ true) ⊎ IsBuriedBy run j
  pub buries : (j : ℕ) → IsBuriedBy run j → next.buried j ≡ true

-- a burial of a run with a step in front
buried_behind : {T : Type 0} (made : WordStep T × WordEvent) (run : List (WordStep T × WordEvent)) (j : ℕ) → IsBuriedBy run j → IsBuriedBy (made ∷ run) j
buried_behind made run j b = (suc b.0, b.1, b.2)

buried_here : {T : Type 0} (step : WordStep T) (event : WordEvent) (run : List (WordStep T × WordEvent)) (j owner : ℕ) → step ≡ Bury owner → event ≡ Buried j → IsBuriedBy ((step, event) ∷ run) j
buried_here step event run j owner is reported = (0, owner, ap (λ s. Some (s, event)) is ∙ ap (λ e. Some (Bury owner, e)) reported)

-- a burial is in front, or behind
buried_cases : {T : Type 0} (step : WordStep T) (event : WordEvent) (run : List (WordStep T × WordEvent)) (j place owner : ℕ) → slice_get ((step, event) ∷ run) place ≡ Some (Bury owner, Buried j) → ((step ≡ Bury owner) × (event ≡ Buried j)) ⊎ IsBuriedBy run j
buried_cases {T} step event run j zero owner h =
    let e : (step, event) ≡ (Bury owner, Buried j) = (let f = h in cc) in
    inl (ap (λ (p : WordStep T × WordEvent). p.0) e, ap (λ (p : WordStep T × WordEvent). p.1) e)
buried_cases step event run j (suc place) owner h = inr (place, owner, h)

-- a bury that tells a number has buried it
bury_is : {T : Type 0} (state : State T) (step : WordStep T) (event : WordEvent) (cell next : Cell T) (owner j : ℕ) → step ≡ Bury owner → event ≡ Buried j → ShowsStep state step event cell next → next.buried j ≡ true
bury_is {T} state step event cell next owner j is reported s =
    let buries : Steps cell (CellStep.Bury j) None next = subst (λ x. ShowsStep state (Bury owner) x cell next) reported (subst (λ x. ShowsStep state x event cell next) is s) in
    let gone : (with_buried j cell).buried j ≡ true = elim (eqb_tells j j) [ inl same ↦ rw same.0 refl | inr other ↦ absurd (other.1 refl) ] in
    ap (λ (c : Cell T). c.buried j) buries.4 ∙ gone

pub run_tells : {T : Type 0} (before after : State T) (run : List (WordStep T × WordEvent)) (waiting : Option T) (cell : Cell T) → Shows before cell → Waits before waiting → WordRuns before run after → RunTells after run waiting cell
run_tells before after [] waiting cell s w r =
    record {
      next = cell;
      shows = subst (λ x. Shows x cell) (sym r) s;
      published = sym (append-nil cell.published);
      stays = λ j h. h;
      reported = λ j h. inl h;
      buries = λ j b. absurd (let wrong = b.2 in cc);
    }
run_tells {T} before after ((step, event) ∷ run) waiting cell s w r =
    let made = step_shows before r.0 step event cell s r.1 in
    let first = step_tells before r.0 step event waiting cell made.0 w r.1 made.1 in
    let rest = run_tells r.0 after run first.later made.0 made.2 first.waits r.2 in
    let short = step_runs before step event cell made.0 made.1 in
    let grown = run_grows cell made.0 short.steps short.runs in
    record {
      next = rest.next;
      shows = rest.shows;
      published = rest.published ∙ ap (λ l. l ++ swapped first.later run) first.published ∙ append_assoc cell.published first.values (swapped first.later run) ∙ ap (λ l. cell.published ++ l) (sym (first.rest run));
      stays = λ j h. rest.stays j (grown.buried j h);
      reported = λ j h. elim (rest.reported j h) [
        | inl before_it ↦ elim (first.reported j before_it) [
          | inl had ↦ inl had
          | inr it ↦ inr (buried_here step event run j it.0 it.1 it.2)
        ]
        | inr behind ↦ inr (buried_behind (step, event) run j behind)
      ];
      buries = λ j b. elim (buried_cases step event run j b.0 b.1 b.2) [
        | inl here ↦ rest.stays j (bury_is before step event cell made.0 b.1 j here.0 here.1 made.1)
        | inr behind ↦ rest.buries j behind
      ];
    }
