-- What words that show a cell tell of weak owners.
use Rattle.std.proofs.Common.{◌≡◌, ◌≢◌, refl, sym, ap, ◌∙◌, subst, ℕ, ◌<◌, ◌≤◌, true, false, inl, inr, List, [], ◌∷◌, ◌++◌, length, arith, true≢false}
use Rattle.std.specs.Prelude.{None, Some}
use Rattle.std.specs.List.{slice_get}
use Rattle.std.specs.Option.{option_and_then}
use Rattle.std.proofs.lemmas.Bool.{cases_Bool, cases_lt, lt-ltb, le-ltb}
use Rattle.cell_core.proofs.SeatLemmas.{get_push_new, held_none}
use Rattle.cell_core.proofs.RaiseKeeps.{lives, buried_there}
use Rattle.cell_core.proofs.WeakShows.{weak_sees, holding_sees, look_shows, raise_shows}
use Rattle.cell_core.proofs.LittleLemmas.{live_little}
use Rattle.cell_core.proofs.RunLawLemmas.{from_first, shown_cell, holds_not}
use Rattle.cell_core.specs.Cell.{Cell, CellStep, Steps}
use Rattle.cell_core.specs.Words.{State, begun, free_word, dead_word, owned_of}
use Rattle.cell_core.specs.WordSteps.{Makes, owned_in}
use Rattle.cell_core.specs.Shows.{PublisherIs, number_of, Shows, WordRuns, held, weaks}
use Rattle.cell_core.specs.Shows.Rest.{closed}
use Rattle.cell_core.specs.Published.{IsBuriedBy}
use Rattle.cell_core.specs.declared.words.Slot.{Slot}
use Rattle.cell_core.specs.declared.words.Owner.{Owner}
use Rattle.cell_core.specs.declared.words.Owner.TheVariants.{Holding, Weakly, Freeing}
use Rattle.cell_core.specs.declared.words.Publisher.TheVariants.{Preparing, Swapping}
use Rattle.cell_core.specs.declared.words.WordStep.{WordStep}
use Rattle.cell_core.specs.declared.words.WordStep.TheVariants.{Free, Look, Raise}
use Rattle.cell_core.specs.declared.words.WordEvent.{WordEvent}
use Rattle.cell_core.specs.declared.words.WordEvent.TheVariants.{Freed, Dead, Raised}

-- what a weak owner sees below DEAD, and from it on
pub sees_alive : {T : Type 0} (state : State T) (cell : Cell T) (owner number place : ℕ) (there : Slot T) → Shows state cell → slice_get state.owners owner ≡ Some (Weakly number place) → slice_get state.table place ≡ Some there → there.shares < dead_word → (value : T) × (there.version ≡ Some (record { number = number; value = value })) × (slice_get cell.published number ≡ Some value) × (cell.buried number ≡ false)
sees_alive state cell owner number place there s seat at little =
    elim (weak_sees state cell s owner number place there seat at) [
      | inl open_still ↦ (
          let here = lives state cell s place number there at open_still.phase in
          (here.is.value, here.is.version, here.is.published, here.is.unburied)
          )
      | inr gone ↦ absurd (omega (arith, little, gone.great))
    ]

pub sees_dead : {T : Type 0} (state : State T) (cell : Cell T) (owner number place : ℕ) (there : Slot T) → Shows state cell → slice_get state.owners owner ≡ Some (Weakly number place) → slice_get state.table place ≡ Some there → dead_word ≤ there.shares → cell.buried number ≡ true
sees_dead state cell owner number place there s seat at great =
    elim (weak_sees state cell s owner number place there seat at) [
      | inl open_still ↦ absurd (omega (arith, great, open_still.little))
      | inr gone ↦ gone.buried
    ]

-- a weak owner's slot is neither free nor the publisher's
pub keeps_slot : {T : Type 0} (state : State T) (cell : Cell T) (owner number place : ℕ) (there : Slot T) → Shows state cell → slice_get state.owners owner ≡ Some (Weakly number place) → slice_get state.table place ≡ Some there → (there.shares ≢ free_word) × (state.publisher ≢ Preparing place) × (state.publisher ≢ Swapping place)
keeps_slot state cell owner number place there s seat at =
    let of = (s.owner_is owner (Weakly number place) seat).1 in (
      λ e. elim (weak_sees state cell s owner number place there seat at) [
        | inl open_still ↦ (
            let little = live_little state cell s place number there (lives state cell s place number there at open_still.phase).is in
            omega (arith, little, e)
            )
        | inr gone ↦ omega (arith, gone.great, e)
      ],
      λ e. (let mine = subst (λ p. PublisherIs cell s.plan state.granted p) e s.publisher_is in let apart : None ≡ Some number = sym (ap number_of mine.1) ∙ of in cc),
      λ e. (let mine = subst (λ p. PublisherIs cell s.plan state.granted p) e s.publisher_is in let apart : None ≡ Some number = sym (ap number_of mine.1) ∙ of in cc),
    )

-- a step up that gives none is of what is buried
up_gone : {T : Type 0} (before after : Cell T) (k : ℕ) → Steps before (CellStep.Up k) None after → before.buried k ≡ true
up_gone before after k s =
    elim (cases_Bool (before.buried k)) [
      | inl gone ↦ gone
      | inr there ↦ (let up = rw there at s.1 in absurd (let wrong : None ≡ Some k = up.0 in cc))
    ]

-- what is given free has no owner
pub frees_unowned : {T : Type 0} (state new : State T) (cell : Cell T) (owner place : ℕ) → Shows state cell → slice_get state.owners owner ≡ Some (Freeing place) → Makes state (Free owner) Freed new → (number : ℕ) × (there : Slot T) × (slice_get state.table place ≡ Some there) × (there.weak ≡ 1) × (cell.buried number ≡ true) × (held state.owners number ≡ 0) × (weaks state.owners number ≡ 0)
frees_unowned state new cell owner place s seat (where_at, there, seat_too, at, reported, is) =
    let same : where_at ≡ place = (let e : Some (Freeing where_at) ≡ Some (Freeing place) = sym seat_too ∙ seat in cc) in
    let here_at = ap (slice_get state.table) (sym same) ∙ at in
    let c = s.owner_is owner (Freeing place) seat in
    let here = buried_there state cell s place c.0 c.1 (closed owner) there here_at c.3 in
    let unheld = held_none state.owners c.0 (λ i how h. holds_not cell s.plan c.0 i how here.is.buried (s.owner_is i how h)) in
    (c.0, there, here_at, here.weak.0, here.is.buried, unheld, here.weak.1)

-- what an owner has is what its seat says
same_mark : {T : Type 0} (state : State T) (owner its place number slot : ℕ) (how : Owner) → slice_get state.owners owner ≡ Some how → owned_of how ≡ Some (its, place) → owned_in state owner ≡ Some (number, slot) → (number ≡ its) × (slot ≡ place)
same_mark state owner its place number slot how seat of own =
    let found : owned_in state owner ≡ Some (its, place) = ap (option_and_then owned_of) seat ∙ of in
    let e : Some (number, slot) ≡ Some (its, place) = sym own ∙ found in
    let pair : (number, slot) ≡ (its, place) = cc in
    (ap (λ (x : ℕ × ℕ). x.0) pair, ap (λ (x : ℕ × ℕ). x.1) pair)

-- a clone gives an owner of its owner's number
pub clone_gives : {T : Type 0} (first : T) (after new : State T) (run : List (WordStep T × WordEvent)) (event : WordEvent) (owner its place : ℕ) → WordRuns (begun first) run after → slice_get after.owners owner ≡ Some (Holding its place) → Makes {T = T} after (Raise owner) event new → (event ≡ Raised (length after.owners) its) × (slice_get new.owners (length after.owners) ≡ Some (Holding its place))
clone_gives {T} first after new run event owner its place r seat (number, slot, there, own, at, room, m) =
    let t = from_first first after run r in
    let same = same_mark after owner its place number slot (Holding its place) seat refl own in
    let seen = holding_sees after t.next t.shows owner its place there seat (ap (slice_get after.table) (sym same.1) ∙ at) in
    let made = rw (lt-ltb there.shares dead_word seen.little) at m in
    let owners : new.owners ≡ after.owners ++ Holding number slot ∷ [] = ap (λ (x : State T). x.owners) made.1 in
    let moved : Some (Holding number slot) ≡ Some (Holding its place) = ap (λ n. Some (Holding n slot)) same.0 ∙ ap (λ p. Some (Holding its p)) same.1 in (
      made.0 ∙ ap (Raised (length after.owners)) same.0,
      ap (λ (o : List Owner). slice_get o (length after.owners)) owners ∙ get_push_new after.owners (Holding number slot) (length after.owners) refl ∙ moved,
    )

-- and so does a weak owner's step up
pub up_gives : {T : Type 0} (first : T) (after new : State T) (run : List (WordStep T × WordEvent)) (owner next number its place : ℕ) → WordRuns (begun first) run after → slice_get after.owners owner ≡ Some (Weakly its place) → Makes {T = T} after (Raise owner) (Raised next number) new → (number ≡ its) × (slice_get new.owners next ≡ Some (Holding its place)) × (IsBuriedBy run its → ⊥)
up_gives {T} first after new run owner next number its place r seat (had, slot, there, own, at, room, m) =
    let t = from_first first after run r in
    let same = same_mark after owner its place had slot (Weakly its place) seat refl own in
    let moved : Some (Holding had slot) ≡ Some (Holding its place) = ap (λ n. Some (Holding n slot)) same.0 ∙ ap (λ p. Some (Holding its p)) same.1 in
    elim (cases_lt there.shares dead_word) [
      | inl little ↦ (
          let made = rw (lt-ltb there.shares dead_word little) at m in
          let reported : Raised next number ≡ Raised (length after.owners) had = made.0 in
          let who : next ≡ length after.owners = cc in
          let which : number ≡ had = cc in
          let owners : new.owners ≡ after.owners ++ Holding had slot ∷ [] = ap (λ (x : State T). x.owners) made.1 in
          elim (weak_sees after t.next t.shows owner its place there seat (ap (slice_get after.table) (sym same.1) ∙ at)) [
            | inl open_still ↦ (
              which ∙ same.0,
              ap (λ (o : List Owner). slice_get o next) owners ∙ get_push_new after.owners (Holding had slot) next who ∙ moved,
              λ b. true≢false (sym (t.buries its b) ∙ open_still.unburied),
            )
            | inr gone ↦ absurd (omega (arith, little, gone.great))
          ]
          )
      | inr great ↦ (let made = rw (le-ltb there.shares dead_word great) at m in absurd (let wrong : Raised next number ≡ Dead = made.0 in cc))
    ]

pub up_gives_none : {T : Type 0} (first : T) (after new : State T) (run : List (WordStep T × WordEvent)) (owner : ℕ) → WordRuns (begun first) run after → Makes {T = T} after (Raise owner) Dead new → (its : ℕ) × (place : ℕ) × (slice_get after.owners owner ≡ Some (Weakly its place)) × IsBuriedBy run its
up_gives_none {T} first after new run owner r m =
    let t = from_first first after run r in
    let shown_up = raise_shows after new owner Dead t.next t.shows m in
    let up = shown_up.1 in
    (up.0, up.1, up.2, shown_cell first after run r up.0 (up_gone t.next shown_up.0 up.0 up.3))

pub look_sees : {T : Type 0} (first : T) (after new : State T) (run : List (WordStep T × WordEvent)) (owner : ℕ) → WordRuns (begun first) run after → Makes {T = T} after (Look owner) Dead new → (its : ℕ) × (place : ℕ) × (slice_get after.owners owner ≡ Some (Weakly its place)) × IsBuriedBy run its
look_sees {T} first after new run owner r m =
    let t = from_first first after run r in
    let shown_up = look_shows after new owner Dead t.next t.shows m in
    let up = shown_up.1 in
    (up.0, up.1, up.2, shown_cell first after run r up.0 (up_gone t.next shown_up.0 up.0 up.3))
