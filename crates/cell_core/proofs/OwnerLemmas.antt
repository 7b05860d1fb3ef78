-- An owner that a load gave keeps its number.
use Rattle.std.proofs.Common.{◌≡◌, refl, sym, ap, ◌∙◌, ℕ, zero, suc, ◌+◌, ◌<◌, inl, inr, List, [], ◌∷◌, ◌++◌, length, length-append, take, arith}
use Rattle.std.specs.Prelude.{Option, None, Some, ◌==◌, nat_lt}
use Rattle.std.specs.Option.{option_and_then}
use Rattle.std.specs.List.{slice_get, slice_set}
use Rattle.std.proofs.lemmas.List.{length-set}
use Rattle.std.proofs.lemmas.Option.{slice_get_within}
use Rattle.std.proofs.lemmas.Bool.{cases_Bool}
use Rattle.std.proofs.lemmas.Bool.Decides.{eqb_tells}
use Rattle.cell_core.proofs.SeatLemmas.{get_set_same, get_set_other, get_push_old, get_push_new, get_within}
use Rattle.cell_core.specs.Words.{State, slots, free_word, dead_word, slot_of, fetch_sub, number_in, owned_of, fading_of}
use Rattle.cell_core.specs.WordSteps.{Makes}
use Rattle.cell_core.specs.Shows.{WordRuns}
use Rattle.cell_core.specs.declared.words.Owner.{Owner}
use Rattle.cell_core.specs.declared.words.Owner.TheVariants.{Holding, Weakly, Burying, Fading, Resetting, Freeing, Spent}
use Rattle.cell_core.specs.declared.words.WordStep.{WordStep}
use Rattle.cell_core.specs.declared.words.WordStep.TheVariants.{Load, Probe, Prepare, Swap, Settle, Release, Bury, Free, Look, Raise, Note, Fade, Reset}
use Rattle.cell_core.specs.declared.words.WordEvent.{WordEvent}
use Rattle.cell_core.specs.declared.words.WordEvent.TheVariants.{Loaded, Dead, Raised, Noted}

-- an owner is there, and has no other number, weakly or not
pub record Keeps (owners : List Owner) (owner number : ℕ) : Type 0 where
  pub there : owner < length owners
  pub same : (other place : ℕ) → option_and_then owned_of (slice_get owners owner) ≡ Some (other, place) → other ≡ number

keeps_as : (before after : List Owner) (owner number : ℕ) → after ≡ before → Keeps before owner number → Keeps after owner number
keeps_as before after owner number is k = rw is k

keeps_push : (before after : List Owner) (more : Owner) (owner number : ℕ) → after ≡ before ++ more ∷ [] → Keeps before owner number → Keeps after owner number
keeps_push before after more owner number is k =
    let old = get_within before owner k.there in
    let still : slice_get after owner ≡ Some old.0 = ap (λ (o : List Owner). slice_get o owner) is ∙ get_push_old before more old.0 owner old.1 in
    record {
      there = omega (arith, ap length is, length-append before (more ∷ []), k.there);
      same = λ other place e. k.same other place (ap (option_and_then owned_of) (old.1 ∙ sym still) ∙ e);
    }

keeps_set : (before after : List Owner) (at : ℕ) (how next : Owner) (owner number : ℕ) → slice_get before at ≡ Some how → owned_of next ≡ None → after ≡ slice_set before at next → Keeps before owner number → Keeps after owner number
keeps_set before after at how next owner number seat spent is k =
    record {
      there = omega (arith, ap length is, length-set before at next, k.there);
      same = λ other place e.
          elim (eqb_tells owner at) [
            | inl here ↦ (
                let put : slice_get after owner ≡ Some next = ap (λ (o : List Owner). slice_get o owner) is ∙ ap (slice_get (slice_set before at next)) here.1 ∙ get_set_same before at next (slice_get_within before at how seat) in
                let wrong : None ≡ Some (other, place) = sym (ap (option_and_then owned_of) put ∙ spent) ∙ e in
                absurd (cc)
                )
            | inr elsewhere ↦ (
                let still : slice_get after owner ≡ slice_get before owner = ap (λ (o : List Owner). slice_get o owner) is ∙ get_set_other before at owner next elsewhere.1 in
                k.same other place (ap (option_and_then owned_of) (sym still) ∙ e)
                )
          ];
    }

keeps_probe : {T : Type 0} (old new : State T) (event : WordEvent) (owner number : ℕ) → Makes {T = T} old Probe event new → Keeps old.owners owner number → Keeps new.owners owner number
keeps_probe {T} old new event owner number (place, there, is, found, m) k =
    elim (cases_Bool (there.shares == free_word)) [
      | inl free ↦ (let h = rw free at m in keeps_as old.owners new.owners owner number (ap (λ (s : State T). s.owners) h.1) k)
      | inr isnt ↦ elim (cases_Bool (place + 1 == slots)) [
        | inl all ↦ (let h = rw (isnt, all) at m in keeps_as old.owners new.owners owner number (ap (λ (s : State T). s.owners) h.1) k)
        | inr more ↦ (let h = rw (isnt, more) at m in keeps_as old.owners new.owners owner number (ap (λ (s : State T). s.owners) h.1) k)
      ]
    ]

keeps_release : {T : Type 0} (old new : State T) (at : ℕ) (event : WordEvent) (owner number : ℕ) → Makes {T = T} old (Release at) event new → Keeps old.owners owner number → Keeps new.owners owner number
keeps_release {T} old new at event owner number (held, place, there, seat, found, m) k =
    elim (cases_Bool (fetch_sub there.shares 1 == 0)) [
      | inl none ↦ (let h = rw none at m in keeps_set old.owners new.owners at (Holding held place) (Burying place) owner number seat refl (ap (λ (s : State T). s.owners) h.1) k)
      | inr some ↦ (let h = rw some at m in keeps_set old.owners new.owners at (Holding held place) Spent owner number seat refl (ap (λ (s : State T). s.owners) h.1) k)
    ]

keeps_bury : {T : Type 0} (old new : State T) (at : ℕ) (event : WordEvent) (owner number : ℕ) → Makes {T = T} old (Bury at) event new → Keeps old.owners owner number → Keeps new.owners owner number
keeps_bury {T} old new at event owner number (place, there, seat, found, m) k =
    elim (cases_Bool (there.shares == 0)) [
      | inl none ↦ (let h = rw none at m in keeps_set old.owners new.owners at (Burying place) (Fading place) owner number seat refl (ap (λ (s : State T). s.owners) h.3) k)
      | inr some ↦ (let h = rw some at m in keeps_set old.owners new.owners at (Burying place) Spent owner number seat refl (ap (λ (s : State T). s.owners) h.1) k)
    ]

keeps_look : {T : Type 0} (old new : State T) (at : ℕ) (event : WordEvent) (owner number : ℕ) → Makes {T = T} old (Look at) event new → Keeps old.owners owner number → Keeps new.owners owner number
keeps_look {T} old new at event owner number (had, place, there, own, found, m) k =
    elim (cases_Bool (nat_lt there.shares dead_word)) [
      | inl little ↦ (let h = rw little at m in keeps_as old.owners new.owners owner number (ap (λ (s : State T). s.owners) h.1) k)
      | inr great ↦ (let h = rw great at m in keeps_as old.owners new.owners owner number (ap (λ (s : State T). s.owners) h.1) k)
    ]

keeps_raise : {T : Type 0} (old new : State T) (at : ℕ) (event : WordEvent) (owner number : ℕ) → Makes {T = T} old (Raise at) event new → Keeps old.owners owner number → Keeps new.owners owner number
keeps_raise {T} old new at event owner number (had, place, there, own, found, room, m) k =
    elim (cases_Bool (nat_lt there.shares dead_word)) [
      | inl little ↦ (let h = rw little at m in keeps_push old.owners new.owners (Holding had place) owner number (ap (λ (s : State T). s.owners) h.1) k)
      | inr great ↦ (let h = rw great at m in keeps_as old.owners new.owners owner number (ap (λ (s : State T). s.owners) h.1) k)
    ]

-- an owner that fades is there
seated : (seat : Option Owner) (place : ℕ) → option_and_then fading_of seat ≡ Some place → (how : Owner) × (seat ≡ Some how)
seated None place e = absurd (let wrong = e in cc)
seated (Some how) place e = (how, refl)

-- it comes further, and has no share
keeps_faded : (before after : List Owner) (at place : ℕ) (next : Owner) (owner number : ℕ) → option_and_then fading_of (slice_get before at) ≡ Some place → owned_of next ≡ None → after ≡ slice_set before at next → Keeps before owner number → Keeps after owner number
keeps_faded before after at place next owner number fades apart is k =
    let there = seated (slice_get before at) place fades in
    keeps_set before after at there.0 next owner number there.1 apart is k

keeps_fade : {T : Type 0} (old new : State T) (at : ℕ) (event : WordEvent) (owner number : ℕ) → Makes {T = T} old (Fade at) event new → Keeps old.owners owner number → Keeps new.owners owner number
keeps_fade {T} old new at event owner number (place, there, fades, found, m) k =
    elim (cases_Bool (fetch_sub there.weak 1 == 0)) [
      | inl none ↦ (let h = rw none at m in keeps_faded old.owners new.owners at place (Resetting place) owner number fades refl (ap (λ (s : State T). s.owners) h.1) k)
      | inr some ↦ (let h = rw some at m in keeps_faded old.owners new.owners at place Spent owner number fades refl (ap (λ (s : State T). s.owners) h.1) k)
    ]

pub keeps_step : {T : Type 0} (old new : State T) (step : WordStep T) (event : WordEvent) (owner number : ℕ) → Makes old step event new → Keeps old.owners owner number → Keeps new.owners owner number
keeps_step {T} old new Load event owner number (given, found, few, reported, is) k = keeps_push old.owners new.owners (Holding given (slot_of old.latest)) owner number (ap (λ (s : State T). s.owners) is) k
keeps_step old new Probe event owner number m k = keeps_probe old new event owner number m k
keeps_step {T} old new (Prepare value) event owner number (place, there, last, at, found, latest, fits, reported, is) k = keeps_as old.owners new.owners owner number (ap (λ (s : State T). s.owners) is) k
keeps_step {T} old new Swap event owner number (place, last, at, within, latest, reported, is) k = keeps_as old.owners new.owners owner number (ap (λ (s : State T). s.owners) is) k
keeps_step {T} old new Settle event owner number (given, place, shares, there, at, found, reported, is) k = keeps_push old.owners new.owners (Holding given place) owner number (ap (λ (s : State T). s.owners) is) k
keeps_step old new (Release at) event owner number m k = keeps_release old new at event owner number m k
keeps_step old new (Bury at) event owner number m k = keeps_bury old new at event owner number m k
keeps_step {T} old new (Free at) event owner number (place, there, seat, found, reported, is) k = keeps_set old.owners new.owners at (Freeing place) Spent owner number seat refl (ap (λ (s : State T). s.owners) is) k
keeps_step old new (Look at) event owner number m k = keeps_look old new at event owner number m k
keeps_step old new (Raise at) event owner number m k = keeps_raise old new at event owner number m k
keeps_step {T} old new (Note at) event owner number (had, place, there, seat, found, room, reported, is) k = keeps_push old.owners new.owners (Weakly had place) owner number (ap (λ (s : State T). s.owners) is) k
keeps_step old new (Fade at) event owner number m k = keeps_fade old new at event owner number m k
keeps_step {T} old new (Reset at) event owner number (place, there, seat, found, reported, is) k = keeps_set old.owners new.owners at (Resetting place) (Freeing place) owner number seat refl (ap (λ (s : State T). s.owners) is) k

keeps_run : {T : Type 0} (before after : State T) (run : List (WordStep T × WordEvent)) (owner number : ℕ) → WordRuns before run after → Keeps before.owners owner number → Keeps after.owners owner number
keeps_run {T} before after [] owner number r k = keeps_as before.owners after.owners owner number (ap (λ (s : State T). s.owners) r) k
keeps_run before after ((step, event) ∷ run) owner number r k = keeps_run r.0 after run owner number r.2 (keeps_step before r.0 step event owner number r.1 k)

-- a load gives an owner of its number
pub loaded_keeps : {T : Type 0} (old new : State T) (owner number : ℕ) → Makes {T = T} old Load (Loaded owner number) new → (number_in old (slot_of old.latest) ≡ Some number) × Keeps new.owners owner number
loaded_keeps {T} old new owner number (given, found, few, reported, is) =
    let place : owner ≡ length old.owners = (let e = reported in cc) in
    let same : given ≡ number = (let e = reported in cc) in
    let owners : new.owners ≡ old.owners ++ Holding given (slot_of old.latest) ∷ [] = ap (λ (s : State T). s.owners) is in
    let there : slice_get new.owners owner ≡ Some (Holding given (slot_of old.latest)) = ap (λ (o : List Owner). slice_get o owner) owners ∙ get_push_new old.owners (Holding given (slot_of old.latest)) owner place in (
      found ∙ ap Some same,
      record {
        there = slice_get_within new.owners owner (Holding given (slot_of old.latest)) there;
        same = λ other at e.
            let held : Some (given, slot_of old.latest) ≡ Some (other, at) = sym (ap (option_and_then owned_of) there) ∙ e in
            let pair : (given, slot_of old.latest) ≡ (other, at) = cc in
            sym (ap (λ (x : ℕ × ℕ). x.0) pair) ∙ same;
      },
    )

-- an owner that stands behind the others has the number that it was given
new_keeps : (before after : List Owner) (how : Owner) (owner had place number : ℕ) → after ≡ before ++ how ∷ [] → owned_of how ≡ Some (had, place) → owner ≡ length before → had ≡ number → Keeps after owner number
new_keeps before after how owner had place number is of at same =
    let there : slice_get after owner ≡ Some how = ap (λ (o : List Owner). slice_get o owner) is ∙ get_push_new before how owner at in
    record {
      there = slice_get_within after owner how there;
      same = λ other p e.
          let held : Some (had, place) ≡ Some (other, p) = sym (ap (option_and_then owned_of) there ∙ of) ∙ e in
          let pair : (had, place) ≡ (other, p) = cc in
          sym (ap (λ (x : ℕ × ℕ). x.0) pair) ∙ same;
    }

-- a raise gives an owner of the number that its owner has, and a note a weak one
pub raised_keeps : {T : Type 0} (old new : State T) (from owner number its : ℕ) → Makes {T = T} old (Raise from) (Raised owner number) new → Keeps old.owners from its → (number ≡ its) × Keeps new.owners owner its
raised_keeps {T} old new from owner number its (had, place, there, own, found, room, m) k =
    let same = k.same had place own in
    elim (cases_Bool (nat_lt there.shares dead_word)) [
      | inl little ↦ (
          let h = rw little at m in
          let reported : Raised owner number ≡ Raised (length old.owners) had = h.0 in
          let at : owner ≡ length old.owners = cc in
          let which : number ≡ had = cc in
          (which ∙ same, new_keeps old.owners new.owners (Holding had place) owner had place its (ap (λ (s : State T). s.owners) h.1) refl at same)
          )
      | inr great ↦ (let h = rw great at m in absurd (let wrong : Raised owner number ≡ Dead = h.0 in cc))
    ]

pub noted_keeps : {T : Type 0} (old new : State T) (from owner number its : ℕ) → Makes {T = T} old (Note from) (Noted owner number) new → Keeps old.owners from its → (number ≡ its) × Keeps new.owners owner its
noted_keeps {T} old new from owner number its (had, place, there, seat, found, room, reported, is) k =
    let same = k.same had place (ap (option_and_then owned_of) seat) in
    let at : owner ≡ length old.owners = (let e : Noted owner number ≡ Noted (length old.owners) had = reported in cc) in
    let which : number ≡ had = (let e : Noted owner number ≡ Noted (length old.owners) had = reported in cc) in
    (which ∙ same, new_keeps old.owners new.owners (Weakly had place) owner had place its (ap (λ (s : State T). s.owners) is) refl at same)

-- what a load of a run was: the number that it gave was in W, and is the only one that its owner has
pub record GaveTheLast {T : Type 0} (before : State T) (run : List (WordStep T × WordEvent)) (after : State T) (place owner number : ℕ) : Type 0 where
  pub between : State T
  pub made : WordRuns before (take place run) between
  pub last : number_in between (slot_of between.latest) ≡ Some number
  pub keeps : Keeps after.owners owner number

pub gave_the_last : {T : Type 0} (before after : State T) (run : List (WordStep T × WordEvent)) (place owner number : ℕ) → WordRuns before run after → slice_get run place ≡ Some (Load, Loaded owner number) → GaveTheLast before run after place owner number
gave_the_last before after [] place owner number r l = absurd (let wrong = l in cc)
gave_the_last {T} before after ((step, event) ∷ more) zero owner number r l =
    let pair : (step, event) ≡ (Load, Loaded owner number) = (let e = l in cc) in
    let is : step ≡ Load = ap (λ (p : WordStep T × WordEvent). p.0) pair in
    let reported : event ≡ Loaded owner number = ap (λ (p : WordStep T × WordEvent). p.1) pair in
    let made : Makes {T = T} before Load (Loaded owner number) r.0 = rw (is, reported) at r.1 in
    let gave = loaded_keeps before r.0 owner number made in
    record { between = before; made = refl; last = gave.0; keeps = keeps_run r.0 after more owner number r.2 gave.1 }
gave_the_last before after ((step, event) ∷ more) (suc place) owner number r l =
    let found = gave_the_last r.0 after more place owner number r.2 l in
    record { between = found.between; made = (r.0, r.1, found.made); last = found.last; keeps = found.keeps }

pub was_in_w : {T : Type 0} (before after : State T) (run : List (WordStep T × WordEvent)) (place owner number : ℕ) → WordRuns before run after → slice_get run place ≡ Some (Load, Loaded owner number) → (between : State T) × WordRuns before (take place run) between × (number_in between (slot_of between.latest) ≡ Some number)
was_in_w before after run place owner number r l = let gave = gave_the_last before after run place owner number r l in (gave.between, gave.made, gave.last)

pub keeps_number : {T : Type 0} (before after : State T) (run : List (WordStep T × WordEvent)) (place owner number other slot : ℕ) → WordRuns before run after → slice_get run place ≡ Some (Load, Loaded owner number) → slice_get after.owners owner ≡ Some (Holding other slot) → other ≡ number
keeps_number before after run place owner number other slot r l held = (gave_the_last before after run place owner number r l).keeps.same other slot (ap (option_and_then owned_of) held)
