-- A call that takes all its steps comes to its end, once it has taken its first.
use Rattle.std.proofs.Common.{◌≡◌, ◌≢◌, refl, sym, ap, ◌∙◌, subst, ℕ, zero, suc, ◌+◌, ◌-◌, ◌*◌, ◌^◌, ◌<◌, ◌≤◌, Bool, true, false, inl, inr, List, [], ◌∷◌, ◌++◌, length, arith, Option, Some, None}
use Rattle.std.specs.Prelude.{◌==◌, is_some}
use Rattle.std.specs.List.{slice_get, slice_set}
use Rattle.std.specs.Option.{option_map, option_and_then}
use Rattle.std.specs.Prelude.{if◌then◌else◌}
use Rattle.std.proofs.lemmas.Bool.{cases_Bool}
use Rattle.std.proofs.lemmas.Bool.Decides.{eqb_tells}
use Rattle.std.proofs.lemmas.Option.{slice_get_within}
use Rattle.cell_core.proofs.GoesOn.{release_goes_on, bury_goes_on, free_goes_on, fade_goes_on, reset_goes_on, probe_goes_on, prepare_goes_on, swap_goes_on, settle_goes_on}
use Rattle.cell_core.proofs.MadeLemmas.{makes_made}
use Rattle.cell_core.proofs.SeatLemmas.{get_set_same, get_push_new}
use Rattle.cell_core.proofs.StepShows.{step_shows}
use Rattle.cell_core.specs.Cell.{Cell}
use Rattle.cell_core.specs.Shows.{Shows, PublisherIs}
use Rattle.cell_core.specs.Words.{State, slots, free_word, fetch_sub, slot_of, given_of, fading_of}
use Rattle.cell_core.specs.WordSteps.{Makes}
use Rattle.cell_core.specs.declared.words.Owner.{Owner}
use Rattle.cell_core.specs.declared.words.Owner.TheVariants.{Holding, Weakly, Burying, Fading, Resetting, Freeing, Spent}
use Rattle.cell_core.specs.declared.words.Publisher.TheVariants.{Probing, Preparing, Swapping, Settling}
use Rattle.cell_core.specs.declared.words.WordEvent.{WordEvent}
use Rattle.cell_core.specs.declared.words.WordEvent.TheVariants as reported
use Rattle.cell_core.specs.declared.words.WordStep.TheVariants as word
use Rattle.cell_core.proofs.GoesOn.{load_goes_on}
use Rattle.cell_core.proofs.SeatLemmas.{get_set_other, get_push_old}
use Rattle.cell_core.specs.Words.{grants}
use Rattle.serve_core.specs.declared.heading.Heading.{Heading}
use Rattle.zone_tree.specs.Version.{Version as Numbered}
use Rattle.world_run.specs.declared.phase.Keeping.{Keeping}
use Rattle.world_run.specs.declared.phase.Phase.{Phase}
use Rattle.world_run.specs.declared.phase.Phase.TheVariants as phase
use Rattle.world_run.specs.declared.phase.Purpose.{Purpose}
use Rattle.world_run.specs.declared.phase.Purpose.TheVariants as purpose
use Rattle.world_run.specs.declared.phase.Progress.{Progress}
use Rattle.world_run.specs.declared.phase.Progress.TheVariants.{On, Done}
use Rattle.world_run.specs.declared.step.Answer.{Answer}
use Rattle.world_run.specs.declared.step.Answer.TheVariants as answer
use Rattle.cell_core.proofs.GoesOn.{note_goes_on}
use Rattle.cell_core.specs.Words.{notes}
use Rattle.world_run.specs.declared.entries.Entry.{Entry}
use Rattle.world_run.specs.declared.sending.Sending.{Sending}
use Rattle.world_run.specs.Phases.{word_step, after, past, gone, leaving_after, oldest_after, sent_after, entry_of}
use Rattle.world_run.specs.World.{step_once, steps_up_to}

abbrev pub Zones : Type 0
Zones = State Numbered

-- a call has come to its end
abbrev pub IsDone : Progress → Type 0
IsDone (On phase) = ⊥
IsDone (Done end) = Unit {0}

-- a step that is made, as what follows on it
pub went : (words new : Zones) (at : Phase) (event : WordEvent) (progress : Progress) → Makes words (word_step at) event new → after new at event ≡ progress → step_once words at ≡ Some (progress, new)
went words new at event progress m goes =
    ap (option_map (λ t. (after t.1 at t.0, t.1))) (makes_made words new (word_step at) event m) ∙ ap (λ (p : Progress). Some (p, new)) goes

-- the step that ends a call
pub done_by : (left : ℕ) (words new : Zones) (at : Phase) (progress : Progress) → 0 < left → step_once words at ≡ Some (progress, new) → IsDone progress → IsDone (steps_up_to left words at).0
unfolding steps_up_to
done_by zero words new at progress some e is = absurd (omega (arith, some))
done_by (suc left) words new at (On next) some e is = absurd is
done_by (suc left) words new at (Done end) some e is = rw e tt

-- a step behind which the call goes on
pub on_by : (left : ℕ) (words new : Zones) (at next : Phase) → 0 < left → step_once words at ≡ Some (On next, new) → IsDone (steps_up_to (left - 1) new next).0 → IsDone (steps_up_to left words at).0
unfolding steps_up_to
on_by zero words new at next some e is = absurd (omega (arith, some))
on_by (suc left) words new at next some e is = let same : suc left - 1 ≡ left = omega arith in rw e (rw same at is)

-- what follows comes to its end
abbrev pub EndsFrom : ℕ → Zones → Progress → Type 0
EndsFrom left words (On next) = IsDone (steps_up_to left words next).0
EndsFrom left words (Done end) = Unit {0}

-- a step behind which the call comes to its end
pub step_ends : (left : ℕ) (words new : Zones) (at : Phase) (progress : Progress) → 0 < left → step_once words at ≡ Some (progress, new) → EndsFrom (left - 1) new progress → IsDone (steps_up_to left words at).0
step_ends left words new at (On next) some e ends = on_by left words new at next some e ends
step_ends left words new at (Done end) some e ends = done_by left words new at (Done end) some e tt

-- an owner that is to be released is held, and is another one
abbrev pub HeldBeside : ℕ → List Owner → Option ℕ → Type 0
HeldBeside owner owners None = Unit {0}
HeldBeside owner owners (Some oldest) = (oldest ≢ owner) × (number : ℕ) × (place : ℕ) × (slice_get owners oldest ≡ Some (Holding number place))

-- an owner is none of several
abbrev pub IsApart : ℕ → List ℕ → Type 0
IsApart owner [] = Unit {0}
IsApart owner (o ∷ os) = (o ≢ owner) × IsApart owner os

-- several owners are of one kind, strong or weak, and each is another one
abbrev pub AreAll : (ℕ → ℕ → Owner) → List Owner → List ℕ → Type 0
AreAll how owners [] = Unit {0}
AreAll how owners (o ∷ os) = ((number : ℕ) × (place : ℕ) × (slice_get owners o ≡ Some (how number place))) × IsApart o os × AreAll how owners os

-- what an owner is released for can go on once it is gone
abbrev pub CanPass : ℕ → List Owner → Purpose → Type 0
CanPass owner owners purpose.Drop = Unit {0}
CanPass owner owners (purpose.Publish keeping kept entry) = HeldBeside owner owners keeping.oldest × IsApart owner keeping.leaving × AreAll Weakly owners keeping.leaving
CanPass owner owners (purpose.Oldest head kept entry leaving) = IsApart owner leaving × AreAll Weakly owners leaving
CanPass owner owners (purpose.Leaves head kept entry leaving) = IsApart owner leaving × AreAll Weakly owners leaving
CanPass owner owners (purpose.Sent sending got) = IsApart owner got × AreAll Holding owners got

-- so many steps follow at most
abbrev pub behind_owner : Purpose → ℕ
behind_owner purpose.Drop = 0
behind_owner (purpose.Publish keeping kept entry) = 5 + 3 * length keeping.leaving
behind_owner (purpose.Oldest head kept entry leaving) = 3 * length leaving
behind_owner (purpose.Leaves head kept entry leaving) = 3 * length leaving
behind_owner (purpose.Sent sending got) = 5 * length got

held_set : (owner : ℕ) (owners : List Owner) (next : Owner) (oldest : Option ℕ) → HeldBeside owner owners oldest → HeldBeside owner (slice_set owners owner next) oldest
held_set owner owners next None held = tt
held_set owner owners next (Some oldest) held = (held.0, held.1, held.2, get_set_other owners owner oldest next held.0 ∙ held.3)

all_set : (how : ℕ → ℕ → Owner) (owner : ℕ) (owners : List Owner) (next : Owner) (os : List ℕ) → IsApart owner os → AreAll how owners os → AreAll how (slice_set owners owner next) os
all_set how owner owners next [] apart all = tt
all_set how owner owners next (o ∷ os) apart all = ((all.0.0, all.0.1, get_set_other owners owner o next apart.0 ∙ all.0.2), all.1, all_set how owner owners next os apart.1 all.2)

pub all_push : (how : ℕ → ℕ → Owner) (owners : List Owner) (one : Owner) (os : List ℕ) → AreAll how owners os → AreAll how (owners ++ one ∷ []) os
all_push how owners one [] all = tt
all_push how owners one (o ∷ os) all = ((all.0.0, all.0.1, get_push_old owners one (how all.0.0 all.0.1) o all.0.2), all.1, all_push how owners one os all.2)

-- a new owner is another one
pub apart_new : (how : ℕ → ℕ → Owner) (owners : List Owner) (os : List ℕ) → AreAll how owners os → IsApart (length owners) os
apart_new how owners [] all = tt
apart_new how owners (o ∷ os) all = (let within = slice_get_within owners o (how all.0.0 all.0.1) all.0.2 in (λ e. absurd (omega (arith, e, within))), apart_new how owners os all.2)

-- a strong owner is no weak one
pub apart_strong : (owners : List Owner) (owner number place : ℕ) (os : List ℕ) → slice_get owners owner ≡ Some (Holding number place) → AreAll Weakly owners os → IsApart owner os
apart_strong owners owner number place [] at all = tt
apart_strong owners owner number place (o ∷ os) at all = (
  λ e. (let wrong : Some (Weakly all.0.0 all.0.1) ≡ Some (Holding number place) = sym all.0.2 ∙ (ap (slice_get owners) e ∙ at) in absurd (let w = wrong in cc)),
  apart_strong owners owner number place os at all.2,
)

can_set : (owner : ℕ) (owners : List Owner) (next : Owner) (for : Purpose) → CanPass owner owners for → CanPass owner (slice_set owners owner next) for
can_set owner owners next purpose.Drop can = tt
can_set owner owners next (purpose.Publish keeping kept entry) can = (held_set owner owners next keeping.oldest can.0, can.1, all_set Weakly owner owners next keeping.leaving can.1 can.2)
can_set owner owners next (purpose.Oldest head kept entry leaving) can = (can.0, all_set Weakly owner owners next leaving can.0 can.1)
can_set owner owners next (purpose.Leaves head kept entry leaving) can = (can.0, all_set Weakly owner owners next leaving can.0 can.1)
can_set owner owners next (purpose.Sent sending got) can = (can.0, all_set Holding owner owners next got can.0 can.1)

-- it goes on so behind the owner's step
can_after : (words new : Zones) (owner : ℕ) (next : Owner) (for : Purpose) → new.owners ≡ slice_set words.owners owner next → CanPass owner words.owners for → CanPass owner new.owners for
can_after words new owner next for is can = subst (λ o. CanPass owner o for) (sym is) (can_set owner words.owners next for can)

-- once an owner is gone, its call comes to its end
abbrev pub Passes : ℕ → Purpose → Type 0
Passes owner for = (left : ℕ) (words : Zones) (cell : Cell Numbered) (given : Answer) → behind_owner for ≤ left → Shows words cell → CanPass owner words.owners for → EndsFrom left words (past for given)

-- an owner that has come further stands there
use_after : (words new : Zones) (owner : ℕ) (before next : Owner) → slice_get words.owners owner ≡ Some before → new.owners ≡ slice_set words.owners owner next → slice_get new.owners owner ≡ Some next
use_after words new owner before next use_of is =
    ap (λ (o : List Owner). slice_get o owner) is ∙ get_set_same words.owners owner next (slice_get_within words.owners owner before use_of)

free_ends : (left : ℕ) (words : Zones) (cell : Cell Numbered) (owner place : ℕ) (number : Option ℕ) (for : Purpose) → Passes owner for → 1 + behind_owner for ≤ left → Shows words cell → slice_get words.owners owner ≡ Some (Freeing place) → CanPass owner words.owners for
    → IsDone (steps_up_to left words (phase.Free owner number for)).0
free_ends left words cell owner place number for passes enough s use_of can =
    let has = free_goes_on words cell owner place s use_of in
    let shown = step_shows words has.1 (word.Free owner) has.0 cell s has.2 in
    let (there_place, there, freed, found, told_is, new_is) = has.2 in
    step_ends left words has.1 (phase.Free owner number for) (past for (gone number)) (omega (arith, enough)) (went words has.1 (phase.Free owner number for) has.0 _ has.2 refl)
    (passes (left - 1) has.1 shown.0 (gone number) (omega (arith, enough)) shown.2 (can_after words has.1 owner Spent for (ap (λ (w : Zones). w.owners) new_is) can))

reset_ends : (left : ℕ) (words : Zones) (cell : Cell Numbered) (owner place : ℕ) (number : Option ℕ) (for : Purpose) → Passes owner for → 2 + behind_owner for ≤ left → Shows words cell → slice_get words.owners owner ≡ Some (Resetting place) → CanPass owner words.owners for
    → IsDone (steps_up_to left words (phase.Reset owner number for)).0
reset_ends left words cell owner place number for passes enough s use_of can =
    let has = reset_goes_on words cell owner place s use_of in
    let shown = step_shows words has.1 (word.Reset owner) has.0 cell s has.2 in
    let (there_place, there, resets, found, told_is, new_is) = has.2 in
    let owners_is : has.1.owners ≡ slice_set words.owners owner (Freeing there_place) = ap (λ (w : Zones). w.owners) new_is in
    let next_use = use_after words has.1 owner (Resetting place) (Freeing there_place) use_of owners_is in
    on_by left words has.1 (phase.Reset owner number for) (phase.Free owner number for) (omega (arith, enough)) (went words has.1 (phase.Reset owner number for) has.0 _ has.2 refl)
    (free_ends (left - 1) has.1 shown.0 owner there_place number for passes (omega (arith, enough)) shown.2 next_use (can_after words has.1 owner (Freeing there_place) for owners_is can))

fade_done : (left : ℕ) (words new : Zones) (cell : Cell Numbered) (owner : ℕ) (how : Owner) (number : Option ℕ) (for : Purpose) (event : WordEvent) → Passes owner for → 3 + behind_owner for ≤ left → Shows new cell → slice_get words.owners owner ≡ Some how → CanPass owner words.owners for
    → Makes words (word.Fade owner) event new → IsDone (steps_up_to left words (phase.Fade owner number for)).0
fade_done left words new cell owner how number for event passes enough s use_of can (place, there, fades, found, m) =
    elim (cases_Bool (fetch_sub there.weak 1 == 0)) [
      | inl none ↦ (
          let h = rw none at m in
          let made_here : Makes words (word.Fade owner) reported.Closed new = (place, there, fades, found, rw none (refl, h.1)) in
          let owners_is : new.owners ≡ slice_set words.owners owner (Resetting place) = ap (λ (w : Zones). w.owners) h.1 in
          let next_use = use_after words new owner how (Resetting place) use_of owners_is in
          on_by left words new (phase.Fade owner number for) (phase.Reset owner number for) (omega (arith, enough)) (went words new (phase.Fade owner number for) reported.Closed _ made_here refl)
          (reset_ends (left - 1) new cell owner place number for passes (omega (arith, enough)) s next_use (can_after words new owner (Resetting place) for owners_is can))
          )
      | inr some ↦ (
          let h = rw some at m in
          let made_here : Makes words (word.Fade owner) reported.Faded new = (place, there, fades, found, rw some (refl, h.1)) in
          let owners_is : new.owners ≡ slice_set words.owners owner Spent = ap (λ (w : Zones). w.owners) h.1 in
          step_ends left words new (phase.Fade owner number for) (past for (gone number)) (omega (arith, enough)) (went words new (phase.Fade owner number for) reported.Faded _ made_here refl)
          (passes (left - 1) new cell (gone number) (omega (arith, enough)) s (can_after words new owner Spent for owners_is can))
          )
    ]

pub fade_ends : (left : ℕ) (words : Zones) (cell : Cell Numbered) (owner place : ℕ) (how : Owner) (number : Option ℕ) (for : Purpose) → Passes owner for → 3 + behind_owner for ≤ left → Shows words cell → slice_get words.owners owner ≡ Some how → fading_of how ≡ Some place → CanPass owner words.owners for
    → IsDone (steps_up_to left words (phase.Fade owner number for)).0
fade_ends left words cell owner place how number for passes enough s use_of fades can =
    let has = fade_goes_on words cell owner place s (ap (option_and_then fading_of) use_of ∙ fades) in
    let shown = step_shows words has.1 (word.Fade owner) has.0 cell s has.2 in
    fade_done left words has.1 shown.0 owner how number for has.0 passes enough shown.2 use_of can has.2

bury_done : (left : ℕ) (words new : Zones) (cell : Cell Numbered) (owner : ℕ) (for : Purpose) (event : WordEvent) → Passes owner for → 4 + behind_owner for ≤ left → Shows new cell → CanPass owner words.owners for → Makes words (word.Bury owner) event new → IsDone (steps_up_to left words (phase.Bury owner for)).0
bury_done left words new cell owner for event passes enough s can (place, there, use_of, found, m) =
    elim (cases_Bool (there.shares == 0)) [
      | inl none ↦ (
          let h = rw none at m in
          let made_here : Makes words (word.Bury owner) (reported.Buried h.0) new = (place, there, use_of, found, rw none (h.0, h.1, refl, h.3)) in
          let owners_is : new.owners ≡ slice_set words.owners owner (Fading place) = ap (λ (w : Zones). w.owners) h.3 in
          let next_use = use_after words new owner (Burying place) (Fading place) use_of owners_is in
          on_by left words new (phase.Bury owner for) (phase.Fade owner (Some h.0) for) (omega (arith, enough)) (went words new (phase.Bury owner for) (reported.Buried h.0) _ made_here refl)
          (fade_ends (left - 1) new cell owner place (Fading place) (Some h.0) for passes (omega (arith, enough)) s next_use refl (can_after words new owner (Fading place) for owners_is can))
          )
      | inr some ↦ (
          let h = rw some at m in
          let made_here : Makes words (word.Bury owner) reported.Kept new = (place, there, use_of, found, rw some (refl, h.1)) in
          let owners_is : new.owners ≡ slice_set words.owners owner Spent = ap (λ (w : Zones). w.owners) h.1 in
          step_ends left words new (phase.Bury owner for) (past for answer.Left) (omega (arith, enough)) (went words new (phase.Bury owner for) reported.Kept _ made_here refl)
          (passes (left - 1) new cell answer.Left (omega (arith, enough)) s (can_after words new owner Spent for owners_is can))
          )
    ]

bury_ends : (left : ℕ) (words : Zones) (cell : Cell Numbered) (owner place : ℕ) (for : Purpose) → Passes owner for → 4 + behind_owner for ≤ left → Shows words cell → slice_get words.owners owner ≡ Some (Burying place) → CanPass owner words.owners for → IsDone (steps_up_to left words (phase.Bury owner for)).0
bury_ends left words cell owner place for passes enough s use_of can =
    let has = bury_goes_on words cell owner place s use_of in
    let shown = step_shows words has.1 (word.Bury owner) has.0 cell s has.2 in
    bury_done left words has.1 shown.0 owner for has.0 passes enough shown.2 can has.2

release_done : (left : ℕ) (words new : Zones) (cell : Cell Numbered) (owner : ℕ) (for : Purpose) (event : WordEvent) → Passes owner for → 5 + behind_owner for ≤ left → Shows new cell → CanPass owner words.owners for → Makes words (word.Release owner) event new → IsDone (steps_up_to left words (phase.Release owner for)).0
release_done left words new cell owner for event passes enough s can (number, place, there, use_of, found, m) =
    elim (cases_Bool (fetch_sub there.shares 1 == 0)) [
      | inl none ↦ (
          let h = rw none at m in
          let made_here : Makes words (word.Release owner) reported.Emptied new = (number, place, there, use_of, found, rw none (refl, h.1)) in
          let owners_is : new.owners ≡ slice_set words.owners owner (Burying place) = ap (λ (w : Zones). w.owners) h.1 in
          let next_use = use_after words new owner (Holding number place) (Burying place) use_of owners_is in
          on_by left words new (phase.Release owner for) (phase.Bury owner for) (omega (arith, enough)) (went words new (phase.Release owner for) reported.Emptied _ made_here refl)
          (bury_ends (left - 1) new cell owner place for passes (omega (arith, enough)) s next_use (can_after words new owner (Burying place) for owners_is can))
          )
      | inr some ↦ (
          let h = rw some at m in
          let made_here : Makes words (word.Release owner) reported.Left new = (number, place, there, use_of, found, rw some (refl, h.1)) in
          let owners_is : new.owners ≡ slice_set words.owners owner Spent = ap (λ (w : Zones). w.owners) h.1 in
          step_ends left words new (phase.Release owner for) (past for answer.Left) (omega (arith, enough)) (went words new (phase.Release owner for) reported.Left _ made_here refl)
          (passes (left - 1) new cell answer.Left (omega (arith, enough)) s (can_after words new owner Spent for owners_is can))
          )
    ]

pub release_ends : (left : ℕ) (words : Zones) (cell : Cell Numbered) (owner number place : ℕ) (for : Purpose) → Passes owner for → 5 + behind_owner for ≤ left → Shows words cell → slice_get words.owners owner ≡ Some (Holding number place) → CanPass owner words.owners for
    → IsDone (steps_up_to left words (phase.Release owner for)).0
release_ends left words cell owner number place for passes enough s use_of can =
    let has = release_goes_on words cell owner number place s use_of in
    let shown = step_shows words has.1 (word.Release owner) has.0 cell s has.2 in
    release_done left words has.1 shown.0 owner for has.0 passes enough shown.2 can has.2

pub drop_passes : (owner : ℕ) → Passes owner purpose.Drop
drop_passes owner left words cell given enough s can = tt

-- the entries that leave the window are given up in turn
leaves_end : (head : Heading) (kept : ℕ) (entry : Option Entry) (leaving : List ℕ) (left : ℕ) (words : Zones) (cell : Cell Numbered) → 3 * length leaving ≤ left → Shows words cell → AreAll Weakly words.owners leaving → EndsFrom left words (leaving_after head kept entry leaving)
leaves_end head kept entry [] left words cell enough s all = tt
leaves_end head kept entry (owner ∷ leaving) left words cell enough s all =
    fade_ends left words cell owner all.0.1 (Weakly all.0.0 all.0.1) None (purpose.Leaves head kept entry leaving)
    (λ left words cell given enough s can. leaves_end head kept entry leaving left words cell enough s can.1) (omega (arith, enough)) s all.0.2 refl (all.1, all.2)

leaves_passes : (owner : ℕ) (head : Heading) (kept : ℕ) (entry : Option Entry) (leaving : List ℕ) → Passes owner (purpose.Oldest head kept entry leaving)
leaves_passes owner head kept entry leaving left words cell given enough s can = leaves_end head kept entry leaving left words cell enough s can.1

past_oldest : (owner : ℕ) (head : Heading) (kept : ℕ) (entry : Option Entry) (leaving : List ℕ) (left : ℕ) (words : Zones) (cell : Cell Numbered) (oldest : Option ℕ) → 5 + 3 * length leaving ≤ left → Shows words cell → HeldBeside owner words.owners oldest → AreAll Weakly words.owners leaving
    → EndsFrom left words (oldest_after head kept entry leaving oldest)
past_oldest owner head kept entry leaving left words cell None enough s held all = leaves_end head kept entry leaving left words cell (omega (arith, enough)) s all
past_oldest owner head kept entry leaving left words cell (Some oldest) enough s held all =
    release_ends left words cell oldest held.1 held.2 (purpose.Oldest head kept entry leaving) (leaves_passes oldest head kept entry leaving) enough s held.3 (apart_strong words.owners oldest held.1 held.2 leaving held.3 all, all)

publish_passes : (owner : ℕ) (keeping : Keeping) (kept : ℕ) (entry : Option Entry) → Passes owner (purpose.Publish keeping kept entry)
publish_passes owner keeping kept entry left words cell given enough s can = past_oldest owner keeping.heading kept entry keeping.leaving left words cell keeping.oldest enough s can.0 can.2

-- and so are the owners that a transfer has got
pub sent_end : (sending : Sending) (got : List ℕ) (left : ℕ) (words : Zones) (cell : Cell Numbered) → 5 * length got ≤ left → Shows words cell → AreAll Holding words.owners got → EndsFrom left words (sent_after sending got)
sent_end sending [] left words cell enough s all = tt
sent_end sending (owner ∷ got) left words cell enough s all =
    release_ends left words cell owner all.0.0 all.0.1 (purpose.Sent sending got) (λ left words cell given enough s can. sent_end sending got left words cell enough s can.1) (omega (arith, enough)) s all.0.2 (all.1, all.2)

-- the oldest version that is to be given up is held
abbrev pub IsHolding : List Owner → Option ℕ → Type 0
IsHolding owners None = Unit {0}
IsHolding owners (Some oldest) = (number : ℕ) × (place : ℕ) × (slice_get owners oldest ≡ Some (Holding number place))

-- an update can be carried to its end
pub record CanEnd (words : Zones) (keeping : Keeping) : Type 0 where
  pub shares : words.granted < grants
  pub oldest : IsHolding words.owners keeping.oldest
  pub leaving : AreAll Weakly words.owners keeping.leaving
  pub few : length keeping.leaving ≤ 16
  pub notes_left : is_some keeping.enters ≡ true → words.noted < notes

can_keep : (words new : Zones) (keeping : Keeping) → new.owners ≡ words.owners → new.granted ≡ words.granted → new.noted ≡ words.noted → CanEnd words keeping → CanEnd new keeping
can_keep words new keeping owners granted noted can = record {
  shares = subst (λ n. n < grants) (sym granted) can.shares;
  oldest = subst (λ o. IsHolding o keeping.oldest) (sym owners) can.oldest;
  leaving = subst (λ o. AreAll Weakly o keeping.leaving) (sym owners) can.leaving;
  few = can.few;
  notes_left = λ e. subst (λ n. n < notes) (sym noted) (can.notes_left e);
}

-- a new owner is another one
held_new : (owners : List Owner) (one : Owner) (oldest : Option ℕ) → IsHolding owners oldest → HeldBeside (length owners) (owners ++ one ∷ []) oldest
held_new owners one None held = tt
held_new owners one (Some oldest) held =
    let within = slice_get_within owners oldest (Holding held.0 held.1) held.2 in
    ((λ e. absurd (omega (arith, e, within))), held.0, held.1, get_push_old owners one (Holding held.0 held.1) oldest held.2)

held_push : (owner : ℕ) (owners : List Owner) (one : Owner) (oldest : Option ℕ) → HeldBeside owner owners oldest → HeldBeside owner (owners ++ one ∷ []) oldest
held_push owner owners one None held = tt
held_push owner owners one (Some oldest) held = (held.0, held.1, held.2, get_push_old owners one (Holding held.1 held.2) oldest held.3)

-- what is to be given up beside an owner
record Beside (owner : ℕ) (owners : List Owner) (keeping : Keeping) : Type 0 where
  held : HeldBeside owner owners keeping.oldest
  apart : IsApart owner keeping.leaving
  all : AreAll Weakly owners keeping.leaving
  few : length keeping.leaving ≤ 16

beside_push : (owner : ℕ) (owners : List Owner) (one : Owner) (keeping : Keeping) → Beside owner owners keeping → Beside owner (owners ++ one ∷ []) keeping
beside_push owner owners one keeping b = record { held = held_push owner owners one keeping.oldest b.held; apart = b.apart; all = all_push Weakly owners one keeping.leaving b.all; few = b.few }

published_ends : (left : ℕ) (words : Zones) (cell : Cell Numbered) (given number place kept : ℕ) (entry : Option Entry) (keeping : Keeping) → 58 ≤ left → Shows words cell → slice_get words.owners given ≡ Some (Holding number place) → Beside given words.owners keeping
    → IsDone (steps_up_to left words (phase.Release given (purpose.Publish keeping kept entry))).0
published_ends left words cell given number place kept entry keeping enough s use_of b =
    let few = b.few in
    release_ends left words cell given number place (purpose.Publish keeping kept entry) (publish_passes given keeping kept entry) (omega (arith, enough, few)) s use_of (b.held, b.apart, b.all)

enter_ends : (left : ℕ) (words : Zones) (cell : Cell Numbered) (given number place kept last slot : ℕ) (keeping : Keeping) → 59 ≤ left → Shows words cell → words.noted < notes → slice_get words.owners kept ≡ Some (Holding last slot) → slice_get words.owners given ≡ Some (Holding number place) → Beside given words.owners keeping
    → IsDone (steps_up_to left words (phase.Enter given kept keeping)).0
enter_ends left words cell given number place kept last slot keeping enough s room here use_of b =
    let has = note_goes_on words cell kept last slot s here room in
    let (noted_number, noted_place, there, at, found, few, told_is, new_is) = has.2 in
    let made_here : Makes words (word.Note kept) (reported.Noted (length words.owners) noted_number) has.1 = (noted_number, noted_place, there, at, found, few, refl, new_is) in
    let shown = step_shows words has.1 (word.Note kept) has.0 cell s has.2 in
    let one : Owner = Weakly noted_number noted_place in
    let owners_is : has.1.owners ≡ words.owners ++ one ∷ [] = ap (λ (w : Zones). w.owners) new_is in
    let still : slice_get has.1.owners given ≡ Some (Holding number place) = ap (λ o. slice_get o given) owners_is ∙ get_push_old words.owners one (Holding number place) given use_of in
    let entry = entry_of keeping.enters noted_number (length words.owners) in
    on_by left words has.1 (phase.Enter given kept keeping) (phase.Release given (purpose.Publish keeping kept entry)) (omega (arith, enough)) (went words has.1 (phase.Enter given kept keeping) (reported.Noted (length words.owners) noted_number) _ made_here refl)
    (published_ends (left - 1) has.1 shown.0 given number place kept entry keeping (omega (arith, enough)) shown.2 still (subst (λ o. Beside given o keeping) (sym owners_is) (beside_push given words.owners one keeping b)))

loaded_ends : (left : ℕ) (words : Zones) (cell : Cell Numbered) (given number place kept last slot : ℕ) (keeping : Keeping) (enters : Bool) → is_some keeping.enters ≡ enters → 59 ≤ left → Shows words cell → (is_some keeping.enters ≡ true → words.noted < notes) → slice_get words.owners kept ≡ Some (Holding last slot)
    → slice_get words.owners given ≡ Some (Holding number place) → Beside given words.owners keeping → EndsFrom left words (if enters then On (phase.Enter given kept keeping) else On (phase.Release given (purpose.Publish keeping kept None)))
loaded_ends left words cell given number place kept last slot keeping true e enough s room here use_of b = enter_ends left words cell given number place kept last slot keeping enough s (room e) here use_of b
loaded_ends left words cell given number place kept last slot keeping false e enough s room here use_of b = published_ends left words cell given number place kept None keeping (omega (arith, enough)) s use_of b

keep_ends : (left : ℕ) (words : Zones) (cell : Cell Numbered) (given number place : ℕ) (keeping : Keeping) → 60 ≤ left → Shows words cell → words.granted < grants → (is_some keeping.enters ≡ true → words.noted < notes) → slice_get words.owners given ≡ Some (Holding number place) → Beside given words.owners keeping
    → IsDone (steps_up_to left words (phase.Keep given keeping)).0
keep_ends left words cell given number place keeping enough s few room use_of b =
    let has = load_goes_on words cell s few in
    let (last, found, less, told_is, new_is) = has.2 in
    let made_here : Makes words word.Load (reported.Loaded (length words.owners) last) has.1 = (last, found, less, refl, new_is) in
    let shown = step_shows words has.1 word.Load has.0 cell s has.2 in
    let one : Owner = Holding last (slot_of words.latest) in
    let owners_is : has.1.owners ≡ words.owners ++ one ∷ [] = ap (λ (w : Zones). w.owners) new_is in
    let noted_is : has.1.noted ≡ words.noted = ap (λ (w : Zones). w.noted) new_is in
    let still : slice_get has.1.owners given ≡ Some (Holding number place) = ap (λ o. slice_get o given) owners_is ∙ get_push_old words.owners one (Holding number place) given use_of in
    let here : slice_get has.1.owners (length words.owners) ≡ Some one = ap (λ o. slice_get o (length words.owners)) owners_is ∙ get_push_new words.owners one (length words.owners) refl in
    step_ends left words has.1 (phase.Keep given keeping) _ (omega (arith, enough)) (went words has.1 (phase.Keep given keeping) (reported.Loaded (length words.owners) last) _ made_here refl)
    (loaded_ends (left - 1) has.1 shown.0 given number place (length words.owners) last (slot_of words.latest) keeping (is_some keeping.enters) refl (omega (arith, enough)) shown.2 (λ e. subst (λ n. n < notes) (sym noted_is) (room e)) here still
    (subst (λ o. Beside given o keeping) (sym owners_is) (beside_push given words.owners one keeping b)))

settle_done : (left : ℕ) (words new : Zones) (cell : Cell Numbered) (keeping : Keeping) (event : WordEvent) → 61 ≤ left → Shows new cell → CanEnd words keeping → Makes words word.Settle event new → IsDone (steps_up_to left words (phase.Settle keeping)).0
settle_done left words new cell keeping event enough s can (number, place, given, there, is, found, told_is, new_is) =
    let made_here : Makes words word.Settle (reported.Settled (length words.owners) number) new = (number, place, given, there, is, found, refl, new_is) in
    let owners_is : new.owners ≡ words.owners ++ Holding number place ∷ [] = ap (λ (w : Zones). w.owners) new_is in
    let granted_is : new.granted ≡ words.granted = ap (λ (w : Zones). w.granted) new_is in
    let use_of : slice_get new.owners (length words.owners) ≡ Some (Holding number place) = ap (λ o. slice_get o (length words.owners)) owners_is ∙ get_push_new words.owners (Holding number place) (length words.owners) refl in
    let noted_is : new.noted ≡ words.noted = ap (λ (w : Zones). w.noted) new_is in
    let beside : Beside (length words.owners) new.owners keeping = subst (λ o. Beside (length words.owners) o keeping) (sym owners_is) (record {
      held = held_new words.owners (Holding number place) keeping.oldest can.oldest;
      apart = apart_new Weakly words.owners keeping.leaving can.leaving;
      all = all_push Weakly words.owners (Holding number place) keeping.leaving can.leaving;
      few = can.few;
    }) in
    on_by left words new (phase.Settle keeping) (phase.Keep (length words.owners) keeping) (omega (arith, enough)) (went words new (phase.Settle keeping) (reported.Settled (length words.owners) number) _ made_here refl)
    (keep_ends (left - 1) new cell (length words.owners) number place keeping (omega (arith, enough)) s (subst (λ n. n < grants) (sym granted_is) can.shares) (λ e. subst (λ n. n < notes) (sym noted_is) (can.notes_left e)) use_of beside)

swap_done : (left : ℕ) (words new : Zones) (cell : Cell Numbered) (keeping : Keeping) (event : WordEvent) → 62 ≤ left → Shows new cell → CanEnd words keeping → Makes words word.Swap event new → IsDone (steps_up_to left words (phase.Swap keeping)).0
swap_done left words new cell keeping event enough s can (place, last, is, within, number, told_is, new_is) =
    let at : new.publisher ≡ Settling last (slot_of words.latest) (given_of words.latest) = ap (λ (w : Zones). w.publisher) new_is in
    let has = settle_goes_on new cell last (slot_of words.latest) (given_of words.latest) s at in
    let shown = step_shows new has.1 word.Settle has.0 cell s has.2 in
    let still = can_keep words new keeping (ap (λ (w : Zones). w.owners) new_is) (ap (λ (w : Zones). w.granted) new_is) (ap (λ (w : Zones). w.noted) new_is) can in
    on_by left words new (phase.Swap keeping) (phase.Settle keeping) (omega (arith, enough)) (went words new (phase.Swap keeping) event _ (place, last, is, within, number, told_is, new_is) refl)
    (settle_done (left - 1) new has.1 shown.0 keeping has.0 (omega (arith, enough)) shown.2 still has.2)

prepare_done : (left : ℕ) (words new : Zones) (cell : Cell Numbered) (version : Numbered) (keeping : Keeping) (event : WordEvent) → 63 ≤ left → Shows new cell → CanEnd words keeping → Makes words (word.Prepare version) event new → IsDone (steps_up_to left words (phase.Prepare version keeping)).0
prepare_done left words new cell version keeping event enough s can (place, there, last, is, found, number, fits, told_is, new_is) =
    let at : new.publisher ≡ Swapping place = ap (λ (w : Zones). w.publisher) new_is in
    let has = swap_goes_on new cell place s at in
    let shown = step_shows new has.1 word.Swap has.0 cell s has.2 in
    let still = can_keep words new keeping (ap (λ (w : Zones). w.owners) new_is) (ap (λ (w : Zones). w.granted) new_is) (ap (λ (w : Zones). w.noted) new_is) can in
    on_by left words new (phase.Prepare version keeping) (phase.Swap keeping) (omega (arith, enough)) (went words new (phase.Prepare version keeping) event _ (place, there, last, is, found, number, fits, told_is, new_is) refl)
    (swap_done (left - 1) new has.1 shown.0 keeping has.0 (omega (arith, enough)) shown.2 still has.2)

prepare_ends : (left : ℕ) (words : Zones) (cell : Cell Numbered) (version : Numbered) (keeping : Keeping) (place : ℕ) → 63 ≤ left → Shows words cell → CanEnd words keeping → length cell.published < 2 ^ 64 → words.publisher ≡ Preparing place → IsDone (steps_up_to left words (phase.Prepare version keeping)).0
prepare_ends left words cell version keeping place enough s can few at =
    let has = prepare_goes_on words cell place version s at few in
    let shown = step_shows words has.1 (word.Prepare version) has.0 cell s has.2 in
    prepare_done left words has.1 shown.0 version keeping has.0 enough shown.2 can has.2

-- how far the publisher has come, behind a step
publisher_after : (new : Zones) (state : Zones) → new ≡ state → new.publisher ≡ state.publisher
publisher_after new state e = ap (λ (w : Zones). w.publisher) e

probe_done : (left : ℕ) (words new : Zones) (cell : Cell Numbered) (version : Numbered) (keeping : Keeping) (place : ℕ) (event : WordEvent) → 63 + (64 - place) ≤ left → place < slots → Shows new cell → CanEnd words keeping → length cell.published < 2 ^ 64 → words.publisher ≡ Probing place
    → Makes words word.Probe event new → ((next : ℕ) → new.publisher ≡ Probing next → CanEnd new keeping → 63 + (64 - next) ≤ left - 1 → IsDone (steps_up_to (left - 1) new (phase.Probe version keeping)).0) → IsDone (steps_up_to left words (phase.Probe version keeping)).0
probe_done left words new cell version keeping place event enough within s can few at (seen, there, is, found, m) goes =
    let same : seen ≡ place = (let e : Probing seen ≡ Probing place = sym is ∙ at in cc) in
    elim (cases_Bool (there.shares == free_word)) [
      | inl free ↦ (
          let h = rw free at m in
          let made_here : Makes words word.Probe reported.Taken new = (seen, there, is, found, rw free (refl, h.1)) in
          let still = can_keep words new keeping (ap (λ (w : Zones). w.owners) h.1) (ap (λ (w : Zones). w.granted) h.1) (ap (λ (w : Zones). w.noted) h.1) can in
          on_by left words new (phase.Probe version keeping) (phase.Prepare version keeping) (omega (arith, enough)) (went words new (phase.Probe version keeping) reported.Taken _ made_here refl)
          (prepare_ends (left - 1) new cell version keeping seen (omega (arith, enough, within)) s still few (publisher_after new _ h.1))
          )
      | inr isnt ↦ elim (eqb_tells (seen + 1) slots) [
        | inl all ↦ (
            let h = rw (isnt, all.0) at m in
            let made_here : Makes words word.Probe reported.NoSlot new = (seen, there, is, found, rw (isnt, all.0) (refl, h.1)) in
            done_by left words new (phase.Probe version keeping) _ (omega (arith, enough)) (went words new (phase.Probe version keeping) reported.NoSlot _ made_here refl) tt
            )
        | inr more ↦ (
            let h = rw (isnt, more.0) at m in
            let made_here : Makes words word.Probe reported.Passed new = (seen, there, is, found, rw (isnt, more.0) (refl, h.1)) in
            let still = can_keep words new keeping (ap (λ (w : Zones). w.owners) h.1) (ap (λ (w : Zones). w.granted) h.1) (ap (λ (w : Zones). w.noted) h.1) can in
            on_by left words new (phase.Probe version keeping) (phase.Probe version keeping) (omega (arith, enough)) (went words new (phase.Probe version keeping) reported.Passed _ made_here refl)
            (goes (seen + 1) (publisher_after new _ h.1) still (omega (arith, enough, within, same, more.1)))
            )
      ]
    ]

probing_within : (words : Zones) (cell : Cell Numbered) (place : ℕ) → Shows words cell → words.publisher ≡ Probing place → place < slots
probing_within words cell place s at = subst (λ p. PublisherIs cell s.plan words.granted p) at s.publisher_is

pub probe_ends : (left : ℕ) (words : Zones) (cell : Cell Numbered) (version : Numbered) (keeping : Keeping) (place : ℕ) → 63 + (64 - place) ≤ left → Shows words cell → CanEnd words keeping → length cell.published < 2 ^ 64 → words.publisher ≡ Probing place → IsDone (steps_up_to left words (phase.Probe version keeping)).0
probe_ends zero words cell version keeping place enough s can few at = absurd (omega (arith, enough))
probe_ends (suc left) words cell version keeping place enough s can few at =
    let has = probe_goes_on words cell place s at in
    let shown = step_shows words has.1 word.Probe has.0 cell s has.2 in
    let same : shown.0 ≡ cell = shown.1 in
    let still : Shows has.1 cell = subst (λ (c : Cell Numbered). Shows has.1 c) same shown.2 in
    let less : suc left - 1 ≡ left = omega arith in
    probe_done (suc left) words has.1 cell version keeping place has.0 enough (probing_within words cell place s at) still can few at has.2
    (λ next is ends room. rw less (probe_ends left has.1 cell version keeping next (omega (arith, room)) still ends few is))
