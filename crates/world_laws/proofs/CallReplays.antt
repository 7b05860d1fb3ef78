-- Calls as steps: what each step makes of the versions that a run publishes, and of the calls under way.
use Rattle.std.proofs.Common.{◌≡◌, ◌≢◌, refl, sym, ap, ◌∙◌, subst, ℕ, ◌+◌, Bool, true, false, ◌⊎◌, inl, inr, List, [], ◌∷◌, ◌++◌, arith, Option, Some, None}
use Rattle.std.specs.Prelude.{◌==◌, is_some, nat_lt, unwrap_or, if◌then◌else◌}
use Rattle.std.specs.List.{slice_get, slice_set}
use Rattle.std.specs.Option.{option_and_then}
use Rattle.std.proofs.lemmas.Bool.{cases_Bool}
use Rattle.std.proofs.lemmas.Bool.Decides.{eqb_tells}
use Rattle.std.proofs.lemmas.List.{map-append}
use Rattle.std.proofs.lemmas.Option.{slice_get_within}
use Rattle.cell_core.proofs.LawLemmas.{run_grows}
use Rattle.cell_core.proofs.OwnerLemmas.{Keeps as KeepsNumber, keeps_step}
use Rattle.cell_core.proofs.RunShows.{step_runs}
use Rattle.cell_core.proofs.SeatLemmas.{get_set_same, get_set_other}
use Rattle.cell_core.proofs.StepShows.{step_shows}
use Rattle.cell_core.specs.Cell.{Cell}
use Rattle.cell_core.specs.Shows.{Shows, PublisherIs, SlotIs, Phase as SlotPhase}
use Rattle.cell_core.specs.Words.{bulk, free_word, dead_word, fetch_add, fetch_sub, found_by, version_in}
use Rattle.cell_core.specs.WordSteps.{Makes, with_version, with_shares, with_weak_word}
use Rattle.cell_core.specs.declared.words.Publisher.TheVariants.{Swapping}
use Rattle.cell_core.specs.declared.words.Slot.{Slot}
use Rattle.cell_core.specs.declared.words.WordEvent.{WordEvent}
use Rattle.cell_core.specs.declared.words.WordEvent.TheVariants as reported
use Rattle.cell_core.specs.declared.words.WordStep.{WordStep}
use Rattle.cell_core.specs.declared.words.WordStep.TheVariants as word
use Rattle.dns_rdata.specs.Record.{Record}
use Rattle.dns_rdata.specs.declared.numbers.Serial.{Serial}
use Rattle.serve_core.specs.Heading.{heading_of_update}
use Rattle.serve_core.specs.declared.heading.Heading.{Heading}
use Rattle.update_core.specs.Act.{replay}
use Rattle.world_run.specs.declared.entries.Entry.{Entry}
use Rattle.world_run.specs.declared.sending.Seeking.{Seeking}
use Rattle.world_run.specs.declared.sending.Sending.{Sending}
use Rattle.world_run.specs.declared.phase.End.{End}
use Rattle.world_run.specs.declared.phase.End.TheVariants.{Owned, OwnedWeakly, Replied, NoSlot, Kept, Sent}
use Rattle.world_run.specs.declared.phase.Keeping.{Keeping}
use Rattle.world_run.specs.declared.phase.Phase.{Phase}
use Rattle.world_run.specs.declared.phase.Phase.TheVariants as phase
use Rattle.world_run.specs.declared.phase.Purpose.{Purpose}
use Rattle.world_run.specs.declared.phase.Purpose.TheVariants as purpose
use Rattle.world_run.specs.declared.phase.Progress.{Progress}
use Rattle.world_run.specs.declared.phase.Progress.TheVariants.{On, Done}
use Rattle.world_run.specs.declared.step.Answer.{Answer}
use Rattle.world_run.specs.declared.step.Answer.TheVariants as answer
use Rattle.zone_tree.specs.Version.{Version as Numbered, zone_serial}
use Rattle.world_run.specs.Phases.{word_step, after, past, gone, leaving_after, oldest_after, sent_after, completed, with_got, entry_of, gained_after, got_after, is_for_update, updates}
use Rattle.world_laws.specs.InTurn.{LeavesPublished}
use Rattle.world_laws.specs.Leads.{IsBuriedIn}
use Rattle.world_run.specs.World.{next}
use Rattle.world_laws.proofs.UseLists.{serial_of_entry, swaps_now, swapped_in}
pub use Rattle.world_laws.proofs.TellLemmas.{replay_more, MakesNext, Script, scripted, script, Ever, Placed, updates_in, IsFresh, IsNext, placed_next, AreInTurn, Zones, Tells, NoSwap, publishes_nothing, tells_same, SwapsNext, tells_swapped}

-- where a version is entered, it is with this serial
abbrev pub EntersAs : Option Serial → ℕ → Type 0
EntersAs None serial = Unit {0}
EntersAs (Some entering) serial = entering.0 ≡ serial

-- the serial of the last version
abbrev pub last_serial : List Record → List Placed → ℕ
last_serial first us = zone_serial (replay first (updates_in us))

-- an update behind its swap enters the last version
abbrev pub CoherentFor : List Record → List Placed → Purpose → Type 0
CoherentFor first us purpose.Drop = Unit {0}
CoherentFor first us (purpose.Publish keeping kept entry) = EntersAs (serial_of_entry entry) (last_serial first us)
CoherentFor first us (purpose.Oldest head kept entry leaving) = EntersAs (serial_of_entry entry) (last_serial first us)
CoherentFor first us (purpose.Leaves head kept entry leaving) = EntersAs (serial_of_entry entry) (last_serial first us)
CoherentFor first us (purpose.Sent sending owners) = Unit {0}

-- what a call under way is about to publish, and with which serial it enters that
abbrev pub Coherent : Script → List Record → List Placed → Zones → Phase → Type 0
Coherent S first us words (phase.Load name) = Unit {0}
Coherent S first us words (phase.Look name owner) = Unit {0}
Coherent S first us words (phase.Seek owner seeking) = Unit {0}
Coherent S first us words (phase.Gain owner seeking) = Unit {0}
Coherent S first us words (phase.Raise name owner) = Unit {0}
Coherent S first us words (phase.Note name owner) = Unit {0}
Coherent S first us words (phase.Probe version keeping) = IsNext S first us version × EntersAs keeping.enters (zone_serial version.zone)
Coherent S first us words (phase.Prepare version keeping) = IsNext S first us version × EntersAs keeping.enters (zone_serial version.zone)
Coherent S first us words (phase.Swap keeping) = (n : SwapsNext S first us words) × EntersAs keeping.enters (zone_serial n.version.zone)
Coherent S first us words (phase.Settle keeping) = EntersAs keeping.enters (last_serial first us)
Coherent S first us words (phase.Keep given keeping) = EntersAs keeping.enters (last_serial first us)
Coherent S first us words (phase.Enter given kept keeping) = EntersAs keeping.enters (last_serial first us)
Coherent S first us words (phase.Release owner for) = CoherentFor first us for
Coherent S first us words (phase.Bury owner for) = CoherentFor first us for
Coherent S first us words (phase.Fade owner number for) = CoherentFor first us for
Coherent S first us words (phase.Reset owner number for) = CoherentFor first us for
Coherent S first us words (phase.Free owner number for) = CoherentFor first us for

-- a call that is no update is about to publish nothing
no_update_for : (first : List Record) (us : List Placed) (for : Purpose) → is_for_update for ≡ false → CoherentFor first us for
no_update_for first us purpose.Drop e = tt
no_update_for first us (purpose.Publish keeping kept entry) e = absurd (let wrong = e in cc)
no_update_for first us (purpose.Oldest head kept entry leaving) e = absurd (let wrong = e in cc)
no_update_for first us (purpose.Leaves head kept entry leaving) e = absurd (let wrong = e in cc)
no_update_for first us (purpose.Sent sending owners) e = tt

pub no_update : (S : Script) (first : List Record) (us : List Placed) (words : Zones) (at : Phase) → updates at ≡ false → Coherent S first us words at
no_update S first us words (phase.Load name) e = tt
no_update S first us words (phase.Look name owner) e = tt
no_update S first us words (phase.Seek owner seeking) e = tt
no_update S first us words (phase.Gain owner seeking) e = tt
no_update S first us words (phase.Raise name owner) e = tt
no_update S first us words (phase.Note name owner) e = tt
no_update S first us words (phase.Probe version keeping) e = absurd (let wrong = e in cc)
no_update S first us words (phase.Prepare version keeping) e = absurd (let wrong = e in cc)
no_update S first us words (phase.Swap keeping) e = absurd (let wrong = e in cc)
no_update S first us words (phase.Settle keeping) e = absurd (let wrong = e in cc)
no_update S first us words (phase.Keep given keeping) e = absurd (let wrong = e in cc)
no_update S first us words (phase.Enter given kept keeping) e = absurd (let wrong = e in cc)
no_update S first us words (phase.Release owner for) e = no_update_for first us for e
no_update S first us words (phase.Bury owner for) e = no_update_for first us for e
no_update S first us words (phase.Fade owner number for) e = no_update_for first us for e
no_update S first us words (phase.Reset owner number for) e = no_update_for first us for e
no_update S first us words (phase.Free owner number for) e = no_update_for first us for e

-- an owner's step, or a load
abbrev pub OfOwner : WordStep Numbered → Type 0
OfOwner word.Load = Unit {0}
OfOwner word.Probe = ⊥
OfOwner (word.Prepare version) = ⊥
OfOwner word.Swap = ⊥
OfOwner word.Settle = ⊥
OfOwner (word.Release owner) = Unit {0}
OfOwner (word.Bury owner) = Unit {0}
OfOwner (word.Free owner) = Unit {0}
OfOwner (word.Look owner) = Unit {0}
OfOwner (word.Raise owner) = Unit {0}
OfOwner (word.Note owner) = Unit {0}
OfOwner (word.Fade owner) = Unit {0}
OfOwner (word.Reset owner) = Unit {0}

-- a slot whose version stays
version_stays : (words new : Zones) (place at : ℕ) (there other : Slot Numbered) → slice_get words.table at ≡ Some there → new.table ≡ slice_set words.table at other → other.version ≡ there.version → version_in new place ≡ version_in words place
version_stays words new place at there other found is same =
    elim (eqb_tells place at) [
      | inl here ↦ (
          let within = slice_get_within words.table at there found in
          let now : slice_get new.table place ≡ Some other = ap (λ t. slice_get t place) is ∙ ap (slice_get (slice_set words.table at other)) here.1 ∙ get_set_same words.table at other within in
          let before : slice_get words.table place ≡ Some there = ap (slice_get words.table) here.1 ∙ found in
          ap (option_and_then (λ (s : Slot Numbered). s.version)) now ∙ same ∙ sym (ap (option_and_then (λ (s : Slot Numbered). s.version)) before)
          )
      | inr apart ↦ ap (λ t. option_and_then (λ (s : Slot Numbered). s.version) (slice_get t place)) is ∙ ap (option_and_then (λ (s : Slot Numbered). s.version)) (get_set_other words.table at place other apart.1)
    ]

-- what lies in the slot of the publisher isn't buried
not_buried : (words : Zones) (cell : Cell Numbered) (place at : ℕ) (there : Slot Numbered) → Shows words cell → words.publisher ≡ Swapping place → slice_get words.table at ≡ Some there → there.shares ≡ 0 → place ≢ at
not_buried words cell place at there s publisher found none e =
    let is = subst (λ p. PublisherIs cell s.plan words.granted p) publisher s.publisher_is in
    let slot = s.table.slot_is at there found in
    let taken_at : s.plan.phase at ≡ SlotPhase.taken true = ap s.plan.phase (sym e) ∙ is.1 in
    let full = subst (λ p. SlotIs words cell s.plan at p there) taken_at slot in
    let wrong : bulk ≡ 0 = sym full.1 ∙ none in
    absurd (omega (arith, wrong))

swaps_kept : (S : Script) (first : List Record) (us : List Placed) (words new : Zones) → new.publisher ≡ words.publisher → ((place : ℕ) → words.publisher ≡ Swapping place → version_in new place ≡ version_in words place) → SwapsNext S first us words → SwapsNext S first us new
swaps_kept S first us words new same there n = record { place = n.place; number = n.number; version = n.version; publisher = same ∙ n.publisher; there = there n.place n.publisher ∙ n.there; is_next = n.is_next }

-- the publisher has come no further, and what it is to swap in lies there still
abbrev StillThere : Zones → Zones → Type 0
StillThere words new = (new.publisher ≡ words.publisher) × ((place : ℕ) → words.publisher ≡ Swapping place → version_in new place ≡ version_in words place)

bury_keeps_swap : (words new : Zones) (cell : Cell Numbered) (owner : ℕ) (event : WordEvent) → Shows words cell → Makes {T = Numbered} words (word.Bury owner) event new → StillThere words new
bury_keeps_swap words new cell owner event s (at, there, use_of, found, m) =
    elim (eqb_tells there.shares 0) [
      | inl none ↦ (
          let h = rw none.0 at m in
          let table_is : new.table ≡ slice_set words.table at (with_shares dead_word (with_version None there)) = ap (λ (w : Zones). w.table) h.3 in (
            (ap (λ (w : Zones). w.publisher) h.3),
            λ place publisher. let apart = not_buried words cell place at there s publisher found none.1 in
                ap (λ t. option_and_then (λ (x : Slot Numbered). x.version) (slice_get t place)) table_is ∙ ap (option_and_then (λ (x : Slot Numbered). x.version)) (get_set_other words.table at place _ apart),
          )
          )
      | inr some ↦ (
          let h = rw some.0 at m in
          ((ap (λ (w : Zones). w.publisher) h.1), λ place publisher. ap (λ (w : Zones). version_in w place) h.1)
          )
    ]

release_keeps_swap : (words new : Zones) (owner : ℕ) (event : WordEvent) → Makes {T = Numbered} words (word.Release owner) event new → StillThere words new
release_keeps_swap words new owner event (number, at, there, use_of, found, m) =
    elim (cases_Bool (fetch_sub there.shares 1 == 0)) [
      | inl none ↦ (
          let h = rw none at m in
          ((ap (λ (w : Zones). w.publisher) h.1), λ place publisher. version_stays words new place at there (with_shares 0 there) found (ap (λ (w : Zones). w.table) h.1) refl)
          )
      | inr some ↦ (
          let h = rw some at m in
          ((ap (λ (w : Zones). w.publisher) h.1), λ place publisher. version_stays words new place at there (with_shares (fetch_sub there.shares 1) there) found (ap (λ (w : Zones). w.table) h.1) refl)
          )
    ]

look_keeps_swap : (words new : Zones) (owner : ℕ) (event : WordEvent) → Makes {T = Numbered} words (word.Look owner) event new → StillThere words new
look_keeps_swap words new owner event (number, at, there, own, found, m) =
    elim (cases_Bool (nat_lt there.shares dead_word)) [
      | inl little ↦ (let h = rw little at m in ((ap (λ (w : Zones). w.publisher) h.1), (λ place publisher. ap (λ (w : Zones). version_in w place) h.1)))
      | inr great ↦ (let h = rw great at m in ((ap (λ (w : Zones). w.publisher) h.1), (λ place publisher. ap (λ (w : Zones). version_in w place) h.1)))
    ]

raise_keeps_swap : (words new : Zones) (owner : ℕ) (event : WordEvent) → Makes {T = Numbered} words (word.Raise owner) event new → StillThere words new
raise_keeps_swap words new owner event (number, at, there, own, found, room, m) =
    elim (cases_Bool (nat_lt there.shares dead_word)) [
      | inl little ↦ (let h = rw little at m in ((ap (λ (w : Zones). w.publisher) h.1), (λ place publisher. version_stays words new place at there (with_shares (fetch_add there.shares 1) there) found (ap (λ (w : Zones). w.table) h.1) refl)))
      | inr great ↦ (let h = rw great at m in ((ap (λ (w : Zones). w.publisher) h.1), (λ place publisher. version_stays words new place at there (with_shares (fetch_add there.shares 1) there) found (ap (λ (w : Zones). w.table) h.1) refl)))
    ]

fade_keeps_swap : (words new : Zones) (owner : ℕ) (event : WordEvent) → Makes {T = Numbered} words (word.Fade owner) event new → StillThere words new
fade_keeps_swap words new owner event (at, there, fades, found, m) =
    elim (cases_Bool (fetch_sub there.weak 1 == 0)) [
      | inl none ↦ (let h = rw none at m in ((ap (λ (w : Zones). w.publisher) h.1), (λ place publisher. version_stays words new place at there (with_weak_word 0 there) found (ap (λ (w : Zones). w.table) h.1) refl)))
      | inr some ↦ (let h = rw some at m in ((ap (λ (w : Zones). w.publisher) h.1), (λ place publisher. version_stays words new place at there (with_weak_word (fetch_sub there.weak 1) there) found (ap (λ (w : Zones). w.table) h.1) refl)))
    ]

owner_keeps_swap : (words new : Zones) (cell : Cell Numbered) (step : WordStep Numbered) (event : WordEvent) → OfOwner step → Shows words cell → Makes words step event new → StillThere words new
owner_keeps_swap words new cell word.Load event of s (number, found, few, told_is, new_is) =
    ((ap (λ (w : Zones). w.publisher) new_is), λ place publisher. ap (λ (w : Zones). version_in w place) new_is)
owner_keeps_swap words new cell word.Probe event of s m = absurd of
owner_keeps_swap words new cell (word.Prepare version) event of s m = absurd of
owner_keeps_swap words new cell word.Swap event of s m = absurd of
owner_keeps_swap words new cell word.Settle event of s m = absurd of
owner_keeps_swap words new cell (word.Release owner) event of s m = release_keeps_swap words new owner event m
owner_keeps_swap words new cell (word.Bury owner) event of s m = bury_keeps_swap words new cell owner event s m
owner_keeps_swap words new cell (word.Free owner) event of s (at, there, use_of, found, told_is, new_is) =
    ((ap (λ (w : Zones). w.publisher) new_is), λ place publisher. version_stays words new place at there (with_shares free_word there) found (ap (λ (w : Zones). w.table) new_is) refl)
owner_keeps_swap words new cell (word.Look owner) event of s m = look_keeps_swap words new owner event m
owner_keeps_swap words new cell (word.Raise owner) event of s m = raise_keeps_swap words new owner event m
owner_keeps_swap words new cell (word.Note owner) event of s (number, at, there, use_of, found, room, told_is, new_is) =
    ((ap (λ (w : Zones). w.publisher) new_is), λ place publisher. version_stays words new place at there (with_weak_word (fetch_add there.weak 1) there) found (ap (λ (w : Zones). w.table) new_is) refl)
owner_keeps_swap words new cell (word.Fade owner) event of s m = fade_keeps_swap words new owner event m
owner_keeps_swap words new cell (word.Reset owner) event of s (at, there, use_of, found, told_is, new_is) =
    ((ap (λ (w : Zones). w.publisher) new_is), λ place publisher. version_stays words new place at there (with_weak_word 1 there) found (ap (λ (w : Zones). w.table) new_is) refl)

owner_keeps : (S : Script) (first : List Record) (us : List Placed) (words new : Zones) (cell : Cell Numbered) (step : WordStep Numbered) (event : WordEvent) (other : Phase) → OfOwner step → Shows words cell → Makes words step event new → Coherent S first us words other → Coherent S first us new other
unfolding swaps_kept
owner_keeps S first us words new cell step event (phase.Load name) of s m c = tt
owner_keeps S first us words new cell step event (phase.Look name owner) of s m c = tt
owner_keeps S first us words new cell step event (phase.Seek owner seeking) of s m c = tt
owner_keeps S first us words new cell step event (phase.Gain owner seeking) of s m c = tt
owner_keeps S first us words new cell step event (phase.Raise name owner) of s m c = tt
owner_keeps S first us words new cell step event (phase.Note name owner) of s m c = tt
owner_keeps S first us words new cell step event (phase.Probe version keeping) of s m c = c
owner_keeps S first us words new cell step event (phase.Prepare version keeping) of s m c = c
owner_keeps S first us words new cell step event (phase.Swap keeping) of s m c = (let k = owner_keeps_swap words new cell step event of s m in (swaps_kept S first us words new k.0 k.1 c.0, c.1))
owner_keeps S first us words new cell step event (phase.Settle keeping) of s m c = c
owner_keeps S first us words new cell step event (phase.Keep given keeping) of s m c = c
owner_keeps S first us words new cell step event (phase.Enter given kept keeping) of s m c = c
owner_keeps S first us words new cell step event (phase.Release owner for) of s m c = c
owner_keeps S first us words new cell step event (phase.Bury owner for) of s m c = c
owner_keeps S first us words new cell step event (phase.Fade owner number for) of s m c = c
owner_keeps S first us words new cell step event (phase.Reset owner number for) of s m c = c
owner_keeps S first us words new cell step event (phase.Free owner number for) of s m c = c

-- a call that is no update takes such steps
pub of_owner : (at : Phase) → updates at ≡ false → OfOwner (word_step at)
of_owner (phase.Load name) e = tt
of_owner (phase.Look name owner) e = tt
of_owner (phase.Seek owner seeking) e = tt
of_owner (phase.Gain owner seeking) e = tt
of_owner (phase.Raise name owner) e = tt
of_owner (phase.Note name owner) e = tt
of_owner (phase.Probe version keeping) e = absurd (let wrong = e in cc)
of_owner (phase.Prepare version keeping) e = absurd (let wrong = e in cc)
of_owner (phase.Swap keeping) e = absurd (let wrong = e in cc)
of_owner (phase.Settle keeping) e = absurd (let wrong = e in cc)
of_owner (phase.Keep given keeping) e = absurd (let wrong = e in cc)
of_owner (phase.Enter given kept keeping) e = absurd (let wrong = e in cc)
of_owner (phase.Release owner for) e = tt
of_owner (phase.Bury owner for) e = tt
of_owner (phase.Fade owner number for) e = tt
of_owner (phase.Reset owner number for) e = tt
of_owner (phase.Free owner number for) e = tt

pub owner_no_swap : (step : WordStep Numbered) → OfOwner step → NoSwap step
owner_no_swap word.Load of = tt
owner_no_swap word.Probe of = absurd of
owner_no_swap (word.Prepare version) of = absurd of
owner_no_swap word.Swap of = absurd of
owner_no_swap word.Settle of = absurd of
owner_no_swap (word.Release owner) of = tt
owner_no_swap (word.Bury owner) of = tt
owner_no_swap (word.Free owner) of = tt
owner_no_swap (word.Look owner) of = tt
owner_no_swap (word.Raise owner) of = tt
owner_no_swap (word.Note owner) of = tt
owner_no_swap (word.Fade owner) of = tt
owner_no_swap (word.Reset owner) of = tt

-- what follows on a step of a call is of the same kind, and about to publish the same
abbrev pub EndsAs : List Record → List Placed → End → Type 0
EndsAs first us (Owned name owner number) = Unit {0}
EndsAs first us (OwnedWeakly name owner number) = Unit {0}
EndsAs first us (Replied given) = Unit {0}
EndsAs first us (NoSlot head) = Unit {0}
EndsAs first us (Kept head owner entry) = EntersAs (serial_of_entry entry) (last_serial first us)
EndsAs first us (Sent sending) = Unit {0}

abbrev pub Follows : Script → List Record → List Placed → Zones → Bool → Progress → Type 0
Follows S first us words kind (On next) = Coherent S first us words next × (updates next ≡ kind)
Follows S first us words kind (Done end) = EndsAs first us end

leaving_follows : (S : Script) (first : List Record) (us : List Placed) (words : Zones) (head : Heading) (kept : ℕ) (entry : Option Entry) (leaving : List ℕ) → EntersAs (serial_of_entry entry) (last_serial first us) → Follows S first us words true (leaving_after head kept entry leaving)
leaving_follows S first us words head kept entry [] c = c
leaving_follows S first us words head kept entry (owner ∷ leaving) c = (c, refl)

oldest_follows : (S : Script) (first : List Record) (us : List Placed) (words : Zones) (head : Heading) (kept : ℕ) (entry : Option Entry) (leaving : List ℕ) (oldest : Option ℕ) → EntersAs (serial_of_entry entry) (last_serial first us) → Follows S first us words true (oldest_after head kept entry leaving oldest)
oldest_follows S first us words head kept entry leaving None c = leaving_follows S first us words head kept entry leaving c
oldest_follows S first us words head kept entry leaving (Some owner) c = (c, refl)

sent_follows : (S : Script) (first : List Record) (us : List Placed) (words : Zones) (sending : Sending) (got : List ℕ) → Follows S first us words false (sent_after sending got)
sent_follows S first us words sending [] = tt
sent_follows S first us words sending (owner ∷ got) = (tt, refl)

past_follows : (S : Script) (first : List Record) (us : List Placed) (words : Zones) (owner : ℕ) (for : Purpose) (given : Answer) → CoherentFor first us for → Follows S first us words (updates (phase.Release owner for)) (past for given)
past_follows S first us words owner purpose.Drop given c = tt
past_follows S first us words owner (purpose.Publish keeping kept entry) given c = oldest_follows S first us words keeping.heading kept entry keeping.leaving keeping.oldest c
past_follows S first us words owner (purpose.Oldest head kept entry leaving) given c = leaving_follows S first us words head kept entry leaving c
past_follows S first us words owner (purpose.Leaves head kept entry leaving) given c = leaving_follows S first us words head kept entry leaving c
past_follows S first us words owner (purpose.Sent sending got) given c = sent_follows S first us words sending got

load_follows : (S : Script) (first : List Record) (us : List Placed) (words : Zones) (name : List ℕ) (event : WordEvent) → Follows S first us words false (after words (phase.Load name) event)
load_follows S first us words name (reported.Loaded owner number) = tt
load_follows S first us words name reported.Passed = (tt, refl)
load_follows S first us words name reported.Taken = (tt, refl)
load_follows S first us words name reported.NoSlot = (tt, refl)
load_follows S first us words name reported.Prepared = (tt, refl)
load_follows S first us words name (reported.Swapped number) = (tt, refl)
load_follows S first us words name (reported.Settled owner number) = (tt, refl)
load_follows S first us words name reported.Left = (tt, refl)
load_follows S first us words name reported.Emptied = (tt, refl)
load_follows S first us words name (reported.Buried number) = (tt, refl)
load_follows S first us words name reported.Kept = (tt, refl)
load_follows S first us words name reported.Freed = (tt, refl)
load_follows S first us words name reported.Alive = (tt, refl)
load_follows S first us words name reported.Dead = (tt, refl)
load_follows S first us words name (reported.Raised owner number) = (tt, refl)
load_follows S first us words name (reported.Noted owner number) = (tt, refl)
load_follows S first us words name reported.Faded = (tt, refl)
load_follows S first us words name reported.Closed = (tt, refl)
load_follows S first us words name reported.Restored = (tt, refl)

look_follows : (S : Script) (first : List Record) (us : List Placed) (words : Zones) (name : List ℕ) (owner : ℕ) (event : WordEvent) → Follows S first us words false (after words (phase.Look name owner) event)
look_follows S first us words name owner reported.Alive = (tt, refl)
look_follows S first us words name owner reported.Dead = tt
look_follows S first us words name owner event = (tt, refl)

raise_follows : (S : Script) (first : List Record) (us : List Placed) (words : Zones) (name : List ℕ) (owner : ℕ) (event : WordEvent) → Follows S first us words false (after words (phase.Raise name owner) event)
raise_follows S first us words name owner (reported.Raised next number) = tt
raise_follows S first us words name owner reported.Dead = tt
raise_follows S first us words name owner event = (tt, refl)

note_follows : (S : Script) (first : List Record) (us : List Placed) (words : Zones) (name : List ℕ) (owner : ℕ) (event : WordEvent) → Follows S first us words false (after words (phase.Note name owner) event)
note_follows S first us words name owner (reported.Noted next number) = tt
note_follows S first us words name owner event = (tt, refl)

probe_follows : (S : Script) (first : List Record) (us : List Placed) (words : Zones) (version : Numbered) (keeping : Keeping) → IsNext S first us version × EntersAs keeping.enters (zone_serial version.zone) → (event : WordEvent) → Follows S first us words true (after words (phase.Probe version keeping) event)
probe_follows S first us words version keeping n (reported.Loaded owner number) = (n, refl)
probe_follows S first us words version keeping n reported.Passed = (n, refl)
probe_follows S first us words version keeping n reported.Taken = (n, refl)
probe_follows S first us words version keeping n reported.NoSlot = tt
probe_follows S first us words version keeping n reported.Prepared = (n, refl)
probe_follows S first us words version keeping n (reported.Swapped number) = (n, refl)
probe_follows S first us words version keeping n (reported.Settled owner number) = (n, refl)
probe_follows S first us words version keeping n reported.Left = (n, refl)
probe_follows S first us words version keeping n reported.Emptied = (n, refl)
probe_follows S first us words version keeping n (reported.Buried number) = (n, refl)
probe_follows S first us words version keeping n reported.Kept = (n, refl)
probe_follows S first us words version keeping n reported.Freed = (n, refl)
probe_follows S first us words version keeping n reported.Alive = (n, refl)
probe_follows S first us words version keeping n reported.Dead = (n, refl)
probe_follows S first us words version keeping n (reported.Raised owner number) = (n, refl)
probe_follows S first us words version keeping n (reported.Noted owner number) = (n, refl)
probe_follows S first us words version keeping n reported.Faded = (n, refl)
probe_follows S first us words version keeping n reported.Closed = (n, refl)
probe_follows S first us words version keeping n reported.Restored = (n, refl)

settle_follows : (S : Script) (first : List Record) (us : List Placed) (words : Zones) (keeping : Keeping) → EntersAs keeping.enters (last_serial first us) → (event : WordEvent) → Follows S first us words true (after words (phase.Settle keeping) event)
settle_follows S first us words keeping c (reported.Loaded owner number) = (c, refl)
settle_follows S first us words keeping c reported.Passed = (c, refl)
settle_follows S first us words keeping c reported.Taken = (c, refl)
settle_follows S first us words keeping c reported.NoSlot = (c, refl)
settle_follows S first us words keeping c reported.Prepared = (c, refl)
settle_follows S first us words keeping c (reported.Swapped number) = (c, refl)
settle_follows S first us words keeping c (reported.Settled owner number) = (c, refl)
settle_follows S first us words keeping c reported.Left = (c, refl)
settle_follows S first us words keeping c reported.Emptied = (c, refl)
settle_follows S first us words keeping c (reported.Buried number) = (c, refl)
settle_follows S first us words keeping c reported.Kept = (c, refl)
settle_follows S first us words keeping c reported.Freed = (c, refl)
settle_follows S first us words keeping c reported.Alive = (c, refl)
settle_follows S first us words keeping c reported.Dead = (c, refl)
settle_follows S first us words keeping c (reported.Raised owner number) = (c, refl)
settle_follows S first us words keeping c (reported.Noted owner number) = (c, refl)
settle_follows S first us words keeping c reported.Faded = (c, refl)
settle_follows S first us words keeping c reported.Closed = (c, refl)
settle_follows S first us words keeping c reported.Restored = (c, refl)

entered_follows : (S : Script) (first : List Record) (us : List Placed) (words : Zones) (given : ℕ) (keeping : Keeping) (owner : ℕ) (enters : Bool) → EntersAs keeping.enters (last_serial first us)
    → Follows S first us words true (if enters then On (phase.Enter given owner keeping) else On (phase.Release given (purpose.Publish keeping owner None)))
entered_follows S first us words given keeping owner true c = (c, refl)
entered_follows S first us words given keeping owner false c = (tt, refl)

keep_follows : (S : Script) (first : List Record) (us : List Placed) (words : Zones) (given : ℕ) (keeping : Keeping) → EntersAs keeping.enters (last_serial first us) → (event : WordEvent) → Follows S first us words true (after words (phase.Keep given keeping) event)
keep_follows S first us words given keeping c (reported.Loaded owner number) = entered_follows S first us words given keeping owner (is_some keeping.enters) c
keep_follows S first us words given keeping c event = (c, refl)

entry_enters : (number owner serial : ℕ) (o : Option Serial) → EntersAs o serial → EntersAs (serial_of_entry (entry_of o number owner)) serial
entry_enters number owner serial None c = tt
entry_enters number owner serial (Some entering) c = c

enter_follows : (S : Script) (first : List Record) (us : List Placed) (words : Zones) (given kept : ℕ) (keeping : Keeping) → EntersAs keeping.enters (last_serial first us) → (event : WordEvent) → Follows S first us words true (after words (phase.Enter given kept keeping) event)
enter_follows S first us words given kept keeping c (reported.Noted owner number) = (entry_enters number owner (last_serial first us) keeping.enters c, refl)
enter_follows S first us words given kept keeping c event = (c, refl)

seek_follows : (S : Script) (first : List Record) (us : List Placed) (words : Zones) (owner : ℕ) (seeking : Seeking) (event : WordEvent) → Follows S first us words false (after words (phase.Seek owner seeking) event)
seek_follows S first us words owner seeking reported.Alive = (tt, refl)
seek_follows S first us words owner seeking reported.Dead = sent_follows S first us words seeking.sending seeking.owners
seek_follows S first us words owner seeking event = (tt, refl)

gained_follows : (S : Script) (first : List Record) (us : List Placed) (words : Zones) (seeking : Seeking) (left : List ℕ) → Follows S first us words false (gained_after seeking left)
gained_follows S first us words seeking [] = sent_follows S first us words (completed seeking.sending) seeking.owners
gained_follows S first us words seeking (owner ∷ left) = (tt, refl)

got_follows : (S : Script) (first : List Record) (us : List Placed) (words : Zones) (owner : ℕ) (seeking : Seeking) (next : ℕ) (found : Option Numbered) → Follows S first us words false (got_after owner seeking next found)
got_follows S first us words owner seeking next None = (tt, refl)
got_follows S first us words owner seeking next (Some version) = gained_follows S first us words (with_got next version seeking) seeking.left

gain_follows : (S : Script) (first : List Record) (us : List Placed) (words : Zones) (owner : ℕ) (seeking : Seeking) (event : WordEvent) → Follows S first us words false (after words (phase.Gain owner seeking) event)
gain_follows S first us words owner seeking (reported.Raised next number) = got_follows S first us words owner seeking next (found_by words next)
gain_follows S first us words owner seeking reported.Dead = sent_follows S first us words seeking.sending seeking.owners
gain_follows S first us words owner seeking event = (tt, refl)

release_follows : (S : Script) (first : List Record) (us : List Placed) (words : Zones) (at : ℕ) (for : Purpose) → CoherentFor first us for → (event : WordEvent) → Follows S first us words (updates (phase.Release at for)) (after words (phase.Release at for) event)
release_follows S first us words at for c (reported.Loaded owner number) = past_follows S first us words at for answer.Left c
release_follows S first us words at for c reported.Passed = past_follows S first us words at for answer.Left c
release_follows S first us words at for c reported.Taken = past_follows S first us words at for answer.Left c
release_follows S first us words at for c reported.NoSlot = past_follows S first us words at for answer.Left c
release_follows S first us words at for c reported.Prepared = past_follows S first us words at for answer.Left c
release_follows S first us words at for c (reported.Swapped number) = past_follows S first us words at for answer.Left c
release_follows S first us words at for c (reported.Settled owner number) = past_follows S first us words at for answer.Left c
release_follows S first us words at for c reported.Left = past_follows S first us words at for answer.Left c
release_follows S first us words at for c reported.Emptied = (c, refl)
release_follows S first us words at for c (reported.Buried number) = past_follows S first us words at for answer.Left c
release_follows S first us words at for c reported.Kept = past_follows S first us words at for answer.Left c
release_follows S first us words at for c reported.Freed = past_follows S first us words at for answer.Left c
release_follows S first us words at for c reported.Alive = past_follows S first us words at for answer.Left c
release_follows S first us words at for c reported.Dead = past_follows S first us words at for answer.Left c
release_follows S first us words at for c (reported.Raised owner number) = past_follows S first us words at for answer.Left c
release_follows S first us words at for c (reported.Noted owner number) = past_follows S first us words at for answer.Left c
release_follows S first us words at for c reported.Faded = past_follows S first us words at for answer.Left c
release_follows S first us words at for c reported.Closed = past_follows S first us words at for answer.Left c
release_follows S first us words at for c reported.Restored = past_follows S first us words at for answer.Left c

bury_follows : (S : Script) (first : List Record) (us : List Placed) (words : Zones) (at : ℕ) (for : Purpose) → CoherentFor first us for → (event : WordEvent) → Follows S first us words (updates (phase.Bury at for)) (after words (phase.Bury at for) event)
bury_follows S first us words at for c (reported.Loaded owner number) = past_follows S first us words at for answer.Left c
bury_follows S first us words at for c reported.Passed = past_follows S first us words at for answer.Left c
bury_follows S first us words at for c reported.Taken = past_follows S first us words at for answer.Left c
bury_follows S first us words at for c reported.NoSlot = past_follows S first us words at for answer.Left c
bury_follows S first us words at for c reported.Prepared = past_follows S first us words at for answer.Left c
bury_follows S first us words at for c (reported.Swapped number) = past_follows S first us words at for answer.Left c
bury_follows S first us words at for c (reported.Settled owner number) = past_follows S first us words at for answer.Left c
bury_follows S first us words at for c reported.Left = past_follows S first us words at for answer.Left c
bury_follows S first us words at for c reported.Emptied = past_follows S first us words at for answer.Left c
bury_follows S first us words at for c (reported.Buried number) = (c, refl)
bury_follows S first us words at for c reported.Kept = past_follows S first us words at for answer.Left c
bury_follows S first us words at for c reported.Freed = past_follows S first us words at for answer.Left c
bury_follows S first us words at for c reported.Alive = past_follows S first us words at for answer.Left c
bury_follows S first us words at for c reported.Dead = past_follows S first us words at for answer.Left c
bury_follows S first us words at for c (reported.Raised owner number) = past_follows S first us words at for answer.Left c
bury_follows S first us words at for c (reported.Noted owner number) = past_follows S first us words at for answer.Left c
bury_follows S first us words at for c reported.Faded = past_follows S first us words at for answer.Left c
bury_follows S first us words at for c reported.Closed = past_follows S first us words at for answer.Left c
bury_follows S first us words at for c reported.Restored = past_follows S first us words at for answer.Left c

fade_follows : (S : Script) (first : List Record) (us : List Placed) (words : Zones) (at : ℕ) (number : Option ℕ) (for : Purpose) → CoherentFor first us for → (event : WordEvent) → Follows S first us words (updates (phase.Fade at number for)) (after words (phase.Fade at number for) event)
fade_follows S first us words at number for c reported.Closed = (c, refl)
fade_follows S first us words at number for c event = past_follows S first us words at for (gone number) c

-- a step leaves the updates so far, and the versions that are published, as they were; or it is the swap of an update, which is the next
abbrev pub Grown : Script → List Placed → List Placed → Zones → Zones → Phase → Type 0
Grown S us later words new at =
    ((later ≡ us) × (swaps_now at ≡ 0) × LeavesPublished words new)
    ⊎ ((one : Placed) × (later ≡ us ++ one ∷ []) × (swaps_now at ≡ 1) × (swapped_in at ≡ 0) × S.by one.place (heading_of_update one.update))

leaves_step : (words new : Zones) (step : WordStep Numbered) (event : WordEvent) → NoSwap step → Makes words step event new → LeavesPublished words new
leaves_step words new step event apart m cell s =
    let shown = step_shows words new step event cell s m in
    (shown.0, shown.2, publishes_nothing words new step event cell shown.0 apart m shown.1)

none_now : (at : Phase) → NoSwap (word_step at) → swaps_now at ≡ 0
none_now (phase.Load name) apart = refl
none_now (phase.Look name owner) apart = refl
none_now (phase.Seek owner seeking) apart = refl
none_now (phase.Gain owner seeking) apart = refl
none_now (phase.Raise name owner) apart = refl
none_now (phase.Note name owner) apart = refl
none_now (phase.Probe version keeping) apart = refl
none_now (phase.Prepare version keeping) apart = refl
none_now (phase.Swap keeping) apart = absurd apart
none_now (phase.Settle keeping) apart = refl
none_now (phase.Keep given keeping) apart = refl
none_now (phase.Enter given kept keeping) apart = refl
none_now (phase.Release owner for) apart = refl
none_now (phase.Bury owner for) apart = refl
none_now (phase.Fade owner number for) apart = refl
none_now (phase.Reset owner number for) apart = refl
none_now (phase.Free owner number for) apart = refl

-- each owner has the number that it had, and what is buried stays so
pub record Further (words later : Zones) : Type 0 where
  pub numbers : (owner number : ℕ) → KeepsNumber words.owners owner number → KeepsNumber later.owners owner number
  pub buried : (number : ℕ) → IsBuriedIn words number → IsBuriedIn later number

pub further_none : (words : Zones) → Further words words
further_none words = record { numbers = λ owner number k. k; buried = λ number b. b }

pub further_on : (words between later : Zones) → Further words between → Further between later → Further words later
further_on words between later one two = record { numbers = λ owner number k. two.numbers owner number (one.numbers owner number k); buried = λ number b. two.buried number (one.buried number b) }

pub further_step : (words new : Zones) (step : WordStep Numbered) (event : WordEvent) → Makes words step event new → Further words new
further_step words new step event m = record {
  numbers = λ owner number k. keeps_step words new step event owner number m k;
  buried = λ number b. (
      let shown = step_shows words new step event b.0 b.1 m in
      let short = step_runs words step event b.0 shown.0 shown.1 in
      (shown.0, shown.2, (run_grows b.0 shown.0 short.steps short.runs).buried number b.2)
      );
}

-- the words and the updates behind a step of a call, with what the call is about to publish
pub record Behind (S : Script) (first : List Record) (us : List Placed) (words new : Zones) (at : Phase) (progress : Progress) : Type 0 where
  pub later : List Placed
  pub tells : Tells S first new later
  pub follows : Follows S first later new (updates at) progress
  pub others : (other : Phase) → (updates at ≡ true → updates other ≡ false) → Coherent S first us words other → Coherent S first later new other
  pub grown : Grown S us later words new at
  pub further : Further words new

-- a step of an update leaves what is no update
others_none : (S : Script) (first : List Record) (us later : List Placed) (words new : Zones) (other : Phase) → updates other ≡ false → Coherent S first us words other → Coherent S first later new other
others_none S first us later words new other e c = no_update S first later new other e

prepared_next : (S : Script) (first : List Record) (us : List Placed) (words new : Zones) (version : Numbered) (event : WordEvent) → IsNext S first us version → Makes {T = Numbered} words (word.Prepare version) event new → SwapsNext S first us new
prepared_next S first us words new version event n (place, there, last, is, found, number, fits, told_is, new_is) =
    let within = slice_get_within words.table place there found in
    let put : Slot Numbered = with_shares bulk (with_version (Some (record { number = last + 1; value = version })) there) in
    let here : slice_get new.table place ≡ Some put = ap (λ (w : Zones). slice_get w.table place) new_is ∙ get_set_same words.table place put within in
    record { place = place; number = last + 1; version = version; publisher = ap (λ (w : Zones). w.publisher) new_is; there = ap (option_and_then (λ (s : Slot Numbered). s.version)) here; is_next = n }

prepared : (S : Script) (first : List Record) (us : List Placed) (words new : Zones) (version : Numbered) (keeping : Keeping) (event : WordEvent) → IsNext S first us version × EntersAs keeping.enters (zone_serial version.zone) → Makes {T = Numbered} words (word.Prepare version) event new → Coherent S first us new (phase.Swap keeping)
unfolding prepared_next
prepared S first us words new version keeping event c m = (prepared_next S first us words new version event c.0 m, c.1)

-- a step that is no swap, of an update
behind_update : (S : Script) (first : List Record) (us : List Placed) (words new : Zones) (at : Phase) (event : WordEvent) → NoSwap (word_step at) → updates at ≡ true → Makes words (word_step at) event new → Tells S first words us → Follows S first us new (updates at) (after new at event)
    → Behind S first us words new at (after new at event)
behind_update S first us words new at event apart is m t follows = record { later = us; tells = tells_same S first words new us (word_step at) event apart m t; follows = follows; others = λ other alone c. others_none S first us us words new other (alone is) c; grown = inl (refl, none_now at apart, leaves_step words new (word_step at) event apart m); further = further_step words new (word_step at) event m }

-- a step that is no update's
behind_owner : (S : Script) (first : List Record) (us : List Placed) (words new : Zones) (at : Phase) (event : WordEvent) → OfOwner (word_step at) → Makes words (word_step at) event new → Tells S first words us → Follows S first us new (updates at) (after new at event)
    → Behind S first us words new at (after new at event)
behind_owner S first us words new at event of m t follows =
    record { later = us; tells = tells_same S first words new us (word_step at) event (owner_no_swap (word_step at) of) m t; follows = follows; others = λ other alone c. owner_keeps S first us words new t.cell (word_step at) event other of t.shows m c; grown = inl (refl, none_now at (owner_no_swap (word_step at) of), leaves_step words new (word_step at) event (owner_no_swap (word_step at) of) m); further = further_step words new (word_step at) event m }

-- the version that is swapped in is the last then
last_swapped : (S : Script) (first : List Record) (us : List Placed) (version : Numbered) (n : IsNext S first us version) → zone_serial version.zone ≡ last_serial first (us ++ placed_next S first us version n ∷ [])
last_swapped S first us version n =
    let all = map-append (λ (one : Placed). one.update) us (placed_next S first us version n ∷ []) in
    let made : replay first (updates_in us ++ n.makes.update ∷ []) ≡ version.zone = replay_more first (updates_in us) n.makes.update ∙ ap (λ o. unwrap_or o (replay first (updates_in us))) n.makes.accepted.made in
    ap zone_serial (sym (ap (replay first) all ∙ made))

behind_swap : (S : Script) (first : List Record) (us : List Placed) (words new : Zones) (keeping : Keeping) (event : WordEvent) → (n : SwapsNext S first us words) → EntersAs keeping.enters (zone_serial n.version.zone) → Makes {T = Numbered} words word.Swap event new → Tells S first words us
    → Behind S first us words new (phase.Swap keeping) (after new (phase.Swap keeping) event)
behind_swap S first us words new keeping event n enters m t =
    let later = us ++ placed_next S first us n.version n.is_next ∷ [] in
    record {
      later = later;
      tells = tells_swapped S first words new us event n m t;
      follows = (subst (EntersAs keeping.enters) (last_swapped S first us n.version n.is_next) enters, refl);
      others = λ other alone c. others_none S first us later words new other (alone refl) c;
      grown = inr (placed_next S first us n.version n.is_next, refl, refl, refl, n.is_next.mine);
      further = further_step words new word.Swap event m;
    }

pub behind : (S : Script) (first : List Record) (us : List Placed) (words new : Zones) (at : Phase) (event : WordEvent) → Makes words (word_step at) event new → Tells S first words us → Coherent S first us words at → Behind S first us words new at (after new at event)
behind S first us words new (phase.Load name) event m t c = behind_owner S first us words new (phase.Load name) event tt m t (load_follows S first us new name event)
behind S first us words new (phase.Look name owner) event m t c = behind_owner S first us words new (phase.Look name owner) event tt m t (look_follows S first us new name owner event)
behind S first us words new (phase.Seek owner seeking) event m t c = behind_owner S first us words new (phase.Seek owner seeking) event tt m t (seek_follows S first us new owner seeking event)
behind S first us words new (phase.Gain owner seeking) event m t c = behind_owner S first us words new (phase.Gain owner seeking) event tt m t (gain_follows S first us new owner seeking event)
behind S first us words new (phase.Raise name owner) event m t c = behind_owner S first us words new (phase.Raise name owner) event tt m t (raise_follows S first us new name owner event)
behind S first us words new (phase.Note name owner) event m t c = behind_owner S first us words new (phase.Note name owner) event tt m t (note_follows S first us new name owner event)
behind S first us words new (phase.Probe version keeping) event m t c = behind_update S first us words new (phase.Probe version keeping) event tt refl m t (probe_follows S first us new version keeping c event)
behind S first us words new (phase.Prepare version keeping) event m t c = behind_update S first us words new (phase.Prepare version keeping) event tt refl m t (prepared S first us words new version keeping event c m, refl)
behind S first us words new (phase.Swap keeping) event m t c = behind_swap S first us words new keeping event c.0 c.1 m t
behind S first us words new (phase.Settle keeping) event m t c = behind_update S first us words new (phase.Settle keeping) event tt refl m t (settle_follows S first us new keeping c event)
behind S first us words new (phase.Keep given keeping) event m t c = behind_update S first us words new (phase.Keep given keeping) event tt refl m t (keep_follows S first us new given keeping c event)
behind S first us words new (phase.Enter given kept keeping) event m t c = behind_update S first us words new (phase.Enter given kept keeping) event tt refl m t (enter_follows S first us new given kept keeping c event)
behind S first us words new (phase.Release at for) event m t c = behind_owner S first us words new (phase.Release at for) event tt m t (release_follows S first us new at for c event)
behind S first us words new (phase.Bury at for) event m t c = behind_owner S first us words new (phase.Bury at for) event tt m t (bury_follows S first us new at for c event)
behind S first us words new (phase.Fade at number for) event m t c = behind_owner S first us words new (phase.Fade at number for) event tt m t (fade_follows S first us new at number for c event)
behind S first us words new (phase.Reset at number for) event m t c = behind_owner S first us words new (phase.Reset at number for) event tt m t (c, refl)
behind S first us words new (phase.Free at number for) event m t c = behind_owner S first us words new (phase.Free at number for) event tt m t (past_follows S first us new at for (gone number) c)
