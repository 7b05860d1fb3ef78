-- How far a call has come with its swap, behind a step, and what the reply to an update repeats.
use Rattle.std.proofs.Common.{◌≡◌, refl, sym, ap, ◌∙◌, subst, ℕ, ◌+◌, Bool, inl, inr, true, false, List, [], ◌∷◌, arith, Option, Some, None}
use Rattle.std.specs.Prelude.{is_some, if◌then◌else◌}
use Rattle.std.specs.Option.{option_map}
use Rattle.cell_core.proofs.MadeLemmas.{made_makes}
use Rattle.cell_core.specs.Made.{made}
use Rattle.cell_core.specs.Words.{State, found_by}
use Rattle.cell_core.specs.WordSteps.{Makes}
use Rattle.cell_core.specs.declared.words.WordEvent.{WordEvent}
use Rattle.cell_core.specs.declared.words.WordEvent.TheVariants as reported
use Rattle.dns_rdata.specs.Record.{Record}
use Rattle.serve_core.specs.declared.heading.Heading.{Heading}
use Rattle.world_run.specs.declared.phase.Phase.{Phase}
use Rattle.world_run.specs.declared.phase.Progress.{Progress}
use Rattle.world_run.specs.declared.phase.Progress.TheVariants.{On, Done}
use Rattle.zone_tree.specs.Version.{Version as Numbered}
use Rattle.world_run.specs.Phases.{word_step, after, past, leaving_after, oldest_after, sent_after, completed, with_got, gained_after, got_after, is_for_update, updates, gone}
use Rattle.world_laws.specs.UpdateAnswers.{heading_of, KeepsHeading}
use Rattle.world_run.specs.declared.phase.End.{End}
use Rattle.world_run.specs.declared.phase.End.TheVariants.{Owned, OwnedWeakly, Replied, NoSlot, Kept, Sent}
use Rattle.world_run.specs.declared.entries.Entry.{Entry}
use Rattle.world_run.specs.declared.sending.Seeking.{Seeking}
use Rattle.world_run.specs.declared.sending.Sending.{Sending}
use Rattle.world_run.specs.declared.phase.Keeping.{Keeping}
use Rattle.world_run.specs.declared.phase.Phase.TheVariants as phase
use Rattle.world_run.specs.declared.phase.Purpose.{Purpose}
use Rattle.world_run.specs.declared.phase.Purpose.TheVariants as purpose
use Rattle.world_run.specs.declared.step.Answer.{Answer}
use Rattle.world_run.specs.declared.step.Answer.TheVariants as answer
use Rattle.world_laws.proofs.AnswerLemmas.{keeps_head}
use Rattle.world_laws.proofs.UseLists.{swapped_for, swapped_in, swapped_at, swaps_now}
use Rattle.world_run.specs.World.{step_once, next}
use Rattle.world_laws.proofs.CallReplays.{Script, Placed, Zones, Tells, Coherent, Behind, behind}

-- a step of a call, as one of the words
pub record StepOf (words : Zones) (at : Phase) (progress : Progress) (new : Zones) : Type 0 where
  pub event : WordEvent
  pub makes : Makes words (word_step at) event new
  pub goes : after new at event ≡ progress

pub step_by : (words new : Zones) (at : Phase) (progress : Progress) (o : Option (WordEvent × State Numbered)) → made words (word_step at) ≡ o → option_map {U = Progress × State Numbered} (λ t. (after t.1 at t.0, t.1)) o ≡ Some (progress, new) → StepOf words at progress new
step_by words new at progress None e is = absurd (let wrong = is in cc)
step_by words new at progress (Some t) e is =
    let pair : (after t.1 at t.0, t.1) ≡ (progress, new) = (let i = is in cc) in
    let same : t.1 ≡ new = ap (λ (p : Progress × State Numbered). p.1) pair in
    record { event = t.0; makes = subst (λ s. Makes words (word_step at) t.0 s) same (made_makes words t.1 (word_step at) t.0 e); goes = subst (λ s. after s at t.0 ≡ progress) same (ap (λ (p : Progress × State Numbered). p.0) pair) }

pub behind_once : (S : Script) (first : List Record) (us : List Placed) (words new : Zones) (at : Phase) (progress : Progress) → step_once words at ≡ Some (progress, new) → Tells S first words us → Coherent S first us words at → Behind S first us words new at progress
behind_once S first us words new at progress e t c =
    let one = step_by words new at progress (made words (word_step at)) refl e in
    subst (λ p. Behind S first us words new at p) one.goes (behind S first us words new at one.event one.makes t c)

-- whether an update has made its swap, behind a step
leaving_swapped : (head : Heading) (kept : ℕ) (entry : Option Entry) (leaving : List ℕ) → swapped_at (leaving_after head kept entry leaving) ≡ 1
leaving_swapped head kept entry [] = refl
leaving_swapped head kept entry (owner ∷ leaving) = refl

oldest_swapped : (head : Heading) (kept : ℕ) (entry : Option Entry) (leaving : List ℕ) (oldest : Option ℕ) → swapped_at (oldest_after head kept entry leaving oldest) ≡ 1
oldest_swapped head kept entry leaving None = leaving_swapped head kept entry leaving
oldest_swapped head kept entry leaving (Some owner) = refl

sent_swapped : (sending : Sending) (got : List ℕ) → swapped_at (sent_after sending got) ≡ 0
sent_swapped sending [] = refl
sent_swapped sending (owner ∷ got) = refl

past_swapped : (for : Purpose) (given : Answer) → swapped_at (past for given) ≡ swapped_for for
past_swapped purpose.Drop given = refl
past_swapped (purpose.Publish keeping kept entry) given = oldest_swapped keeping.heading kept entry keeping.leaving keeping.oldest
past_swapped (purpose.Oldest head kept entry leaving) given = leaving_swapped head kept entry leaving
past_swapped (purpose.Leaves head kept entry leaving) given = leaving_swapped head kept entry leaving
past_swapped (purpose.Sent sending got) given = sent_swapped sending got

load_swapped : (words : Zones) (name : List ℕ) (event : WordEvent) → swapped_at (after words (phase.Load name) event) ≡ 0
load_swapped words name (reported.Loaded owner number) = refl
load_swapped words name event = refl

look_swapped : (words : Zones) (name : List ℕ) (owner : ℕ) (event : WordEvent) → swapped_at (after words (phase.Look name owner) event) ≡ 0
look_swapped words name owner reported.Alive = refl
look_swapped words name owner reported.Dead = refl
look_swapped words name owner event = refl

raise_swapped : (words : Zones) (name : List ℕ) (owner : ℕ) (event : WordEvent) → swapped_at (after words (phase.Raise name owner) event) ≡ 0
raise_swapped words name owner (reported.Raised next number) = refl
raise_swapped words name owner reported.Dead = refl
raise_swapped words name owner event = refl

note_swapped : (words : Zones) (name : List ℕ) (owner : ℕ) (event : WordEvent) → swapped_at (after words (phase.Note name owner) event) ≡ 0
note_swapped words name owner (reported.Noted next number) = refl
note_swapped words name owner event = refl

probe_swapped : (words : Zones) (version : Numbered) (keeping : Keeping) (event : WordEvent) → swapped_at (after words (phase.Probe version keeping) event) ≡ 0
probe_swapped words version keeping reported.Taken = refl
probe_swapped words version keeping reported.NoSlot = refl
probe_swapped words version keeping event = refl

settle_swapped : (words : Zones) (keeping : Keeping) (event : WordEvent) → swapped_at (after words (phase.Settle keeping) event) ≡ 1
settle_swapped words keeping (reported.Settled owner number) = refl
settle_swapped words keeping event = refl

entered_swapped : (given : ℕ) (keeping : Keeping) (owner : ℕ) (enters : Bool) → swapped_at (if enters then On (phase.Enter given owner keeping) else On (phase.Release given (purpose.Publish keeping owner None))) ≡ 1
entered_swapped given keeping owner true = refl
entered_swapped given keeping owner false = refl

keep_swapped : (words : Zones) (given : ℕ) (keeping : Keeping) (event : WordEvent) → swapped_at (after words (phase.Keep given keeping) event) ≡ 1
keep_swapped words given keeping (reported.Loaded owner number) = entered_swapped given keeping owner (is_some keeping.enters)
keep_swapped words given keeping event = refl

enter_swapped : (words : Zones) (given kept : ℕ) (keeping : Keeping) (event : WordEvent) → swapped_at (after words (phase.Enter given kept keeping) event) ≡ 1
enter_swapped words given kept keeping (reported.Noted owner number) = refl
enter_swapped words given kept keeping event = refl

seek_swapped : (words : Zones) (owner : ℕ) (seeking : Seeking) (event : WordEvent) → swapped_at (after words (phase.Seek owner seeking) event) ≡ 0
seek_swapped words owner seeking reported.Alive = refl
seek_swapped words owner seeking reported.Dead = sent_swapped seeking.sending seeking.owners
seek_swapped words owner seeking event = refl

gained_swapped : (seeking : Seeking) (left : List ℕ) → swapped_at (gained_after seeking left) ≡ 0
gained_swapped seeking [] = sent_swapped (completed seeking.sending) seeking.owners
gained_swapped seeking (owner ∷ left) = refl

got_swapped : (owner : ℕ) (seeking : Seeking) (next_owner : ℕ) (found : Option Numbered) → swapped_at (got_after owner seeking next_owner found) ≡ 0
got_swapped owner seeking next_owner None = refl
got_swapped owner seeking next_owner (Some version) = gained_swapped (with_got next_owner version seeking) seeking.left

gain_swapped : (words : Zones) (owner : ℕ) (seeking : Seeking) (event : WordEvent) → swapped_at (after words (phase.Gain owner seeking) event) ≡ 0
gain_swapped words owner seeking (reported.Raised next_owner number) = got_swapped owner seeking next_owner (found_by words next_owner)
gain_swapped words owner seeking reported.Dead = sent_swapped seeking.sending seeking.owners
gain_swapped words owner seeking event = refl

release_swapped : (words : Zones) (owner : ℕ) (for : Purpose) (event : WordEvent) → swapped_at (after words (phase.Release owner for) event) ≡ swapped_for for
release_swapped words owner for reported.Emptied = refl
release_swapped words owner for event = past_swapped for answer.Left

bury_swapped : (words : Zones) (owner : ℕ) (for : Purpose) (event : WordEvent) → swapped_at (after words (phase.Bury owner for) event) ≡ swapped_for for
bury_swapped words owner for (reported.Buried number) = refl
bury_swapped words owner for event = past_swapped for answer.Left

fade_swapped : (words : Zones) (owner : ℕ) (number : Option ℕ) (for : Purpose) (event : WordEvent) → swapped_at (after words (phase.Fade owner number for) event) ≡ swapped_for for
fade_swapped words owner number for reported.Closed = refl
fade_swapped words owner number for event = past_swapped for (gone number)

pub after_swapped : (words : Zones) (at : Phase) (event : WordEvent) → swapped_at (after words at event) ≡ swapped_in at + swaps_now at
after_swapped words (phase.Load name) event = load_swapped words name event
after_swapped words (phase.Look name owner) event = look_swapped words name owner event
after_swapped words (phase.Seek owner seeking) event = seek_swapped words owner seeking event
after_swapped words (phase.Gain owner seeking) event = gain_swapped words owner seeking event
after_swapped words (phase.Raise name owner) event = raise_swapped words name owner event
after_swapped words (phase.Note name owner) event = note_swapped words name owner event
after_swapped words (phase.Probe version keeping) event = probe_swapped words version keeping event
after_swapped words (phase.Prepare version keeping) event = refl
after_swapped words (phase.Swap keeping) event = refl
after_swapped words (phase.Settle keeping) event = settle_swapped words keeping event
after_swapped words (phase.Keep given keeping) event = keep_swapped words given keeping event
after_swapped words (phase.Enter given kept keeping) event = enter_swapped words given kept keeping event
after_swapped words (phase.Release owner for) event = (let e = release_swapped words owner for event in omega (arith, e))
after_swapped words (phase.Bury owner for) event = (let e = bury_swapped words owner for event in omega (arith, e))
after_swapped words (phase.Fade owner number for) event = (let e = fade_swapped words owner number for event in omega (arith, e))
after_swapped words (phase.Reset owner number for) event = omega arith
after_swapped words (phase.Free owner number for) event = (let e = past_swapped for (gone number) in omega (arith, e))

-- what has made its swap is an update
swapped_updates_for : (for : Purpose) → swapped_for for ≡ 1 → is_for_update for ≡ true
swapped_updates_for purpose.Drop e = absurd (omega (arith, e))
swapped_updates_for (purpose.Publish keeping kept entry) e = refl
swapped_updates_for (purpose.Oldest head kept entry leaving) e = refl
swapped_updates_for (purpose.Leaves head kept entry leaving) e = refl
swapped_updates_for (purpose.Sent sending owners) e = absurd (omega (arith, e))

pub swapped_updates : (at : Phase) → swapped_in at ≡ 1 → updates at ≡ true
swapped_updates (phase.Load name) e = absurd (omega (arith, e))
swapped_updates (phase.Look name owner) e = absurd (omega (arith, e))
swapped_updates (phase.Seek owner seeking) e = absurd (omega (arith, e))
swapped_updates (phase.Gain owner seeking) e = absurd (omega (arith, e))
swapped_updates (phase.Raise name owner) e = absurd (omega (arith, e))
swapped_updates (phase.Note name owner) e = absurd (omega (arith, e))
swapped_updates (phase.Probe version keeping) e = refl
swapped_updates (phase.Prepare version keeping) e = refl
swapped_updates (phase.Swap keeping) e = refl
swapped_updates (phase.Settle keeping) e = refl
swapped_updates (phase.Keep given keeping) e = refl
swapped_updates (phase.Enter given kept keeping) e = refl
swapped_updates (phase.Release owner for) e = swapped_updates_for for e
swapped_updates (phase.Bury owner for) e = swapped_updates_for for e
swapped_updates (phase.Fade owner number for) e = swapped_updates_for for e
swapped_updates (phase.Reset owner number for) e = swapped_updates_for for e
swapped_updates (phase.Free owner number for) e = swapped_updates_for for e

pub swap_updates : (at : Phase) → swaps_now at ≡ 1 → updates at ≡ true
swap_updates (phase.Load name) e = absurd (omega (arith, e))
swap_updates (phase.Look name owner) e = absurd (omega (arith, e))
swap_updates (phase.Seek owner seeking) e = absurd (omega (arith, e))
swap_updates (phase.Gain owner seeking) e = absurd (omega (arith, e))
swap_updates (phase.Raise name owner) e = absurd (omega (arith, e))
swap_updates (phase.Note name owner) e = absurd (omega (arith, e))
swap_updates (phase.Probe version keeping) e = refl
swap_updates (phase.Prepare version keeping) e = refl
swap_updates (phase.Swap keeping) e = refl
swap_updates (phase.Settle keeping) e = refl
swap_updates (phase.Keep given keeping) e = refl
swap_updates (phase.Enter given kept keeping) e = refl
swap_updates (phase.Release owner for) e = absurd (omega (arith, e))
swap_updates (phase.Bury owner for) e = absurd (omega (arith, e))
swap_updates (phase.Fade owner number for) e = absurd (omega (arith, e))
swap_updates (phase.Reset owner number for) e = absurd (omega (arith, e))
swap_updates (phase.Free owner number for) e = absurd (omega (arith, e))

-- an update goes on, or is at its end, with this header
abbrev pub HeadEnd : Heading → End → Type 0
HeadEnd head (Owned name owner number) = ⊥
HeadEnd head (OwnedWeakly name owner number) = ⊥
HeadEnd head (Replied given) = ⊥
HeadEnd head (NoSlot other) = other ≡ head
HeadEnd head (Kept other owner entry) = other ≡ head
HeadEnd head (Sent sending) = ⊥

abbrev pub HeadAt : Heading → Progress → Type 0
HeadAt head (On at) = heading_of at ≡ Some head
HeadAt head (Done end) = HeadEnd head end

pub keeps_at : (head : Heading) (event : WordEvent) (progress : Progress) → KeepsHeading head event progress → HeadAt head progress
keeps_at head event (On next) k = k
keeps_at head event (Done end) k = elim k [
  | inl none ↦ subst (HeadEnd head) (sym none.0) refl
  | inr kept ↦ subst (HeadEnd head) (sym kept.2) refl
]

abbrev pub KeepsAt : Phase → Progress → Type 0
KeepsAt at progress = (head : Heading) → heading_of at ≡ Some head → HeadAt head progress

none_again : (at : Phase) → swapped_in at ≡ 1 → swaps_now at ≡ 0
none_again (phase.Load name) e = refl
none_again (phase.Look name owner) e = refl
none_again (phase.Seek owner seeking) e = refl
none_again (phase.Gain owner seeking) e = refl
none_again (phase.Raise name owner) e = refl
none_again (phase.Note name owner) e = refl
none_again (phase.Probe version keeping) e = refl
none_again (phase.Prepare version keeping) e = refl
none_again (phase.Swap keeping) e = absurd (omega (arith, e))
none_again (phase.Settle keeping) e = refl
none_again (phase.Keep given keeping) e = refl
none_again (phase.Enter given kept keeping) e = refl
none_again (phase.Release owner for) e = refl
none_again (phase.Bury owner for) e = refl
none_again (phase.Fade owner number for) e = refl
none_again (phase.Reset owner number for) e = refl
none_again (phase.Free owner number for) e = refl

-- a step of an update behind its swap, and of one with a header
pub step_keeps : (words new : Zones) (at : Phase) (progress : Progress) → step_once words at ≡ Some (progress, new) → (swapped_in at ≡ 1 → swapped_at progress ≡ 1) × KeepsAt at progress
step_keeps words new at progress e =
    let one = step_by words new at progress (made words (word_step at)) refl e in
    let swapped : swapped_at progress ≡ swapped_in at + swaps_now at = ap swapped_at (sym one.goes) ∙ after_swapped new at one.event in
    ((λ is. let none = none_again at is in omega (arith, swapped, is, none)), λ head h. subst (HeadAt head) one.goes (keeps_at head one.event (after new at one.event) (keeps_head new at one.event head h)))
