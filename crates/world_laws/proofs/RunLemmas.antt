-- The run of steps on words that lines make.
use Rattle.std.proofs.Common.{lit<, ◌≡◌, refl, sym, ap, ◌∙◌, subst, ℕ, zero, suc, ◌+◌, Bool, true, false, inl, inr, List, [], ◌∷◌, ◌++◌, length, Option, Some, None}
use Rattle.std.specs.Prelude.{bytes_eq, is_some, min, not, nat_le, nat_lt, ◌||◌, ◌&&◌, if◌then◌else◌}
use Rattle.std.specs.List.{slice_get}
use Rattle.std.specs.Option.{option_and_then, option_map}
use Rattle.std.proofs.lemmas.Bool.{cases_Bool}
use Rattle.cell_core.proofs.BeginShows.{begun_shows}
use Rattle.cell_core.proofs.MadeLemmas.{made_makes}
use Rattle.cell_core.proofs.OwnerLemmas.{Keeps as KeepsNumber, keeps_step, loaded_keeps, raised_keeps, noted_keeps, was_in_w}
use Rattle.cell_core.proofs.RunShows.{run_shows}
use Rattle.cell_core.proofs.UserLemmas.{owner_is_given}
use Rattle.cell_core.specs.Cell.{start as cell_start}
use Rattle.cell_core.specs.declared.words.Owner.{Owner}
use Rattle.cell_core.specs.declared.words.Owner.TheVariants.{Holding, Twice, Weakly, Both, Burying, Fading, Resetting, Freeing, Spent}
use Rattle.cell_core.specs.declared.words.Version.{Version}
use Rattle.cell_core.proofs.SeatLemmas.{get_push_old, get_push_new}
use Rattle.cell_core.specs.Made.{made}
use Rattle.cell_core.specs.Shows.{WordRuns}
use Rattle.cell_core.specs.Words.{State, begun, first_slot, grants, version_in, place_of, owned_of, found_by, found_last}
use Rattle.cell_core.specs.WordSteps.{Makes}
use Rattle.cell_core.specs.declared.words.WordEvent.{WordEvent}
use Rattle.cell_core.specs.declared.words.WordEvent.TheVariants as reported
use Rattle.cell_core.specs.declared.words.WordStep.{WordStep}
use Rattle.cell_core.specs.declared.words.WordStep.TheVariants as word
use Rattle.dns_rdata.specs.Record.{Record}
use Rattle.serve_core.specs.declared.heading.Heading.{Heading}
use Rattle.dns_message.specs.Request.{reads}
use Rattle.world_run.specs.declared.entries.Entry.{Entry}
use Rattle.world_run.specs.declared.sending.Seeking.{Seeking}
use Rattle.world_run.specs.declared.sending.Sending.{Sending}
use Rattle.world_run.specs.declared.phase.Phase.{Phase}
use Rattle.world_run.specs.declared.phase.Phase.TheVariants as phase
use Rattle.world_run.specs.declared.phase.Keeping.{Keeping}
use Rattle.world_run.specs.declared.phase.Purpose.{Purpose}
use Rattle.world_run.specs.declared.phase.Purpose.TheVariants as purpose
use Rattle.dns_message.specs.declared.query.Parsed.{Parsed}
use Rattle.dns_message.specs.declared.query.Parsed.TheVariants as parsed
use Rattle.dns_message.specs.declared.query.Query.{Query as QueryAsked}
use Rattle.serve_core.specs.declared.transport.Transport.TheVariants.{Udp, Tcp}
use Rattle.serve_core.specs.Transfers.{peer_over, is_permitted}
use Rattle.world_run.specs.Judgements.{asks_update, judged}
use Rattle.world_run.specs.declared.judged.Judged.{Judged}
use Rattle.world_run.specs.declared.judged.Judged.TheVariants as judgement
use Rattle.world_run.specs.declared.phase.End.{End}
use Rattle.world_run.specs.declared.phase.End.TheVariants.{Owned, OwnedWeakly, Replied, NoSlot, Kept, Sent}
use Rattle.world_run.specs.declared.phase.Progress.{Progress}
use Rattle.world_run.specs.declared.phase.Progress.TheVariants.{On, Done}
use Rattle.world_run.specs.declared.names.Named.{Named}
use Rattle.world_run.specs.declared.calls.UnderWay.{UnderWay}
use Rattle.world_run.specs.declared.start.Start.{Start}
use Rattle.world_run.specs.declared.start.Start.TheVariants.{Refused, Answers, Takes}
use Rattle.world_run.specs.declared.step.Call.{Call}
use Rattle.world_run.specs.declared.step.Call.TheVariants.{Load, Drop, Copy, Weak, Fade, Up, Ask, Transfer, Update}
use Rattle.world_run.specs.declared.step.Answer.{Answer}
use Rattle.world_run.specs.declared.step.Answer.TheVariants as answer
use Rattle.world_run.specs.declared.step.WorldReply.{WorldReply}
use Rattle.world_run.specs.declared.step.WorldStep.{WorldStep as Line}
use Rattle.world_run.specs.declared.step.WorldStep.TheVariants.{Whole, Begin, Next}
use Rattle.zone_tree.specs.Version.{Version as Numbered}
use Rattle.world_run.specs.Numbered.{first_version}
use Rattle.world_run.specs.Phases.{word_step, after, past, gone, leaving_after, oldest_after, sent_after, completed, with_got, gained_after, got_after}
use Rattle.world_run.specs.Entries.{most_entries, later}
use Rattle.world_laws.specs.Runs.{Run, Comes, IsFromLoad, IsShownBy, ShowsReached, IsAnsweredAtLoaded}
use Rattle.world_laws.specs.Runs.Comes.{loaded, raised, noted}
use Rattle.world_run.specs.World.{World, loaded_once, noted_once, started, started_within, owner_of, without_name, zone_of, call_of, without_call, is_taken, is_taken_weakly, is_used, drop_start, fade_start, copy_start, weak_start, up_start, asks_sent, ask_said, ask_start, seek_start, transfer_asked, transfer_said, transfer_of, transfer_start, none_got, is_barred, can_enter, is_held, oldest_kept, update_start, start, given_up, weak_given_up, names_at, weak_names_at, step_once, steps_up_to, go_on, most_steps, is_full, all_made, whole, begin_call, begin_under, stepped, next, turn, onto_replies, play}

-- an owner comes from a load of a run, and has its number
pub record WasLoaded (run : Run) (owners : List Owner) (owner : ℕ) : Type 0 where
  pub from : IsFromLoad run owner
  pub keeps : KeepsNumber owners owner from.number

-- and so do those of names
abbrev pub AllLoaded : Run → List Owner → List Named → Type 0
AllLoaded run owners [] = Unit {0}
AllLoaded run owners (named ∷ names) = WasLoaded run owners named.owner × AllLoaded run owners names

-- and the owner that a call under way uses
abbrev pub PhaseLoaded : Run → List Owner → Phase → Type 0
PhaseLoaded run owners (phase.Look name owner) = WasLoaded run owners owner
PhaseLoaded run owners (phase.Raise name owner) = WasLoaded run owners owner
PhaseLoaded run owners (phase.Note name owner) = WasLoaded run owners owner
PhaseLoaded run owners at = Unit {0}

abbrev pub CallsLoaded : Run → List Owner → List UnderWay → Type 0
CallsLoaded run owners [] = Unit {0}
CallsLoaded run owners (call ∷ calls) = PhaseLoaded run owners call.phase × CallsLoaded run owners calls

-- a longer run keeps each step at its place, and behind it each owner has the number that it had
abbrev pub Keeps : Run → Run → Type 0
Keeps run longer = (place : ℕ) (step : WordStep Numbered × WordEvent) → slice_get run place ≡ Some step → slice_get longer place ≡ Some step

abbrev pub Further : List Owner → List Owner → Type 0
Further owners later = (owner number : ℕ) → KeepsNumber owners owner number → KeepsNumber later owner number

comes_still : (run longer : Run) (loader owner : ℕ) → Keeps run longer → Comes run loader owner → Comes longer loader owner
comes_still run longer loader owner keeps loaded = loaded
comes_still run longer loader owner keeps (raised place from next number c e) = raised place from next number (comes_still run longer loader from keeps c) (keeps place (word.Raise from, reported.Raised next number) e)
comes_still run longer loader owner keeps (noted place from next number c e) = noted place from next number (comes_still run longer loader from keeps c) (keeps place (word.Note from, reported.Noted next number) e)

loaded_still : (run longer : Run) (owners later : List Owner) (owner : ℕ) → Keeps run longer → Further owners later → WasLoaded run owners owner → WasLoaded longer later owner
loaded_still run longer owners later owner keeps further was =
    let f = was.from in
    record {
      from = record { place = f.place; loader = f.loader; number = f.number; is_load = keeps f.place (word.Load, reported.Loaded f.loader f.number) f.is_load; comes = comes_still run longer f.loader owner keeps f.comes };
      keeps = further owner f.number was.keeps;
    }

all_still : (run longer : Run) (owners later : List Owner) (names : List Named) → Keeps run longer → Further owners later → AllLoaded run owners names → AllLoaded longer later names
all_still run longer owners later [] keeps further all = tt
all_still run longer owners later (named ∷ names) keeps further all = (loaded_still run longer owners later named.owner keeps further all.0, all_still run longer owners later names keeps further all.1)

phase_still : (run longer : Run) (owners later : List Owner) (at : Phase) → Keeps run longer → Further owners later → PhaseLoaded run owners at → PhaseLoaded longer later at
phase_still run longer owners later (phase.Look name owner) keeps further was = loaded_still run longer owners later owner keeps further was
phase_still run longer owners later (phase.Raise name owner) keeps further was = loaded_still run longer owners later owner keeps further was
phase_still run longer owners later (phase.Note name owner) keeps further was = loaded_still run longer owners later owner keeps further was
phase_still run longer owners later at keeps further was = tt

calls_still : (run longer : Run) (owners later : List Owner) (calls : List UnderWay) → Keeps run longer → Further owners later → CallsLoaded run owners calls → CallsLoaded longer later calls
calls_still run longer owners later [] keeps further all = tt
calls_still run longer owners later (call ∷ calls) keeps further all = (phase_still run longer owners later call.phase keeps further all.0, calls_still run longer owners later calls keeps further all.1)

all_without : (run : Run) (owners : List Owner) (name : List ℕ) (names : List Named) → AllLoaded run owners names → AllLoaded run owners (without_name name names)
all_without run owners name [] all = tt
all_without run owners name (named ∷ names) all =
    elim (cases_Bool (not (bytes_eq named.name name))) [
      | inl kept ↦ rw kept (all.0, all_without run owners name names all.1)
      | inr gone ↦ rw gone (all_without run owners name names all.1)
    ]

all_with : (run : Run) (owners : List Owner) (names : List Named) (named : Named) → AllLoaded run owners names → WasLoaded run owners named.owner → AllLoaded run owners (names ++ named ∷ [])
all_with run owners [] named all was = (was, tt)
all_with run owners (other ∷ names) named all was = (all.0, all_with run owners names named all.1 was)

calls_without : (run : Run) (owners : List Owner) (name : List ℕ) (calls : List UnderWay) → CallsLoaded run owners calls → CallsLoaded run owners (without_call name calls)
calls_without run owners name [] all = tt
calls_without run owners name (call ∷ calls) all =
    elim (cases_Bool (not (bytes_eq call.name name))) [
      | inl kept ↦ rw kept (all.0, calls_without run owners name calls all.1)
      | inr gone ↦ rw gone (calls_without run owners name calls all.1)
    ]

calls_with : (run : Run) (owners : List Owner) (calls : List UnderWay) (call : UnderWay) → CallsLoaded run owners calls → PhaseLoaded run owners call.phase → CallsLoaded run owners (calls ++ call ∷ [])
calls_with run owners [] call all was = (was, tt)
calls_with run owners (other ∷ calls) call all was = (all.0, calls_with run owners calls call all.1 was)

pub found_loaded : (run : Run) (owners : List Owner) (name : List ℕ) (names : List Named) (owner : ℕ) → AllLoaded run owners names → owner_of name names ≡ Some owner → WasLoaded run owners owner
found_loaded run owners name [] owner all e = absurd (let wrong = e in cc)
found_loaded run owners name (named ∷ names) owner all e =
    elim (cases_Bool (bytes_eq named.name name)) [
      | inl here ↦ (let found = rw here at e in let same : named.owner ≡ owner = (let f = found in cc) in subst (λ o. WasLoaded run owners o) same all.0)
      | inr elsewhere ↦ found_loaded run owners name names owner all.1 (rw elsewhere at e)
    ]

call_loaded : (run : Run) (owners : List Owner) (name : List ℕ) (calls : List UnderWay) (call : UnderWay) → CallsLoaded run owners calls → call_of name calls ≡ Some call → PhaseLoaded run owners call.phase
call_loaded run owners name [] call all e = absurd (let wrong = e in cc)
call_loaded run owners name (other ∷ calls) call all e =
    elim (cases_Bool (bytes_eq other.name name)) [
      | inl here ↦ (let found = rw here at e in let same : other ≡ call = (let f = found in cc) in subst (λ (c : UnderWay). PhaseLoaded run owners c.phase) same all.0)
      | inr elsewhere ↦ call_loaded run owners name calls call all.1 (rw elsewhere at e)
    ]

all_given_up : (run : Run) (owners : List Owner) (call : Call) (names : List Named) → AllLoaded run owners names → AllLoaded run owners (given_up call names)
all_given_up run owners (Drop name) names all = all_without run owners name names all
all_given_up run owners call names all = all

weak_given_all : (run : Run) (owners : List Owner) (call : Call) (names : List Named) → AllLoaded run owners names → AllLoaded run owners (weak_given_up call names)
weak_given_all run owners (Fade name) names all = all_without run owners name names all
weak_given_all run owners call names all = all

-- what a call comes to is of a load, where it is an owner, or uses one
abbrev pub EndIsLoaded : Run → List Owner → Progress → Type 0
EndIsLoaded run owners (Done (Owned name owner number)) = WasLoaded run owners owner
EndIsLoaded run owners (Done (OwnedWeakly name owner number)) = WasLoaded run owners owner
EndIsLoaded run owners (Done (Replied answer)) = Unit {0}
EndIsLoaded run owners (Done (NoSlot head)) = Unit {0}
EndIsLoaded run owners (Done (Kept head owner entry)) = Unit {0}
EndIsLoaded run owners (Done (Sent sending)) = Unit {0}
EndIsLoaded run owners (On at) = PhaseLoaded run owners at

leaving_by : (run : Run) (owners : List Owner) (head : Heading) (kept : ℕ) (entry : Option Entry) (leaving : List ℕ) → EndIsLoaded run owners (leaving_after head kept entry leaving)
leaving_by run owners head kept entry [] = tt
leaving_by run owners head kept entry (owner ∷ leaving) = tt

oldest_by : (run : Run) (owners : List Owner) (head : Heading) (kept : ℕ) (entry : Option Entry) (leaving : List ℕ) (oldest : Option ℕ) → EndIsLoaded run owners (oldest_after head kept entry leaving oldest)
oldest_by run owners head kept entry leaving None = leaving_by run owners head kept entry leaving
oldest_by run owners head kept entry leaving (Some owner) = tt

sent_by : (run : Run) (owners : List Owner) (sending : Sending) (got : List ℕ) → EndIsLoaded run owners (sent_after sending got)
sent_by run owners sending [] = tt
sent_by run owners sending (owner ∷ got) = tt

past_by : (run : Run) (owners : List Owner) (for : Purpose) (given : Answer) → EndIsLoaded run owners (past for given)
past_by run owners purpose.Drop given = tt
past_by run owners (purpose.Publish keeping kept entry) given = oldest_by run owners keeping.heading kept entry keeping.leaving keeping.oldest
past_by run owners (purpose.Oldest head kept entry leaving) given = leaving_by run owners head kept entry leaving
past_by run owners (purpose.Leaves head kept entry leaving) given = leaving_by run owners head kept entry leaving
past_by run owners (purpose.Sent sending got) given = sent_by run owners sending got

probe_by : (run : Run) (words : State Numbered) (version : Numbered) (keeping : Keeping) (event : WordEvent) → EndIsLoaded run words.owners (after words (phase.Probe version keeping) event)
probe_by run words version keeping reported.Taken = tt
probe_by run words version keeping reported.NoSlot = tt
probe_by run words version keeping event = tt

settle_by : (run : Run) (words : State Numbered) (keeping : Keeping) (event : WordEvent) → EndIsLoaded run words.owners (after words (phase.Settle keeping) event)
settle_by run words keeping (reported.Settled owner number) = tt
settle_by run words keeping event = tt

entered_by : (run : Run) (owners : List Owner) (given : ℕ) (keeping : Keeping) (owner : ℕ) (enters : Bool)
    → EndIsLoaded run owners (if enters then On (phase.Enter given owner keeping) else On (phase.Release given (purpose.Publish keeping owner None)))
entered_by run owners given keeping owner true = tt
entered_by run owners given keeping owner false = tt

keep_by : (run : Run) (words : State Numbered) (given : ℕ) (keeping : Keeping) (event : WordEvent) → EndIsLoaded run words.owners (after words (phase.Keep given keeping) event)
keep_by run words given keeping (reported.Loaded owner number) = entered_by run words.owners given keeping owner (is_some keeping.enters)
keep_by run words given keeping event = tt

enter_by : (run : Run) (words : State Numbered) (given kept : ℕ) (keeping : Keeping) (event : WordEvent) → EndIsLoaded run words.owners (after words (phase.Enter given kept keeping) event)
enter_by run words given kept keeping (reported.Noted owner number) = tt
enter_by run words given kept keeping event = tt

seek_by : (run : Run) (words : State Numbered) (owner : ℕ) (seeking : Seeking) (event : WordEvent) → EndIsLoaded run words.owners (after words (phase.Seek owner seeking) event)
seek_by run words owner seeking reported.Alive = tt
seek_by run words owner seeking reported.Dead = sent_by run words.owners seeking.sending seeking.owners
seek_by run words owner seeking event = tt

gained_by : (run : Run) (owners : List Owner) (seeking : Seeking) (left : List ℕ) → EndIsLoaded run owners (gained_after seeking left)
gained_by run owners seeking [] = sent_by run owners (completed seeking.sending) seeking.owners
gained_by run owners seeking (owner ∷ left) = tt

got_by : (run : Run) (owners : List Owner) (owner : ℕ) (seeking : Seeking) (next : ℕ) (found : Option Numbered) → EndIsLoaded run owners (got_after owner seeking next found)
got_by run owners owner seeking next None = tt
got_by run owners owner seeking next (Some version) = gained_by run owners (with_got next version seeking) seeking.left

gain_by : (run : Run) (words : State Numbered) (owner : ℕ) (seeking : Seeking) (event : WordEvent) → EndIsLoaded run words.owners (after words (phase.Gain owner seeking) event)
gain_by run words owner seeking (reported.Raised next number) = got_by run words.owners owner seeking next (found_by words next)
gain_by run words owner seeking reported.Dead = sent_by run words.owners seeking.sending seeking.owners
gain_by run words owner seeking event = tt

release_by : (run : Run) (words : State Numbered) (at : ℕ) (for : Purpose) (event : WordEvent) → EndIsLoaded run words.owners (after words (phase.Release at for) event)
release_by run words at for reported.Emptied = tt
release_by run words at for event = past_by run words.owners for answer.Left

bury_by : (run : Run) (words : State Numbered) (at : ℕ) (for : Purpose) (event : WordEvent) → EndIsLoaded run words.owners (after words (phase.Bury at for) event)
bury_by run words at for (reported.Buried number) = tt
bury_by run words at for event = past_by run words.owners for answer.Left

fade_by : (run : Run) (words : State Numbered) (at : ℕ) (number : Option ℕ) (for : Purpose) (event : WordEvent) → EndIsLoaded run words.owners (after words (phase.Fade at number for) event)
fade_by run words at number for reported.Closed = tt
fade_by run words at number for event = past_by run words.owners for (gone number)

-- an owner behind a step that another makes
loaded_on : (run : Run) (words new : State Numbered) (step : WordStep Numbered) (event : WordEvent) (owner : ℕ) → Makes words step event new → WasLoaded run words.owners owner → WasLoaded (run ++ (step, event) ∷ []) new.owners owner
loaded_on run words new step event owner m was =
    loaded_still run (run ++ (step, event) ∷ []) words.owners new.owners owner (λ place s e. get_push_old run (step, event) s place e) (λ o number k. keeps_step words new step event o number m k) was

-- a load gives an owner that comes from it, a raise and a note one that comes from where their owner does
load_by : (run : Run) (words new : State Numbered) (name : List ℕ) (event : WordEvent) → Makes {T = Numbered} words word.Load event new → EndIsLoaded (run ++ (word.Load, event) ∷ []) new.owners (after new (phase.Load name) event)
load_by run words new name (reported.Loaded owner number) m = record {
  from = record { place = length run; loader = owner; number = number; is_load = get_push_new run (word.Load, reported.Loaded owner number) (length run) refl; comes = loaded };
  keeps = (loaded_keeps words new owner number m).1;
}
load_by run words new name event m = tt

look_by : (longer : Run) (words : State Numbered) (name : List ℕ) (owner : ℕ) (event : WordEvent) → WasLoaded longer words.owners owner → EndIsLoaded longer words.owners (after words (phase.Look name owner) event)
look_by longer words name owner reported.Alive was = was
look_by longer words name owner reported.Dead was = tt
look_by longer words name owner event was = was

raise_by : (run : Run) (words new : State Numbered) (name : List ℕ) (from : ℕ) (event : WordEvent) → Makes {T = Numbered} words (word.Raise from) event new → WasLoaded run words.owners from → WasLoaded (run ++ (word.Raise from, event) ∷ []) new.owners from → EndIsLoaded (run ++ (word.Raise from, event) ∷ []) new.owners (after new (phase.Raise name from) event)
raise_by run words new name from (reported.Raised next number) m was still =
    let f = was.from in
    let on : Keeps run (run ++ (word.Raise from, reported.Raised next number) ∷ []) = λ place s e. get_push_old run (word.Raise from, reported.Raised next number) s place e in
    record {
      from = record {
        place = f.place;
        loader = f.loader;
        number = f.number;
        is_load = on f.place (word.Load, reported.Loaded f.loader f.number) f.is_load;
        comes = raised (length run) from next number (comes_still run _ f.loader from on f.comes) (get_push_new run (word.Raise from, reported.Raised next number) (length run) refl);
      };
      keeps = (raised_keeps words new from next number f.number m was.keeps).1;
    }
raise_by run words new name from reported.Dead m was still = tt
raise_by run words new name from event m was still = still

note_by : (run : Run) (words new : State Numbered) (name : List ℕ) (from : ℕ) (event : WordEvent) → Makes {T = Numbered} words (word.Note from) event new → WasLoaded run words.owners from → WasLoaded (run ++ (word.Note from, event) ∷ []) new.owners from → EndIsLoaded (run ++ (word.Note from, event) ∷ []) new.owners (after new (phase.Note name from) event)
note_by run words new name from (reported.Noted next number) m was still =
    let f = was.from in
    let on : Keeps run (run ++ (word.Note from, reported.Noted next number) ∷ []) = λ place s e. get_push_old run (word.Note from, reported.Noted next number) s place e in
    record {
      from = record {
        place = f.place;
        loader = f.loader;
        number = f.number;
        is_load = on f.place (word.Load, reported.Loaded f.loader f.number) f.is_load;
        comes = noted (length run) from next number (comes_still run _ f.loader from on f.comes) (get_push_new run (word.Note from, reported.Noted next number) (length run) refl);
      };
      keeps = (noted_keeps words new from next number f.number m was.keeps).1;
    }
note_by run words new name from event m was still = still

ends_by : (run : Run) (words new : State Numbered) (at : Phase) (event : WordEvent) → Makes words (word_step at) event new → PhaseLoaded run words.owners at → EndIsLoaded (run ++ (word_step at, event) ∷ []) new.owners (after new at event)
ends_by run words new (phase.Load name) event m was = load_by run words new name event m
ends_by run words new (phase.Look name owner) event m was = look_by _ new name owner event (loaded_on run words new (word.Look owner) event owner m was)
ends_by run words new (phase.Raise name owner) event m was = raise_by run words new name owner event m was (loaded_on run words new (word.Raise owner) event owner m was)
ends_by run words new (phase.Note name owner) event m was = note_by run words new name owner event m was (loaded_on run words new (word.Note owner) event owner m was)
ends_by run words new (phase.Probe version keeping) event m was = probe_by _ new version keeping event
ends_by run words new (phase.Prepare version keeping) event m was = tt
ends_by run words new (phase.Swap keeping) event m was = tt
ends_by run words new (phase.Settle keeping) event m was = settle_by _ new keeping event
ends_by run words new (phase.Keep given keeping) event m was = keep_by _ new given keeping event
ends_by run words new (phase.Enter given kept keeping) event m was = enter_by _ new given kept keeping event
ends_by run words new (phase.Seek owner seeking) event m was = seek_by _ new owner seeking event
ends_by run words new (phase.Gain owner seeking) event m was = gain_by _ new owner seeking event
ends_by run words new (phase.Release at for) event m was = release_by _ new at for event
ends_by run words new (phase.Bury at for) event m was = bury_by _ new at for event
ends_by run words new (phase.Fade at number for) event m was = fade_by _ new at number for event
ends_by run words new (phase.Reset at number for) event m was = tt
ends_by run words new (phase.Free at number for) event m was = past_by _ _ for (gone number)

-- a step that follows is one of the words
pub record OneStep (words : State Numbered) (phase : Phase) (progress : Progress) (after_step : State Numbered) : Type 0 where
  pub event : WordEvent
  pub makes : Makes words (word_step phase) event after_step
  pub goes : after after_step phase event ≡ progress

one_of : (words after_step : State Numbered) (phase : Phase) (progress : Progress) (o : Option (WordEvent × State Numbered)) → made words (word_step phase) ≡ o
    → option_map {U = Progress × State Numbered} (λ t. (after t.1 phase t.0, t.1)) o ≡ Some (progress, after_step) → OneStep words phase progress after_step
one_of words after_step phase progress None e is = absurd (let wrong = is in cc)
one_of words after_step phase progress (Some t) e is =
    let pair : (after t.1 phase t.0, t.1) ≡ (progress, after_step) = (let i = is in cc) in
    let same : t.1 ≡ after_step = ap (λ (p : Progress × State Numbered). p.1) pair in
    record {
      event = t.0;
      makes = subst (λ s. Makes words (word_step phase) t.0 s) same (made_makes words t.1 (word_step phase) t.0 e);
      goes = subst (λ s. after s phase t.0 ≡ progress) same (ap (λ (p : Progress × State Numbered). p.0) pair);
    }

pub one_step : (words after_step : State Numbered) (phase : Phase) (progress : Progress) → step_once words phase ≡ Some (progress, after_step) → OneStep words phase progress after_step
one_step words after_step phase progress is = one_of words after_step phase progress (made words (word_step phase)) refl is

runs_more : (before between after_step : State Numbered) (run : Run) (step : WordStep Numbered) (event : WordEvent) → WordRuns before run between → Makes between step event after_step → WordRuns before (run ++ (step, event) ∷ []) after_step
runs_more before between after_step [] step event r m = (after_step, rw (← r) m, refl)
runs_more before between after_step ((first, event_first) ∷ run) step event r m = (r.0, r.1, runs_more r.0 between after_step run step event r.2 m)

-- a longer run, behind some of a call's steps
pub record Longer (first : List Record) (run : Run) (before : List Owner) (progress : Progress) (words : State Numbered) : Type 0 where
  pub longer : Run
  pub runs : WordRuns (begun (first_version first)) longer words
  pub keeps : Keeps run longer
  pub further : Further before words.owners
  pub ends : EndIsLoaded longer words.owners progress

longer_one : (first : List Record) (run : Run) (words after_step : State Numbered) (phase : Phase) (progress : Progress) → WordRuns (begun (first_version first)) run words → PhaseLoaded run words.owners phase → step_once words phase ≡ Some (progress, after_step) → Longer first run words.owners progress after_step
longer_one first run words after_step phase progress r was is =
    let one = one_step words after_step phase progress is in
    record {
      longer = run ++ (word_step phase, one.event) ∷ [];
      runs = runs_more (begun (first_version first)) words after_step run (word_step phase) one.event r one.makes;
      keeps = λ place step e. get_push_old run (word_step phase, one.event) step place e;
      further = λ owner number k. keeps_step words after_step (word_step phase) one.event owner number one.makes k;
      ends = subst (λ p. EndIsLoaded (run ++ (word_step phase, one.event) ∷ []) after_step.owners p) one.goes (ends_by run words after_step phase one.event one.makes was);
    }

longer_none : (first : List Record) (run : Run) (words : State Numbered) (phase : Phase) → WordRuns (begun (first_version first)) run words → PhaseLoaded run words.owners phase → Longer first run words.owners (On phase) words
longer_none first run words phase r was = record { longer = run; runs = r; keeps = λ place step e. e; further = λ owner number k. k; ends = was }

longer_behind : (first : List Record) (run : Run) (before between : List Owner) (progress : Progress) (words : State Numbered) (middle : Run) → Keeps run middle → Further before between → Longer first middle between progress words → Longer first run before progress words
longer_behind first run before between progress words middle keeps further l =
    record { longer = l.longer; runs = l.runs; keeps = λ place step e. l.keeps place step (keeps place step e); further = λ owner number k. l.further owner number (further owner number k); ends = l.ends }

-- what several steps come to
abbrev pub LongerAt : List Record → Run → List Owner → Progress × State Numbered → Type 0
LongerAt first run before came = Longer first run before came.0 came.1

longer_then : (first : List Record) (run : Run) (words : State Numbered) (phase : Phase) (more : State Numbered → Phase → Progress × State Numbered) (o : Option (Progress × State Numbered))
    → ((run : Run) (words : State Numbered) (phase : Phase) → WordRuns (begun (first_version first)) run words → PhaseLoaded run words.owners phase → LongerAt first run words.owners (more words phase))
    → WordRuns (begun (first_version first)) run words → PhaseLoaded run words.owners phase → step_once words phase ≡ o → LongerAt first run words.owners (go_on more words phase o)
longer_then first run words phase more None all r was is = longer_none first run words phase r was
longer_then first run words phase more (Some (On next_phase, between)) all r was is =
    let one = longer_one first run words between phase (On next_phase) r was is in
    longer_behind first run words.owners between.owners _ _ one.longer one.keeps one.further (all one.longer between next_phase one.runs one.ends)
longer_then first run words phase more (Some (Done end, between)) all r was is = longer_one first run words between phase (Done end) r was is

longer_many : (left : ℕ) (first : List Record) (run : Run) (words : State Numbered) (phase : Phase) → WordRuns (begun (first_version first)) run words → PhaseLoaded run words.owners phase → LongerAt first run words.owners (steps_up_to left words phase)
unfolding steps_up_to
longer_many zero first run words phase r was = longer_none first run words phase r was
longer_many (suc left) first run words phase r was = longer_then first run words phase (steps_up_to left) (step_once words phase) (longer_many left first) r was refl

-- a run shows a world
pub record Shown (first : List Record) (world : World) : Type 0 where
  pub run : Run
  pub runs : WordRuns (begun (first_version first)) run world.words
  pub names : AllLoaded run world.words.owners world.names
  pub weak_names : AllLoaded run world.words.owners world.weak_names
  pub calls : CallsLoaded run world.words.owners world.calls

-- it shows the world behind a line, where that is played
abbrev pub ShownBehind : List Record → Option (WorldReply × World) → Type 0
ShownBehind first o = (given : WorldReply) (world : World) → o ≡ Some (given, world) → Shown first world

behind_some : (first : List Record) (played : WorldReply × World) → Shown first played.1 → ShownBehind first (Some played)
behind_some first played s given world e =
    let pair : played ≡ (given, world) = (let i = e in cc) in
    subst (λ (w : World). Shown first w) (ap (λ (p : WorldReply × World). p.1) pair) s

behind_none : (first : List Record) → ShownBehind first None
behind_none first given world e = absurd (let wrong = e in cc)

behind_if : (first : List Record) (test : Bool) (one two : Option (WorldReply × World)) → ShownBehind first one → ShownBehind first two → ShownBehind first (if test then one else two)
behind_if first true one two a b = a
behind_if first false one two a b = b

-- what is in use behind some steps
still_shown : (first : List Record) (run : Run) (world : World) (names weak_names : List Named) (calls : List UnderWay) (progress : Progress) (words : State Numbered) → AllLoaded run world.words.owners names → AllLoaded run world.words.owners weak_names → CallsLoaded run world.words.owners calls → (l : Longer first run world.words.owners progress words)
    → AllLoaded l.longer words.owners names × AllLoaded l.longer words.owners weak_names × CallsLoaded l.longer words.owners calls
still_shown first run world names weak_names calls progress words all weak under l = (
  all_still run l.longer world.words.owners words.owners names l.keeps l.further all,
  all_still run l.longer world.words.owners words.owners weak_names l.keeps l.further weak,
  calls_still run l.longer world.words.owners words.owners calls l.keeps l.further under,
)

-- the names behind the end of a call
end_names : (run : Run) (owners : List Owner) (end : End) (names : List Named) → EndIsLoaded run owners (Done end) → AllLoaded run owners names → AllLoaded run owners (names_at end names)
end_names run owners (Owned name owner number) names was all = all_with run owners names (record { name = name; owner = owner }) all was
end_names run owners end names was all = all

end_weak_names : (run : Run) (owners : List Owner) (end : End) (names : List Named) → EndIsLoaded run owners (Done end) → AllLoaded run owners names → AllLoaded run owners (weak_names_at end names)
end_weak_names run owners (OwnedWeakly name owner number) names was all = all_with run owners names (record { name = name; owner = owner }) all was
end_weak_names run owners end names was all = all

all_made_shown : (first : List Record) (world : World) (call : Call) (s : Shown first world) (came : Progress × State Numbered) → LongerAt first s.run world.words.owners came → Shown first (all_made world call came).1
all_made_shown first world call s (On phase, words) l =
    let t = still_shown first s.run world world.names world.weak_names world.calls (On phase) words s.names s.weak_names s.calls l in
    record { run = l.longer; runs = l.runs; names = t.0; weak_names = t.1; calls = t.2 }
all_made_shown first world call s (Done end, words) l =
    let t = still_shown first s.run world world.names world.weak_names world.calls (Done end) words s.names s.weak_names s.calls l in
    record {
      run = l.longer;
      runs = l.runs;
      names = end_names l.longer words.owners end (given_up call world.names) l.ends (all_given_up l.longer words.owners call world.names t.0);
      weak_names = end_weak_names l.longer words.owners end (weak_given_up call world.weak_names) l.ends (weak_given_all l.longer words.owners call world.weak_names t.1);
      calls = t.2;
    }

-- how a call begins: what it uses comes from a load
abbrev pub StartLoaded : Run → List Owner → Start → Type 0
StartLoaded run owners Refused = Unit {0}
StartLoaded run owners (Answers given) = Unit {0}
StartLoaded run owners (Takes at) = PhaseLoaded run owners at

start_if : (run : Run) (owners : List Owner) (test : Bool) (one two : Start) → StartLoaded run owners one → StartLoaded run owners two → StartLoaded run owners (if test then one else two)
start_if run owners true one two a b = a
start_if run owners false one two a b = b

drop_loads : (run : Run) (owners : List Owner) (calls : List UnderWay) (o : Option ℕ) → StartLoaded run owners (drop_start calls o)
drop_loads run owners calls None = tt
drop_loads run owners calls (Some owner) = start_if run owners (is_used calls owner) _ _ tt tt

fade_loads : (run : Run) (owners : List Owner) (calls : List UnderWay) (o : Option ℕ) → StartLoaded run owners (fade_start calls o)
fade_loads run owners calls None = tt
fade_loads run owners calls (Some owner) = start_if run owners (is_used calls owner) _ _ tt tt

copy_loads : (run : Run) (owners : List Owner) (name given : List ℕ) (names : List Named) (o : Option ℕ) → AllLoaded run owners names → owner_of given names ≡ o → StartLoaded run owners (copy_start name o)
copy_loads run owners name given names None all e = tt
copy_loads run owners name given names (Some owner) all e = found_loaded run owners given names owner all e

weak_loads : (run : Run) (owners : List Owner) (name given : List ℕ) (names : List Named) (o : Option ℕ) → AllLoaded run owners names → owner_of given names ≡ o → StartLoaded run owners (weak_start name o)
weak_loads run owners name given names None all e = tt
weak_loads run owners name given names (Some owner) all e = found_loaded run owners given names owner all e

up_loads : (run : Run) (owners : List Owner) (calls : List UnderWay) (name weak : List ℕ) (names : List Named) (o : Option ℕ) → AllLoaded run owners names → owner_of weak names ≡ o → StartLoaded run owners (up_start calls name o)
up_loads run owners calls name weak names None all e = tt
up_loads run owners calls name weak names (Some owner) all e = start_if run owners (is_used calls owner) _ _ tt (found_loaded run owners weak names owner all e)

ask_loads : (run : Run) (owners : List Owner) (zone : Option (List Record)) (request : List ℕ) → StartLoaded run owners (ask_start zone request)
ask_loads run owners None request = tt
ask_loads run owners (Some zone) request = start_if run owners (asks_update (reads request) || asks_sent Udp zone (reads request)) _ _ tt tt

seek_loads : (run : Run) (owners : List Owner) (words : State Numbered) (sending : Sending) (later : List ℕ) → StartLoaded run owners (seek_start words sending later)
seek_loads run owners words sending [] = tt
seek_loads run owners words sending (owner ∷ left) = start_if run owners (nat_le (words.granted + length (owner ∷ left)) grants) _ _ tt tt

asked_loads : (run : Run) (owners : List Owner) (world : World) (sending : Sending) (query : QueryAsked) → StartLoaded run owners (transfer_asked world sending query)
asked_loads run owners world sending query =
    start_if run owners (not (is_permitted sending.version.zone (peer_over Tcp true) query)) _ _ tt
    (start_if run owners (is_some query.serial && is_barred world.calls) _ _ tt (seek_loads run owners world.words sending (later sending.version.number query.serial world.entries)))

said_loads : (run : Run) (owners : List Owner) (world : World) (sending : Sending) (said : Parsed) → StartLoaded run owners (transfer_said world sending said)
said_loads run owners world sending parsed.Silent = tt
said_loads run owners world sending (parsed.Fault head code) = tt
said_loads run owners world sending (parsed.BadOpt head question code dnssec_ok) = tt
said_loads run owners world sending (parsed.Query query) = asked_loads run owners world sending query
said_loads run owners world sending (parsed.Update update) = tt
said_loads run owners world sending (parsed.NoMemory head) = tt

of_loads : (run : Run) (owners : List Owner) (world : World) (owner : ℕ) (request : List ℕ) (version : Option Numbered) → StartLoaded run owners (transfer_of world owner request version)
of_loads run owners world owner request None = tt
of_loads run owners world owner request (Some version) = said_loads run owners world (none_got owner version request) (reads request)

transfer_loads : (run : Run) (owners : List Owner) (world : World) (request : List ℕ) (o : Option ℕ) → StartLoaded run owners (transfer_start world request o)
transfer_loads run owners world request None = tt
transfer_loads run owners world request (Some owner) = of_loads run owners world owner request (found_by world.words owner)

update_loads : (run : Run) (owners : List Owner) (world : World) (what : Option Judged) → StartLoaded run owners (update_start world what)
update_loads run owners world None = tt
update_loads run owners world (Some (judgement.Code head code)) = tt
update_loads run owners world (Some (judgement.Makes head version)) = start_if run owners (nat_lt world.words.granted grants && is_held world.words (oldest_kept world.keep world.kept) && can_enter world.words world.window) _ _ tt tt

start_loads : (first : List Record) (world : World) (call : Call) (s : Shown first world) → StartLoaded s.run world.words.owners (start world call)
start_loads first world (Load name) s = start_if s.run world.words.owners (is_taken name world) _ _ tt tt
start_loads first world (Drop name) s = drop_loads s.run world.words.owners world.calls (owner_of name world.names)
start_loads first world (Copy given name) s = start_if s.run world.words.owners (is_taken name world) _ _ tt (copy_loads s.run world.words.owners name given world.names (owner_of given world.names) s.names refl)
start_loads first world (Weak given name) s = start_if s.run world.words.owners (is_taken_weakly name world || is_barred world.calls) _ _ tt (weak_loads s.run world.words.owners name given world.names (owner_of given world.names) s.names refl)
start_loads first world (Fade name) s = fade_loads s.run world.words.owners world.calls (owner_of name world.weak_names)
start_loads first world (Up weak name) s = start_if s.run world.words.owners (is_taken name world) _ _ tt (up_loads s.run world.words.owners world.calls name weak world.weak_names (owner_of weak world.weak_names) s.weak_names refl)
start_loads first world (Ask name request) s = ask_loads s.run world.words.owners (zone_of name world) request
start_loads first world (Transfer name request) s = transfer_loads s.run world.words.owners world request (owner_of name world.names)
start_loads first world (Update request) s = start_if s.run world.words.owners (is_barred world.calls) _ _ tt (update_loads s.run world.words.owners world (option_and_then (λ last. judged last request) (found_last world.words)))

whole_shown : (first : List Record) (world : World) (call : Call) (how : Start) (s : Shown first world) → StartLoaded s.run world.words.owners how → ShownBehind first (whole world call how)
whole_shown first world call Refused s was = behind_some first _ s
whole_shown first world call (Answers answer) s was = behind_if first (is_full world) _ _ (behind_none first) (behind_some first _ s)
whole_shown first world call (Takes phase) s was =
    behind_if first (is_full world) _ _ (behind_none first)
    (behind_some first _ (all_made_shown first world call s (steps_up_to most_steps world.words phase) (longer_many most_steps first s.run world.words phase s.runs was)))

begin_shown : (first : List Record) (world : World) (name : List ℕ) (call : Call) (how : Start) (s : Shown first world) → StartLoaded s.run world.words.owners how → ShownBehind first (begin_call world name call how)
begin_shown first world name call Refused s was = behind_some first _ s
begin_shown first world name call (Answers answer) s was = behind_if first (is_full world) _ _ (behind_none first) (behind_some first _ s)
begin_shown first world name call (Takes phase) s was =
    behind_if first (is_full world) _ _ (behind_none first) (behind_some first _ (record {
      run = s.run;
      runs = s.runs;
      names = all_given_up s.run world.words.owners call world.names s.names;
      weak_names = weak_given_all s.run world.words.owners call world.weak_names s.weak_names;
      calls = calls_with s.run world.words.owners world.calls (record { name = name; phase = phase }) s.calls was;
    }))

begin_under_shown : (first : List Record) (world : World) (name : List ℕ) (call : Call) (other : Option UnderWay) → Shown first world → ShownBehind first (begin_under world name call other)
begin_under_shown first world name call None s = begin_shown first world name call (start world call) s (start_loads first world call s)
begin_under_shown first world name call (Some other) s = behind_some first _ s

stepped_shown : (first : List Record) (world : World) (name : List ℕ) (phase : Phase) (o : Option (Progress × State Numbered)) → step_once world.words phase ≡ o → (s : Shown first world) → PhaseLoaded s.run world.words.owners phase → Shown first (stepped world name phase o).1
stepped_shown first world name phase None is s was = s
stepped_shown first world name phase (Some (On further, words)) is s was =
    let l = longer_one first s.run world.words words phase (On further) s.runs was is in
    let t = still_shown first s.run world world.names world.weak_names (without_call name world.calls) (On further) words s.names s.weak_names (calls_without s.run world.words.owners name world.calls s.calls) l in
    record { run = l.longer; runs = l.runs; names = t.0; weak_names = t.1; calls = calls_with l.longer words.owners (without_call name world.calls) (record { name = name; phase = further }) t.2 l.ends }
stepped_shown first world name phase (Some (Done end, words)) is s was =
    let l = longer_one first s.run world.words words phase (Done end) s.runs was is in
    let t = still_shown first s.run world world.names world.weak_names (without_call name world.calls) (Done end) words s.names s.weak_names (calls_without s.run world.words.owners name world.calls s.calls) l in
    record {
      run = l.longer;
      runs = l.runs;
      names = end_names l.longer words.owners end world.names l.ends t.0;
      weak_names = end_weak_names l.longer words.owners end world.weak_names l.ends t.1;
      calls = t.2;
    }

next_shown : (first : List Record) (world : World) (name : List ℕ) (call : Option UnderWay) → call_of name world.calls ≡ call → Shown first world → Shown first (next world name call).1
next_shown first world name None found s = s
next_shown first world name (Some call) found s = stepped_shown first world name call.phase (step_once world.words call.phase) refl s (call_loaded s.run world.words.owners name world.calls call s.calls found)

turn_shown : (first : List Record) (world : World) (line : Line) → Shown first world → ShownBehind first (turn world line)
turn_shown first world (Whole call) s = whole_shown first world call (start world call) s (start_loads first world call s)
turn_shown first world (Begin name call) s = begin_under_shown first world name call (call_of name world.calls) s
turn_shown first world (Next name) s = behind_some first _ (next_shown first world name (call_of name world.calls) refl s)

rest_shown : (first : List Record) (lines : List Line) (given : WorldReply) (world behind : World) (replies : List WorldReply) (o : Option (List WorldReply × World)) → play world lines ≡ o
    → ((replies : List WorldReply) (behind : World) → play world lines ≡ Some (replies, behind) → Shown first behind) → onto_replies given o ≡ Some (replies, behind) → Shown first behind
rest_shown first lines given world behind replies None p all e = absurd (let wrong = e in cc)
rest_shown first lines given world behind replies (Some rest) p all e =
    let pair : (given ∷ rest.0, rest.1) ≡ (replies, behind) = (let i = e in cc) in
    subst (λ (w : World). Shown first w) (ap (λ (t : List WorldReply × World). t.1) pair) (all rest.0 rest.1 p)

line_shown : (first : List Record) (world behind : World) (lines : List Line) (replies : List WorldReply) (o : Option (WorldReply × World)) → ShownBehind first o
    → ((given : WorldReply) (world : World) → Shown first world → (replies : List WorldReply) (behind : World) → play world lines ≡ Some (replies, behind) → Shown first behind)
    → option_and_then (λ t. onto_replies t.0 (play t.1 lines)) o ≡ Some (replies, behind) → Shown first behind
line_shown first world behind lines replies None s all e = absurd (let wrong = e in cc)
line_shown first world behind lines replies (Some t) s all e =
    rest_shown first lines t.0 t.1 behind replies (play t.1 lines) refl (all t.0 t.1 (s t.0 t.1 refl)) e

play_shown : (first : List Record) (world : World) (lines : List Line) (replies : List WorldReply) (behind : World) → Shown first world → play world lines ≡ Some (replies, behind) → Shown first behind
play_shown first world [] replies behind s e =
    let pair : ([], world) ≡ (replies, behind) = (let i = e in cc) in
    subst (λ (w : World). Shown first w) (ap (λ (t : List WorldReply × World). t.1) pair) s
play_shown first world (line ∷ lines) replies behind s e =
    line_shown first world behind lines replies (turn world line) (turn_shown first world line s) (λ given between shown more last p. play_shown first between lines more last shown p) e

-- the first version is loaded once, and noted where there is a window
started_by : (first : List Record) (keep window : ℕ) (some : Bool) → nat_lt 0 window ≡ some → Shown first (started_within first keep window)
started_by first keep window true e = record {
  run = (word.Load, reported.Loaded 0 0) ∷ (word.Note 0, reported.Noted 1 0) ∷ [];
  runs = rw e (loaded_once (first_version first), (0, refl, lit< tt, refl, refl), (noted_once (first_version first), (0, 0, first_slot (first_version first), refl, refl, lit< tt, refl, refl), refl));
  names = tt;
  weak_names = tt;
  calls = tt;
}
started_by first keep window false e = record {
  run = (word.Load, reported.Loaded 0 0) ∷ [];
  runs = rw e (loaded_once (first_version first), (0, refl, lit< tt, refl, refl), refl);
  names = tt;
  weak_names = tt;
  calls = tt;
}

started_shown : (first : List Record) (keep window : ℕ) → Shown first (started first keep window)
started_shown first keep window = started_by first keep (min window most_entries) (nat_lt 0 (min window most_entries)) refl

pub played_shown : (first : List Record) (keep window : ℕ) (lines : List Line) (replies : List WorldReply) (world : World) → play (started first keep window) lines ≡ Some (replies, world) → Shown first world
played_shown first keep window lines replies world e = play_shown first (started first keep window) lines replies world (started_shown first keep window) e

pub play_runs : (first : List Record) (keep window : ℕ) (lines : List Line) (replies : List WorldReply) (world : World) → play (started first keep window) lines ≡ Some (replies, world) → (run : Run) × IsShownBy first run world
play_runs first keep window lines replies world e =
    let s = played_shown first keep window lines replies world e in (
      s.run,
      record {
        runs = s.runs;
        names = λ name owner is. (found_loaded s.run world.words.owners name world.names owner s.names is).from;
        weak_names = λ name owner is. (found_loaded s.run world.words.owners name world.weak_names owner s.weak_names is).from;
      },
    )

-- the words show a cell that is reached
pub play_reached : (first : List Record) (keep window : ℕ) (lines : List Line) (replies : List WorldReply) (world : World) → play (started first keep window) lines ≡ Some (replies, world) → ShowsReached first world.words
play_reached first keep window lines replies world e =
    let s = played_shown first keep window lines replies world e in
    let shows = run_shows (begun (first_version first)) world.words s.run (cell_start (first_version first)) (begun_shows (first_version first)) s.runs in
    record { cell = shows.0; steps = shows.1.steps; runs = shows.1.runs; shows = shows.2 }

-- an owner that finds a zone holds a number
held_by : (words : State Numbered) (owner : ℕ) (zone : List Record) (o : Option Owner) → slice_get words.owners owner ≡ o
    → option_map (λ (v : Numbered). v.zone) (option_map (λ (v : Version Numbered). v.value) (option_and_then (version_in words) (option_and_then place_of o))) ≡ Some zone
    → (number : ℕ) × (place : ℕ) × (slice_get words.owners owner ≡ Some (Holding number place))
held_by words owner zone None e found = absurd (let wrong = found in cc)
held_by words owner zone (Some (Holding number place)) e found = (number, place, e)
held_by words owner zone (Some (Burying place)) e found = absurd (let wrong = found in cc)
held_by words owner zone (Some (Twice number place)) e found = absurd (let wrong = found in cc)
held_by words owner zone (Some (Weakly number place)) e found = absurd (let wrong = found in cc)
held_by words owner zone (Some (Both number place)) e found = absurd (let wrong = found in cc)
held_by words owner zone (Some (Fading place)) e found = absurd (let wrong = found in cc)
held_by words owner zone (Some (Resetting place)) e found = absurd (let wrong = found in cc)
held_by words owner zone (Some (Freeing place)) e found = absurd (let wrong = found in cc)
held_by words owner zone (Some Spent) e found = absurd (let wrong = found in cc)

answered_by : (first : List Record) (world : World) (name : List ℕ) (zone : List Record) (o : Option ℕ) → owner_of name world.names ≡ o → Shown first world → ShowsReached first world.words
    → option_map (λ (v : Numbered). v.zone) (option_and_then (found_by world.words) o) ≡ Some zone → IsAnsweredAtLoaded first world name zone
answered_by first world name zone None owns s reached found = absurd (let wrong = found in cc)
answered_by first world name zone (Some owner) owns s reached found =
    let held = held_by world.words owner zone (slice_get world.words.owners owner) refl found in
    let was = found_loaded s.run world.words.owners name world.names owner s.names owns in
    let f = was.from in
    let has : (other slot : ℕ) → slice_get world.words.owners owner ≡ Some (Holding other slot) → other ≡ f.number = λ other slot h. was.keeps.same other slot (ap (option_and_then owned_of) h) in
    let same : held.0 ≡ f.number = has held.0 held.1 held.2 in
    let given = owner_is_given world.words reached.cell owner held.0 held.1 reached.shows held.2 in
    let last = was_in_w (begun (first_version first)) world.words s.run f.place f.loader f.number s.runs f.is_load in
    record {
      run = s.run;
      runs = s.runs;
      owner = owner;
      owns = owns;
      place = f.place;
      number = f.number;
      loader = f.loader;
      is_load = f.is_load;
      comes = f.comes;
      has = has;
      between = last.0;
      before = last.1;
      was_last = last.2;
      reached = reached;
      version = ap (λ n. option_map (λ (v : Numbered). v.zone) (slice_get reached.cell.published n)) (sym same) ∙ (ap (option_map (λ (v : Numbered). v.zone)) (sym given) ∙ found);
    }

pub answered_at_loaded : (first : List Record) (keep window : ℕ) (lines : List Line) (replies : List WorldReply) (world : World) (name : List ℕ) (zone : List Record) → play (started first keep window) lines ≡ Some (replies, world) → zone_of name world ≡ Some zone → IsAnsweredAtLoaded first world name zone
answered_at_loaded first keep window lines replies world name zone e found =
    answered_by first world name zone (owner_of name world.names) refl (played_shown first keep window lines replies world e) (play_reached first keep window lines replies world e) found

-- a request is answered in that zone
pub answered_so : (world : World) (name request : List ℕ) (zone : List Record) → zone_of name world ≡ Some zone → start world (Ask name request) ≡ ask_said zone (reads request)
answered_so world name request zone e = ap (λ found. ask_start found request) e
