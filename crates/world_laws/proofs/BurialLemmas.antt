-- A number is told as buried once.
use Rattle.std.proofs.Common.{◌≡◌, refl, sym, ap, ◌∙◌, subst, ℕ, zero, suc, ◌+◌, ◌<◌, ◌≤◌, Bool, true, false, ◌⊎◌, inl, inr, List, [], ◌∷◌, ◌++◌, length, arith, Option, Some, None}
use Rattle.std.specs.Prelude.{◌==◌, ◌||◌, ◌&&◌, is_some, not, nat_le, nat_lt, bytes_eq, filter, if◌then◌else◌}
use Rattle.std.specs.Option.{option_and_then}
use Rattle.std.proofs.lemmas.Bool.{cases_Bool}
use Rattle.std.proofs.lemmas.Bool.Decides.{eqb_tells}
use Rattle.cell_core.proofs.CountLemmas.{one_if}
use Rattle.cell_core.proofs.LawLemmas.{run_grows}
use Rattle.cell_core.proofs.RunShows.{step_runs}
use Rattle.cell_core.proofs.StepShows.{step_shows}
use Rattle.cell_core.specs.Cell.{Cell}
use Rattle.cell_core.specs.Made.{made}
use Rattle.cell_core.proofs.SeatLemmas.{held_none}
use Rattle.cell_core.specs.Shows.{Shows, ShowsStep, OwnerIs, holds as owner_has}
use Rattle.cell_core.specs.declared.words.Owner.{Owner}
use Rattle.cell_core.specs.declared.words.Owner.TheVariants.{Holding, Twice, Weakly, Both, Burying, Fading, Resetting, Freeing, Spent}
use Rattle.cell_core.specs.Words.{found_by, found_last, grants}
use Rattle.cell_core.specs.WordSteps.{Makes}
use Rattle.cell_core.specs.declared.words.WordEvent.{WordEvent}
use Rattle.cell_core.specs.declared.words.WordEvent.TheVariants as reported
use Rattle.cell_core.specs.declared.words.WordStep.TheVariants as word
use Rattle.dns_rdata.specs.Record.{Record}
use Rattle.serve_core.specs.declared.heading.Heading.{Heading}
use Rattle.dns_message.specs.declared.query.Parsed.{Parsed}
use Rattle.dns_message.specs.declared.query.Parsed.TheVariants as parsed
use Rattle.dns_message.specs.declared.query.Query.{Query as QueryAsked}
use Rattle.dns_message.specs.Request.{reads}
use Rattle.serve_core.specs.declared.transport.Transport.TheVariants.{Udp, Tcp}
use Rattle.serve_core.specs.Served.{got_for}
use Rattle.serve_core.specs.Transfers.{peer_over, is_permitted}
use Rattle.zone_tree.specs.Version.{Version as Numbered}
use Rattle.world_run.specs.declared.judged.Judged.{Judged}
use Rattle.world_run.specs.declared.judged.Judged.TheVariants as judgement
use Rattle.world_run.specs.declared.phase.End.{End}
use Rattle.world_run.specs.declared.phase.End.TheVariants.{Owned, OwnedWeakly, Replied, NoSlot, Kept, Sent}
use Rattle.world_run.specs.declared.phase.Keeping.{Keeping}
use Rattle.world_run.specs.declared.phase.Phase.{Phase}
use Rattle.world_run.specs.declared.phase.Phase.TheVariants as phase
use Rattle.world_run.specs.declared.phase.Purpose.{Purpose}
use Rattle.world_run.specs.declared.phase.Purpose.TheVariants as purpose
use Rattle.world_run.specs.declared.phase.Progress.{Progress}
use Rattle.world_run.specs.declared.phase.Progress.TheVariants.{On, Done}
use Rattle.world_run.specs.declared.calls.UnderWay.{UnderWay}
use Rattle.world_run.specs.declared.start.Start.{Start}
use Rattle.world_run.specs.declared.start.Start.TheVariants.{Refused, Answers, Takes}
use Rattle.world_run.specs.declared.step.Answer.{Answer}
use Rattle.world_run.specs.declared.step.Answer.TheVariants as answer
use Rattle.world_run.specs.declared.step.Call.{Call}
use Rattle.world_run.specs.declared.step.Call.TheVariants.{Load, Drop, Copy, Weak, Fade, Up, Ask, Transfer, Update}
use Rattle.world_run.specs.declared.step.WorldReply.{WorldReply}
use Rattle.world_run.specs.declared.step.WorldReply.TheVariants.{Answered, Begun, Step, Last, NotEnabled}
use Rattle.world_run.specs.declared.step.WorldStep.{WorldStep as Line}
use Rattle.world_run.specs.declared.step.WorldStep.TheVariants.{Whole, Begin, Next}
use Rattle.world_laws.specs.Held.{tells_buried, IsGone}
use Rattle.world_run.specs.Judgements.{asks_update, judged}
use Rattle.world_run.specs.Phases.{word_step, step_name, after, past, gone, leaving_after, oldest_after, sent_after, load_after, look_after, raise_after, note_after, probe_after, settle_after, keep_after, enter_after, seek_after, gain_after, gained_after, got_after, completed, with_got}
use Rattle.world_run.specs.Transfers.{sent_for, messages_answer}
use Rattle.world_run.specs.Entries.{later}
use Rattle.world_run.specs.declared.entries.Entry.{Entry}
use Rattle.world_run.specs.declared.sending.Seeking.{Seeking}
use Rattle.world_run.specs.declared.sending.Sending.{Sending}
use Rattle.world_run.specs.World.{World, started, call_of, without_call, owner_of, is_taken, zone_of, answer_of, asks_sent, ask_start, drop_start, fade_start, copy_start, weak_start, up_start, is_used, is_taken_weakly, seek_start, transfer_asked, transfer_said, transfer_of, transfer_start, none_got, is_barred, can_enter, is_held, oldest_kept, update_start, start, answer_at, step_once, steps_up_to, go_on, most_steps, is_full, all_made, whole, begin_call, begin_under, stepped, next, turn, onto_replies, play}
use Rattle.world_laws.proofs.FirstLemmas.{IsOpening, OpeningOf, start_opening}
use Rattle.world_laws.proofs.UsePlay.{started_in_use}
use Rattle.world_laws.proofs.UseLists.{Zones}
use Rattle.world_laws.proofs.SwapLemmas.{step_by}

-- a number that is to be told
abbrev pub told_of : ℕ → Option ℕ → ℕ
told_of n None = 0
told_of n (Some number) = one_if (number == n)

-- a number that a call has buried and is to tell
abbrev pub freed : ℕ → Phase → ℕ
freed n (phase.Load name) = 0
freed n (phase.Look name owner) = 0
freed n (phase.Seek owner seeking) = 0
freed n (phase.Gain owner seeking) = 0
freed n (phase.Raise name owner) = 0
freed n (phase.Note name owner) = 0
freed n (phase.Probe version keeping) = 0
freed n (phase.Prepare version keeping) = 0
freed n (phase.Swap keeping) = 0
freed n (phase.Settle keeping) = 0
freed n (phase.Keep given keeping) = 0
freed n (phase.Enter given kept keeping) = 0
freed n (phase.Release owner for) = 0
freed n (phase.Bury owner for) = 0
freed n (phase.Fade owner number for) = told_of n number
freed n (phase.Reset owner number for) = told_of n number
freed n (phase.Free owner number for) = told_of n number

abbrev pub frees : ℕ → List UnderWay → ℕ
frees n [] = 0
frees n (c ∷ cs) = freed n c.phase + frees n cs

abbrev pub buried_in : ℕ → Answer → ℕ
buried_in n (answer.Owner name number) = 0
buried_in n answer.Left = 0
buried_in n (answer.Buried number) = one_if (number == n)
buried_in n answer.Faded = 0
buried_in n answer.Nothing = 0
buried_in n (answer.Reply octets) = 0
buried_in n answer.Silent = 0
buried_in n (answer.Messages messages) = 0

abbrev pub told_by : ℕ → Progress → ℕ
told_by n (On at) = freed n at
told_by n (Done (Owned name owner number)) = 0
told_by n (Done (OwnedWeakly name owner number)) = 0
told_by n (Done (Replied given)) = buried_in n given
told_by n (Done (Sent sending)) = 0
told_by n (Done (NoSlot head)) = 0
told_by n (Done (Kept head owner entry)) = 0

-- each number was told once, or is to be told once, and is buried
pub record Once (words : Zones) (seen : ℕ → ℕ) (calls : List UnderWay) (progress : Progress) : Type 0 where
  pub cell : Cell Numbered
  pub shows : Shows words cell
  pub few : (n : ℕ) → seen n + (told_by n progress + frees n calls) ≤ 1
  pub gone : (n : ℕ) → 0 < seen n + (told_by n progress + frees n calls) → cell.buried n ≡ true

abbrev pub quiet : Progress
quiet = Done (Replied answer.Left)

-- a step that buries nothing tells no more
leaving_none : (n : ℕ) (head : Heading) (kept : ℕ) (entry : Option Entry) (leaving : List ℕ) → told_by n (leaving_after head kept entry leaving) ≡ 0
leaving_none n head kept entry [] = refl
leaving_none n head kept entry (owner ∷ leaving) = refl

oldest_none : (n : ℕ) (head : Heading) (kept : ℕ) (entry : Option Entry) (leaving : List ℕ) (oldest : Option ℕ) → told_by n (oldest_after head kept entry leaving oldest) ≡ 0
oldest_none n head kept entry leaving None = leaving_none n head kept entry leaving
oldest_none n head kept entry leaving (Some owner) = refl

sent_none : (n : ℕ) (sending : Sending) (got : List ℕ) → told_by n (sent_after sending got) ≡ 0
sent_none n sending [] = refl
sent_none n sending (owner ∷ got) = refl

past_less : (n : ℕ) (for : Purpose) (given : Answer) → told_by n (past for given) ≤ buried_in n given
past_less n purpose.Drop given = omega arith
past_less n (purpose.Publish keeping kept entry) given = let none = oldest_none n keeping.heading kept entry keeping.leaving keeping.oldest in omega (arith, none)
past_less n (purpose.Oldest head kept entry leaving) given = let none = leaving_none n head kept entry leaving in omega (arith, none)
past_less n (purpose.Leaves head kept entry leaving) given = let none = leaving_none n head kept entry leaving in omega (arith, none)
past_less n (purpose.Sent sending got) given = let none = sent_none n sending got in omega (arith, none)

load_none : (n : ℕ) (name : List ℕ) (event : WordEvent) → told_by n (load_after name event) ≡ 0
load_none n name (reported.Loaded owner number) = refl
load_none n name event = refl

look_none : (n : ℕ) (name : List ℕ) (owner : ℕ) (event : WordEvent) → told_by n (look_after name owner event) ≡ 0
look_none n name owner reported.Alive = refl
look_none n name owner reported.Dead = refl
look_none n name owner event = refl

raise_none : (n : ℕ) (name : List ℕ) (owner : ℕ) (event : WordEvent) → told_by n (raise_after name owner event) ≡ 0
raise_none n name owner (reported.Raised next number) = refl
raise_none n name owner reported.Dead = refl
raise_none n name owner event = refl

note_none : (n : ℕ) (name : List ℕ) (owner : ℕ) (event : WordEvent) → told_by n (note_after name owner event) ≡ 0
note_none n name owner (reported.Noted next number) = refl
note_none n name owner event = refl

probe_none : (n : ℕ) (version : Numbered) (keeping : Keeping) (event : WordEvent) → told_by n (probe_after version keeping event) ≡ 0
probe_none n version keeping reported.Taken = refl
probe_none n version keeping reported.NoSlot = refl
probe_none n version keeping event = refl

settle_none : (n : ℕ) (keeping : Keeping) (event : WordEvent) → told_by n (settle_after keeping event) ≡ 0
settle_none n keeping (reported.Settled owner number) = refl
settle_none n keeping event = refl

entered_none : (n given : ℕ) (keeping : Keeping) (owner : ℕ) (enters : Bool) → told_by n (if enters then On (phase.Enter given owner keeping) else On (phase.Release given (purpose.Publish keeping owner None))) ≡ 0
entered_none n given keeping owner true = refl
entered_none n given keeping owner false = refl

keep_none : (n given : ℕ) (keeping : Keeping) (event : WordEvent) → told_by n (keep_after given keeping event) ≡ 0
keep_none n given keeping (reported.Loaded owner number) = entered_none n given keeping owner (is_some keeping.enters)
keep_none n given keeping event = refl

enter_none : (n given kept : ℕ) (keeping : Keeping) (event : WordEvent) → told_by n (enter_after given kept keeping event) ≡ 0
enter_none n given kept keeping (reported.Noted owner number) = refl
enter_none n given kept keeping event = refl

seek_none : (n owner : ℕ) (seeking : Seeking) (event : WordEvent) → told_by n (seek_after owner seeking event) ≡ 0
seek_none n owner seeking reported.Alive = refl
seek_none n owner seeking reported.Dead = sent_none n seeking.sending seeking.owners
seek_none n owner seeking event = refl

gained_none : (n : ℕ) (seeking : Seeking) (left : List ℕ) → told_by n (gained_after seeking left) ≡ 0
gained_none n seeking [] = sent_none n (completed seeking.sending) seeking.owners
gained_none n seeking (owner ∷ left) = refl

got_none : (n owner : ℕ) (seeking : Seeking) (next_owner : ℕ) (found : Option Numbered) → told_by n (got_after owner seeking next_owner found) ≡ 0
got_none n owner seeking next_owner None = refl
got_none n owner seeking next_owner (Some version) = gained_none n (with_got next_owner version seeking) seeking.left

gain_none : (n : ℕ) (words : Zones) (owner : ℕ) (seeking : Seeking) (event : WordEvent) → told_by n (gain_after words owner seeking event) ≡ 0
gain_none n words owner seeking (reported.Raised next_owner number) = got_none n owner seeking next_owner (found_by words next_owner)
gain_none n words owner seeking reported.Dead = sent_none n seeking.sending seeking.owners
gain_none n words owner seeking event = refl

release_none : (words : Zones) (n owner : ℕ) (for : Purpose) (event : WordEvent) → told_by n (after words (phase.Release owner for) event) ≤ 0
release_none words n owner for reported.Emptied = omega arith
release_none words n owner for event = past_less n for answer.Left

gone_less : (n : ℕ) (for : Purpose) (number : Option ℕ) → told_by n (past for (gone number)) ≤ told_of n number
gone_less n for None = past_less n for answer.Faded
gone_less n for (Some number) = past_less n for (answer.Buried number)

fade_less : (words : Zones) (n owner : ℕ) (number : Option ℕ) (for : Purpose) (event : WordEvent) → told_by n (after words (phase.Fade owner number for) event) ≤ told_of n number
fade_less words n owner number for reported.Closed = omega arith
fade_less words n owner number for event = gone_less n for number

-- what a step makes of numbers that are to be told
record Goes (cell next : Cell Numbered) (at : Phase) (progress : Progress) : Type 0 where
  stays : (n : ℕ) → cell.buried n ≡ true → next.buried n ≡ true
  less : ((n : ℕ) → told_by n progress ≤ freed n at) ⊎ ((number : ℕ) × (cell.buried number ≡ false) × (next.buried number ≡ true) × ((n : ℕ) → told_by n progress ≡ one_if (number == n)))

grows : (words : Zones) (at : Phase) (event : WordEvent) (cell next : Cell Numbered) → ShowsStep words (word_step at) event cell next → (n : ℕ) → cell.buried n ≡ true → next.buried n ≡ true
grows words at event cell next s n e = let short = step_runs words (word_step at) event cell next s in (run_grows cell next short.steps short.runs).buried n e

bury_goes : (words new : Zones) (owner : ℕ) (for : Purpose) (event : WordEvent) (cell next : Cell Numbered) → Makes {T = Numbered} words (word.Bury owner) event new → ShowsStep {T = Numbered} words (word.Bury owner) event cell next → Goes cell next (phase.Bury owner for) (after new (phase.Bury owner for) event)
bury_goes words new owner for event cell next (place, there, use_of, found, m) s =
    elim (cases_Bool (there.shares == 0)) [
      | inl none ↦ (
          let h = rw none at m in
          let shown = subst (λ e. ShowsStep {T = Numbered} words (word.Bury owner) e cell next) h.2 s in
          let is : next.buried h.0 ≡ true = ap (λ (c : Cell Numbered). c.buried h.0) shown.4 ∙ (elim (eqb_tells h.0 h.0) [ inl same ↦ rw same.0 refl | inr other ↦ absurd (other.1 refl) ]) in
          subst (λ e. Goes cell next (phase.Bury owner for) (after new (phase.Bury owner for) e)) (sym h.2) (record {
            stays = grows words (phase.Bury owner for) event cell next s;
            less = inr (h.0, shown.2, is, λ n. refl);
          })
          )
      | inr some ↦ (
          let h = rw some at m in
          subst (λ e. Goes cell next (phase.Bury owner for) (after new (phase.Bury owner for) e)) (sym h.0) (record {
            stays = grows words (phase.Bury owner for) event cell next s;
            less = inl (λ n. past_less n for answer.Left);
          })
          )
    ]

goes : (words new : Zones) (at : Phase) (event : WordEvent) (cell next : Cell Numbered) → Makes words (word_step at) event new → ShowsStep words (word_step at) event cell next → Goes cell next at (after new at event)
goes words new (phase.Load name) event cell next m s = record { stays = grows words (phase.Load name) event cell next s; less = inl (λ n. let e = load_none n name event in omega (arith, e)) }
goes words new (phase.Look name owner) event cell next m s = record { stays = grows words (phase.Look name owner) event cell next s; less = inl (λ n. let e = look_none n name owner event in omega (arith, e)) }
goes words new (phase.Seek owner seeking) event cell next m s = record { stays = grows words (phase.Seek owner seeking) event cell next s; less = inl (λ n. let e = seek_none n owner seeking event in omega (arith, e)) }
goes words new (phase.Gain owner seeking) event cell next m s = record { stays = grows words (phase.Gain owner seeking) event cell next s; less = inl (λ n. let e = gain_none n new owner seeking event in omega (arith, e)) }
goes words new (phase.Raise name owner) event cell next m s = record { stays = grows words (phase.Raise name owner) event cell next s; less = inl (λ n. let e = raise_none n name owner event in omega (arith, e)) }
goes words new (phase.Note name owner) event cell next m s = record { stays = grows words (phase.Note name owner) event cell next s; less = inl (λ n. let e = note_none n name owner event in omega (arith, e)) }
goes words new (phase.Probe version keeping) event cell next m s = record { stays = grows words (phase.Probe version keeping) event cell next s; less = inl (λ n. let e = probe_none n version keeping event in omega (arith, e)) }
goes words new (phase.Prepare version keeping) event cell next m s = record { stays = grows words (phase.Prepare version keeping) event cell next s; less = inl (λ n. omega arith) }
goes words new (phase.Swap keeping) event cell next m s = record { stays = grows words (phase.Swap keeping) event cell next s; less = inl (λ n. omega arith) }
goes words new (phase.Settle keeping) event cell next m s = record { stays = grows words (phase.Settle keeping) event cell next s; less = inl (λ n. let e = settle_none n keeping event in omega (arith, e)) }
goes words new (phase.Keep given keeping) event cell next m s = record { stays = grows words (phase.Keep given keeping) event cell next s; less = inl (λ n. let e = keep_none n given keeping event in omega (arith, e)) }
goes words new (phase.Enter given kept keeping) event cell next m s = record { stays = grows words (phase.Enter given kept keeping) event cell next s; less = inl (λ n. let e = enter_none n given kept keeping event in omega (arith, e)) }
goes words new (phase.Release owner for) event cell next m s = record { stays = grows words (phase.Release owner for) event cell next s; less = inl (λ n. release_none new n owner for event) }
goes words new (phase.Bury owner for) event cell next m s = bury_goes words new owner for event cell next m s
goes words new (phase.Fade owner number for) event cell next m s = record { stays = grows words (phase.Fade owner number for) event cell next s; less = inl (λ n. fade_less new n owner number for event) }
goes words new (phase.Reset owner number for) event cell next m s = record { stays = grows words (phase.Reset owner number for) event cell next s; less = inl (λ n. omega arith) }
goes words new (phase.Free owner number for) event cell next m s = record { stays = grows words (phase.Free owner number for) event cell next s; less = inl (λ n. gone_less n for number) }

step_once_by : (words new : Zones) (seen : ℕ → ℕ) (calls : List UnderWay) (at : Phase) (event : WordEvent) → Makes words (word_step at) event new → Once words seen calls (On at) → Once new seen calls (after new at event)
step_once_by words new seen calls at event m o =
    let t = step_shows words new (word_step at) event o.cell o.shows m in
    let g = goes words new at event o.cell t.0 m t.1 in
    elim g.less [
      | inl less ↦ record {
        cell = t.0;
        shows = t.2;
        few = λ n. (let a = o.few n in let b = less n in omega (arith, a, b));
        gone = λ n some. g.stays n (o.gone n (let b = less n in omega (arith, some, b)));
      }
      | inr new_one ↦ record {
        cell = t.0;
        shows = t.2;
        few = λ n. (
            let is = new_one.3 n in
            let a = o.few n in
            elim (eqb_tells new_one.0 n) [
              | inl same ↦ (
                  let one : one_if (new_one.0 == n) ≡ 1 = rw same.0 refl in
                  let none : seen n + (freed n at + frees n calls) ≤ 0 = none_of (seen n + (freed n at + frees n calls)) (o.cell.buried n) (o.gone n) (ap o.cell.buried (sym same.1) ∙ new_one.1) in
                  omega (arith, is, one, none)
                  )
              | inr other ↦ (let zero_is : one_if (new_one.0 == n) ≡ 0 = rw other.0 refl in omega (arith, is, zero_is, a))
            ]
            );
        gone = λ n some. (
            let is = new_one.3 n in
            elim (eqb_tells new_one.0 n) [
              | inl same ↦ ap t.0.buried (sym same.1) ∙ new_one.2
              | inr other ↦ (let zero_is : one_if (new_one.0 == n) ≡ 0 = rw other.0 refl in g.stays n (o.gone n (omega (arith, is, zero_is, some))))
            ]
            );
      }
    ]
  where
    none_of : (m : ℕ) (b : Bool) → (0 < m → b ≡ true) → b ≡ false → m ≤ 0
    none_of zero b h e = omega arith
    none_of (suc m) b h e = absurd (let t = h (omega arith) in let wrong : true ≡ false = sym t ∙ e in cc)

step_one : (words new : Zones) (seen : ℕ → ℕ) (calls : List UnderWay) (at : Phase) (progress : Progress) → step_once words at ≡ Some (progress, new) → Once words seen calls (On at) → Once new seen calls progress
step_one words new seen calls at progress e o =
    let one = step_by words new at progress (made words (word_step at)) refl e in
    subst (λ p. Once new seen calls p) one.goes (step_once_by words new seen calls at one.event one.makes o)

many_by : (seen : ℕ → ℕ) (calls : List UnderWay) (words : Zones) (at : Phase) (more : Zones → Phase → Progress × Zones) (o : Option (Progress × Zones)) → ((words : Zones) (at : Phase) → Once words seen calls (On at) → Once (more words at).1 seen calls (more words at).0)
    → Once words seen calls (On at) → step_once words at ≡ o → Once (go_on more words at o).1 seen calls (go_on more words at o).0
many_by seen calls words at more None all it e = it
many_by seen calls words at more (Some (On next, between)) all it e = all between next (step_one words between seen calls at (On next) e it)
many_by seen calls words at more (Some (Done end, between)) all it e = step_one words between seen calls at (Done end) e it

many : (left : ℕ) (seen : ℕ → ℕ) (calls : List UnderWay) (words : Zones) (at : Phase) → Once words seen calls (On at) → Once (steps_up_to left words at).1 seen calls (steps_up_to left words at).0
unfolding steps_up_to
many zero seen calls words at it = it
many (suc left) seen calls words at it = many_by seen calls words at (steps_up_to left) (step_once words at) (many left seen calls) it refl

-- a reply tells a number
abbrev with_reply : (ℕ → ℕ) → WorldReply → ℕ → ℕ
with_reply seen given n = seen n + one_if (tells_buried n given)

abbrev After : (ℕ → ℕ) → WorldReply × World → Type 0
After seen played = Once played.1.words (with_reply seen played.0) played.1.calls quiet

silent : (words : Zones) (seen : ℕ → ℕ) (calls : List UnderWay) (given : WorldReply) → ((n : ℕ) → one_if (tells_buried n given) ≡ 0) → Once words seen calls quiet → Once words (with_reply seen given) calls quiet
silent words seen calls given none o = record {
  cell = o.cell;
  shows = o.shows;
  few = λ n. (let a = o.few n in let b = none n in omega (arith, a, b));
  gone = λ n some. o.gone n (let b = none n in omega (arith, some, b));
}

messages_told : (n : ℕ) (o : Option (List (List ℕ))) → one_if (tells_buried n (Answered (messages_answer o))) ≡ 0
messages_told n None = refl
messages_told n (Some messages) = refl

end_less : (n : ℕ) (end : End) → one_if (tells_buried n (Answered (answer_at end))) ≤ told_by n (Done end)
end_less n (Owned name owner number) = omega arith
end_less n (OwnedWeakly name owner number) = omega arith
end_less n (Replied (answer.Owner name number)) = omega arith
end_less n (Replied answer.Left) = omega arith
end_less n (Replied (answer.Buried number)) = omega arith
end_less n (Replied answer.Faded) = omega arith
end_less n (Replied answer.Nothing) = omega arith
end_less n (Replied (answer.Reply octets)) = omega arith
end_less n (Replied answer.Silent) = omega arith
end_less n (Replied (answer.Messages messages)) = omega arith
end_less n (NoSlot head) = omega arith
end_less n (Kept head owner entry) = omega arith
end_less n (Sent sending) = let none = messages_told n (sent_for sending (reads sending.request)) in omega (arith, none)

-- a call at its end tells what it is to tell
ended : (words : Zones) (seen : ℕ → ℕ) (calls : List UnderWay) (end : End) (given : WorldReply) → ((n : ℕ) → one_if (tells_buried n given) ≤ told_by n (Done end)) → Once words seen calls (Done end) → Once words (with_reply seen given) calls quiet
ended words seen calls end given less o = record {
  cell = o.cell;
  shows = o.shows;
  few = λ n. (let a = o.few n in let b = less n in omega (arith, a, b));
  gone = λ n some. o.gone n (let b = less n in omega (arith, some, b));
}

-- a call that takes its first step has nothing to tell
first_quiet : (at : Phase) (n : ℕ) → IsOpening at → freed n at ≡ 0
first_quiet (phase.Load name) n is = refl
first_quiet (phase.Look name owner) n is = refl
first_quiet (phase.Raise name owner) n is = refl
first_quiet (phase.Note name owner) n is = refl
first_quiet (phase.Probe version keeping) n is = refl
first_quiet (phase.Prepare version keeping) n is = refl
first_quiet (phase.Swap keeping) n is = refl
first_quiet (phase.Settle keeping) n is = refl
first_quiet (phase.Keep given keeping) n is = refl
first_quiet (phase.Enter given kept keeping) n is = refl
first_quiet (phase.Seek owner seeking) n is = refl
first_quiet (phase.Gain owner seeking) n is = refl
first_quiet (phase.Release owner for) n is = refl
first_quiet (phase.Bury owner for) n is = refl
first_quiet (phase.Fade owner None for) n is = refl
first_quiet (phase.Fade owner (Some number) for) n is = absurd is
first_quiet (phase.Reset owner number for) n is = absurd is
first_quiet (phase.Free owner number for) n is = absurd is

begun_once : (words : Zones) (seen : ℕ → ℕ) (calls : List UnderWay) (at : Phase) → IsOpening at → Once words seen calls quiet → Once words seen calls (On at)
begun_once words seen calls at is o = record {
  cell = o.cell;
  shows = o.shows;
  few = λ n. (let a = o.few n in let b = first_quiet at n is in omega (arith, a, b));
  gone = λ n some. o.gone n (let b = first_quiet at n is in omega (arith, some, b));
}

-- an answer without a step tells no number
abbrev IsStill : Start → Type 0
IsStill Refused = Unit {0}
IsStill (Answers given) = (n : ℕ) → buried_in n given ≡ 0
IsStill (Takes at) = Unit {0}

still_if : (test : Bool) (one two : Start) → IsStill one → IsStill two → IsStill (if test then one else two)
still_if true one two a b = a
still_if false one two a b = b

answer_still : (n : ℕ) (o : Option (List ℕ)) → buried_in n (answer_of o) ≡ 0
answer_still n None = refl
answer_still n (Some octets) = refl

drop_still : (calls : List UnderWay) (o : Option ℕ) → IsStill (drop_start calls o)
drop_still calls None = tt
drop_still calls (Some owner) = still_if (is_used calls owner) _ _ tt tt

fade_still : (calls : List UnderWay) (o : Option ℕ) → IsStill (fade_start calls o)
fade_still calls None = tt
fade_still calls (Some owner) = still_if (is_used calls owner) _ _ tt tt

copy_still : (name : List ℕ) (o : Option ℕ) → IsStill (copy_start name o)
copy_still name None = tt
copy_still name (Some owner) = tt

weak_still : (name : List ℕ) (o : Option ℕ) → IsStill (weak_start name o)
weak_still name None = tt
weak_still name (Some owner) = tt

up_still : (calls : List UnderWay) (name : List ℕ) (o : Option ℕ) → IsStill (up_start calls name o)
up_still calls name None = tt
up_still calls name (Some owner) = still_if (is_used calls owner) _ _ tt tt

ask_still : (zone : Option (List Record)) (request : List ℕ) → IsStill (ask_start zone request)
ask_still None request = tt
ask_still (Some zone) request = still_if (asks_update (reads request) || asks_sent Udp zone (reads request)) _ _ tt (λ n. answer_still n (got_for Udp true zone (reads request)).reply)

sent_still : (n : ℕ) (o : Option (List (List ℕ))) → buried_in n (messages_answer o) ≡ 0
sent_still n None = refl
sent_still n (Some messages) = refl

seek_still : (words : Zones) (sending : Sending) (owners : List ℕ) → IsStill (seek_start words sending owners)
seek_still words sending [] = λ n. sent_still n (sent_for sending (reads sending.request))
seek_still words sending (owner ∷ left) = still_if (nat_le (words.granted + length (owner ∷ left)) grants) _ _ tt tt

asked_still : (world : World) (sending : Sending) (query : QueryAsked) → IsStill (transfer_asked world sending query)
asked_still world sending query =
    still_if (not (is_permitted sending.version.zone (peer_over Tcp true) query)) _ _ tt
    (still_if (is_some query.serial && is_barred world.calls) _ _ tt (seek_still world.words sending (later sending.version.number query.serial world.entries)))

said_still : (world : World) (sending : Sending) (said : Parsed) → IsStill (transfer_said world sending said)
said_still world sending parsed.Silent = tt
said_still world sending (parsed.Fault head code) = tt
said_still world sending (parsed.BadOpt head question code dnssec_ok) = tt
said_still world sending (parsed.Query query) = asked_still world sending query
said_still world sending (parsed.Update update) = tt
said_still world sending (parsed.NoMemory head) = tt

of_still : (world : World) (owner : ℕ) (request : List ℕ) (version : Option Numbered) → IsStill (transfer_of world owner request version)
of_still world owner request None = tt
of_still world owner request (Some version) = said_still world (none_got owner version request) (reads request)

transfer_still : (world : World) (request : List ℕ) (owner : Option ℕ) → IsStill (transfer_start world request owner)
transfer_still world request None = tt
transfer_still world request (Some owner) = of_still world owner request (found_by world.words owner)

update_still : (world : World) (what : Option Judged) → IsStill (update_start world what)
update_still world None = tt
update_still world (Some (judgement.Code head code)) = λ n. refl
update_still world (Some (judgement.Makes head version)) = still_if (nat_lt world.words.granted grants && is_held world.words (oldest_kept world.keep world.kept) && can_enter world.words world.window) _ _ tt tt

start_still : (world : World) (call : Call) → IsStill (start world call)
start_still world (Load name) = still_if (is_taken name world) _ _ tt tt
start_still world (Drop name) = drop_still world.calls (owner_of name world.names)
start_still world (Copy given name) = still_if (is_taken name world) _ _ tt (copy_still name (owner_of given world.names))
start_still world (Weak given name) = still_if (is_taken_weakly name world || is_barred world.calls) _ _ tt (weak_still name (owner_of given world.names))
start_still world (Fade name) = fade_still world.calls (owner_of name world.weak_names)
start_still world (Up weak name) = still_if (is_taken name world) _ _ tt (up_still world.calls name (owner_of weak world.weak_names))
start_still world (Ask name request) = ask_still (zone_of name world) request
start_still world (Transfer name request) = transfer_still world request (owner_of name world.names)
start_still world (Update request) = still_if (is_barred world.calls) _ _ tt (update_still world (option_and_then (λ last. judged last request) (found_last world.words)))

told_same : (n : ℕ) (given : Answer) → one_if (tells_buried n (Answered given)) ≤ buried_in n given
told_same n (answer.Owner name number) = omega arith
told_same n answer.Left = omega arith
told_same n (answer.Buried number) = omega arith
told_same n answer.Faded = omega arith
told_same n answer.Nothing = omega arith
told_same n (answer.Reply octets) = omega arith
told_same n answer.Silent = omega arith
told_same n (answer.Messages messages) = omega arith

answered_once : (words : Zones) (seen : ℕ → ℕ) (calls : List UnderWay) (given : Answer) → ((n : ℕ) → buried_in n given ≡ 0) → Once words seen calls quiet → Once words (with_reply seen (Answered given)) calls quiet
answered_once words seen calls given none o = silent words seen calls (Answered given) (λ n. let a = none n in let b = told_same n given in omega (arith, a, b)) o

-- behind a line
abbrev OnceBehind : (ℕ → ℕ) → Option (WorldReply × World) → Type 0
OnceBehind seen o = (given : WorldReply) (world : World) → o ≡ Some (given, world) → Once world.words (with_reply seen given) world.calls quiet

to_some : (seen : ℕ → ℕ) (played : WorldReply × World) → After seen played → OnceBehind seen (Some played)
to_some seen played a given world e =
    let pair : played ≡ (given, world) = (let i = e in cc) in subst (λ p. After seen p) pair a

to_none : (seen : ℕ → ℕ) → OnceBehind seen None
to_none seen given world e = absurd (let wrong = e in cc)

to_if : (seen : ℕ → ℕ) (test : Bool) (one two : Option (WorldReply × World)) → OnceBehind seen one → OnceBehind seen two → OnceBehind seen (if test then one else two)
to_if seen true one two a b = a
to_if seen false one two a b = b

-- a call that stands still tells nothing
left_there : (words : Zones) (seen : ℕ → ℕ) (calls : List UnderWay) (at : Phase) → Once words seen calls (On at) → Once words (with_reply seen NotEnabled) calls quiet
left_there words seen calls at o = record {
  cell = o.cell;
  shows = o.shows;
  few = λ n. (let a = o.few n in omega (arith, a));
  gone = λ n some. o.gone n (omega (arith, some));
}

made_once : (seen : ℕ → ℕ) (world : World) (call : Call) (came : Progress × Zones) → Once came.1 seen world.calls came.0 → After seen (all_made world call came)
made_once seen world call (On at, words) o = left_there words seen world.calls at o
made_once seen world call (Done end, words) o = ended words seen world.calls end (Answered (answer_at end)) (λ n. end_less n end) o

whole_once : (seen : ℕ → ℕ) (world : World) (call : Call) (how : Start) → IsStill how → OpeningOf how → Once world.words seen world.calls quiet → OnceBehind seen (whole world call how)
whole_once seen world call Refused still is o = to_some seen _ (silent world.words seen world.calls NotEnabled (λ n. refl) o)
whole_once seen world call (Answers given) still is o = to_if seen (is_full world) _ _ (to_none seen) (to_some seen _ (answered_once world.words seen world.calls given still o))
whole_once seen world call (Takes at) still is o =
    to_if seen (is_full world) _ _ (to_none seen) (to_some seen _ (made_once seen world call (steps_up_to most_steps world.words at) (many most_steps seen world.calls world.words at (begun_once world.words seen world.calls at is o))))

-- one call more under way
frees_push : (n : ℕ) (calls : List UnderWay) (c : UnderWay) → frees n (calls ++ c ∷ []) ≡ frees n calls + freed n c.phase
frees_push n [] c = omega arith
frees_push n (x ∷ calls) c = let more = frees_push n calls c in omega (arith, more)

pushed : (words : Zones) (seen : ℕ → ℕ) (calls : List UnderWay) (c : UnderWay) (given : WorldReply) → ((n : ℕ) → one_if (tells_buried n given) ≡ 0) → Once words seen calls (On c.phase) → Once words (with_reply seen given) (calls ++ c ∷ []) quiet
pushed words seen calls c given none o = record {
  cell = o.cell;
  shows = o.shows;
  few = λ n. (let a = o.few n in let b = none n in let d = frees_push n calls c in omega (arith, a, b, d));
  gone = λ n some. o.gone n (let b = none n in let d = frees_push n calls c in omega (arith, some, b, d));
}

begin_once : (seen : ℕ → ℕ) (world : World) (name : List ℕ) (call : Call) (how : Start) → IsStill how → OpeningOf how → Once world.words seen world.calls quiet → OnceBehind seen (begin_call world name call how)
begin_once seen world name call Refused still is o = to_some seen _ (silent world.words seen world.calls NotEnabled (λ n. refl) o)
begin_once seen world name call (Answers given) still is o = to_if seen (is_full world) _ _ (to_none seen) (to_some seen _ (answered_once world.words seen world.calls given still o))
begin_once seen world name call (Takes at) still is o =
    to_if seen (is_full world) _ _ (to_none seen) (to_some seen _ (pushed world.words seen world.calls (record { name = name; phase = at }) Begun (λ n. refl) (begun_once world.words seen world.calls at is o)))

under_once : (seen : ℕ → ℕ) (world : World) (name : List ℕ) (call : Call) (other : Option UnderWay) → Once world.words seen world.calls quiet → OnceBehind seen (begin_under world name call other)
under_once seen world name call None o = begin_once seen world name call (start world call) (start_still world call) (start_opening world call) o
under_once seen world name call (Some other) o = to_some seen _ (silent world.words seen world.calls NotEnabled (λ n. refl) o)

-- the call of a name, apart
frees_without : (n : ℕ) (name : List ℕ) (calls : List UnderWay) → frees n (without_call name calls) ≤ frees n calls
frees_without n name [] = omega arith
frees_without n name (x ∷ calls) =
    let more = frees_without n name calls in
    elim (cases_Bool (bytes_eq x.name name)) [
      | inl same ↦ (let e : frees n (without_call name (x ∷ calls)) ≡ frees n (without_call name calls) = rw same refl in omega (arith, more, e))
      | inr other ↦ (let e : frees n (without_call name (x ∷ calls)) ≡ freed n x.phase + frees n (without_call name calls) = rw other refl in omega (arith, more, e))
    ]

frees_apart : (n : ℕ) (name : List ℕ) (calls : List UnderWay) (c : UnderWay) → call_of name calls ≡ Some c → freed n c.phase + frees n (without_call name calls) ≤ frees n calls
frees_apart n name [] c e = absurd (let wrong = e in cc)
frees_apart n name (x ∷ calls) c e =
    elim (cases_Bool (bytes_eq x.name name)) [
      | inl same ↦ (
          let found = rw same at e in
          let it : x ≡ c = (let f = found in cc) in
          let is : freed n x.phase ≡ freed n c.phase = ap (λ (y : UnderWay). freed n y.phase) it in
          let f : frees n (without_call name (x ∷ calls)) ≡ frees n (without_call name calls) = rw same refl in
          let less = frees_without n name calls in
          omega (arith, is, f, less)
          )
      | inr other ↦ (
          let there : call_of name calls ≡ Some c = rw other at e in
          let more = frees_apart n name calls c there in
          let f : frees n (without_call name (x ∷ calls)) ≡ freed n x.phase + frees n (without_call name calls) = rw other refl in
          omega (arith, more, f)
          )
    ]

apart_once : (words : Zones) (seen : ℕ → ℕ) (name : List ℕ) (calls : List UnderWay) (c : UnderWay) → call_of name calls ≡ Some c → Once words seen calls quiet → Once words seen (without_call name calls) (On c.phase)
apart_once words seen name calls c found o = record {
  cell = o.cell;
  shows = o.shows;
  few = λ n. (let a = o.few n in let b = frees_apart n name calls c found in omega (arith, a, b));
  gone = λ n some. o.gone n (let b = frees_apart n name calls c found in omega (arith, some, b));
}

stepped_once : (seen : ℕ → ℕ) (world : World) (name : List ℕ) (call : UnderWay) (o : Option (Progress × Zones)) → call_of name world.calls ≡ Some call → step_once world.words call.phase ≡ o → Once world.words seen world.calls quiet → After seen (stepped world name call.phase o)
stepped_once seen world name call None found is once = silent world.words seen world.calls NotEnabled (λ n. refl) once
stepped_once seen world name call (Some (On further, words)) found is once =
    pushed words seen (without_call name world.calls) (record { name = name; phase = further }) (Step (step_name call.phase)) (λ n. refl)
    (step_one world.words words seen (without_call name world.calls) call.phase (On further) is (apart_once world.words seen name world.calls call found once))
stepped_once seen world name call (Some (Done end, words)) found is once =
    ended words seen (without_call name world.calls) end (Last (step_name call.phase) (answer_at end)) (λ n. end_less n end)
    (step_one world.words words seen (without_call name world.calls) call.phase (Done end) is (apart_once world.words seen name world.calls call found once))

next_once : (seen : ℕ → ℕ) (world : World) (name : List ℕ) (o : Option UnderWay) → call_of name world.calls ≡ o → Once world.words seen world.calls quiet → After seen (next world name o)
next_once seen world name None found once = silent world.words seen world.calls NotEnabled (λ n. refl) once
next_once seen world name (Some call) found once = stepped_once seen world name call (step_once world.words call.phase) found refl once

turn_once : (seen : ℕ → ℕ) (world : World) (line : Line) → Once world.words seen world.calls quiet → OnceBehind seen (turn world line)
turn_once seen world (Whole call) o = whole_once seen world call (start world call) (start_still world call) (start_opening world call) o
turn_once seen world (Begin name call) o = under_once seen world name call (call_of name world.calls) o
turn_once seen world (Next name) o = to_some seen _ (next_once seen world name (call_of name world.calls) refl o)

-- how often replies tell a number
abbrev pub tellings : ℕ → List WorldReply → ℕ
tellings n replies = length (filter (tells_buried n) replies)

one_telling : (n : ℕ) (given : WorldReply) (replies : List WorldReply) → tellings n (given ∷ replies) ≡ one_if (tells_buried n given) + tellings n replies
one_telling n given replies =
    elim (cases_Bool (tells_buried n given)) [
      | inl it ↦ (let e : tellings n (given ∷ replies) ≡ suc (tellings n replies) = rw it refl in let f : one_if (tells_buried n given) ≡ 1 = rw it refl in omega (arith, e, f))
      | inr other ↦ (let e : tellings n (given ∷ replies) ≡ tellings n replies = rw other refl in let f : one_if (tells_buried n given) ≡ 0 = rw other refl in omega (arith, e, f))
    ]

-- what is told over lines
record ToldOnce (seen : ℕ → ℕ) (replies : List WorldReply) (behind : World) : Type 0 where
  cell : Cell Numbered
  shows : Shows behind.words cell
  few : (n : ℕ) → seen n + tellings n replies ≤ 1
  gone : (n : ℕ) → 0 < seen n + tellings n replies → cell.buried n ≡ true

rest_told : (seen : ℕ → ℕ) (lines : List Line) (given : WorldReply) (world behind : World) (replies : List WorldReply) (o : Option (List WorldReply × World)) → play world lines ≡ o
    → ((replies : List WorldReply) (behind : World) → play world lines ≡ Some (replies, behind) → ToldOnce (with_reply seen given) replies behind) → onto_replies given o ≡ Some (replies, behind) → ToldOnce seen replies behind
rest_told seen lines given world behind replies None p all e = absurd (let wrong = e in cc)
rest_told seen lines given world behind replies (Some rest) p all e =
    let pair : (given ∷ rest.0, rest.1) ≡ (replies, behind) = (let i = e in cc) in
    let t = all rest.0 rest.1 p in
    subst (λ (p : List WorldReply × World). ToldOnce seen p.0 p.1) pair (record {
      cell = t.cell;
      shows = t.shows;
      few = λ n. (let a = t.few n in let b = one_telling n given rest.0 in omega (arith, a, b));
      gone = λ n some. t.gone n (let b = one_telling n given rest.0 in omega (arith, some, b));
    })

line_told : (seen : ℕ → ℕ) (world behind : World) (lines : List Line) (replies : List WorldReply) (o : Option (WorldReply × World)) → OnceBehind seen o
    → ((given : WorldReply) (world : World) → Once world.words (with_reply seen given) world.calls quiet → (replies : List WorldReply) (behind : World) → play world lines ≡ Some (replies, behind) → ToldOnce (with_reply seen given) replies behind)
    → option_and_then (λ t. onto_replies t.0 (play t.1 lines)) o ≡ Some (replies, behind) → ToldOnce seen replies behind
line_told seen world behind lines replies None g all e = absurd (let wrong = e in cc)
line_told seen world behind lines replies (Some t) g all e = rest_told seen lines t.0 t.1 behind replies (play t.1 lines) refl (all t.0 t.1 (g t.0 t.1 refl)) e

play_told : (seen : ℕ → ℕ) (world : World) (lines : List Line) (replies : List WorldReply) (behind : World) → Once world.words seen world.calls quiet → play world lines ≡ Some (replies, behind) → ToldOnce seen replies behind
play_told seen world [] replies behind o e =
    let pair : ([], world) ≡ (replies, behind) = (let i = e in cc) in
    subst (λ (p : List WorldReply × World). ToldOnce seen p.0 p.1) pair (record {
      cell = o.cell;
      shows = o.shows;
      few = λ n. (let a = o.few n in omega (arith, a));
      gone = λ n some. o.gone n (omega (arith, some));
    })
play_told seen world (line ∷ lines) replies behind o e =
    line_told seen world behind lines replies (turn world line) (turn_once seen world line o) (λ given between once more last p. play_told (with_reply seen given) between lines more last once p) e

-- what is told, from the first line on
told_from : (first : List Record) (keep window : ℕ) (lines : List Line) (replies : List WorldReply) (world : World) → play (started first keep window) lines ≡ Some (replies, world) → ToldOnce (λ n. 0) replies world
told_from first keep window lines replies world e =
    let h = started_in_use first keep window in
    play_told (λ n. 0) (started first keep window) lines replies world (record { cell = h.cell; shows = h.shows; few = λ n. omega arith; gone = λ n some. absurd (omega (arith, some)) }) e

-- whatever lines were played, each number is told as buried once at most
pub told_once : (first : List Record) (keep window : ℕ) (lines : List Line) (replies : List WorldReply) (world : World) (number : ℕ) → play (started first keep window) lines ≡ Some (replies, world) → length (filter (tells_buried number) replies) ≤ 1
told_once first keep window lines replies world number e =
    let t = told_from first keep window lines replies world e in
    let a = t.few number in omega (arith, a)

-- an owner of a number that is buried is none
unheld : (words : Zones) (cell : Cell Numbered) (s : Shows words cell) (number i : ℕ) (how : Owner) → cell.buried number ≡ true → OwnerIs cell s.plan i how → owner_has number how ≡ 0
unheld words cell s number i (Holding other place) gone is =
    elim (eqb_tells number other) [
      | inl same ↦ absurd (let f : cell.buried number ≡ false = ap cell.buried same.1 ∙ is.unburied in let wrong : true ≡ false = sym gone ∙ f in cc)
      | inr apart ↦ rw apart.0 refl
    ]
unheld words cell s number i (Twice other place) gone is =
    elim (eqb_tells number other) [
      | inl same ↦ absurd (let f : cell.buried number ≡ false = ap cell.buried same.1 ∙ is.unburied in let wrong : true ≡ false = sym gone ∙ f in cc)
      | inr apart ↦ rw apart.0 refl
    ]
unheld words cell s number i (Both other place) gone is =
    elim (eqb_tells number other) [
      | inl same ↦ absurd (let f : cell.buried number ≡ false = ap cell.buried same.1 ∙ is.0.unburied in let wrong : true ≡ false = sym gone ∙ f in cc)
      | inr apart ↦ rw apart.0 refl
    ]
unheld words cell s number i (Weakly other place) gone is = refl
unheld words cell s number i (Burying place) gone is = refl
unheld words cell s number i (Fading place) gone is = refl
unheld words cell s number i (Resetting place) gone is = refl
unheld words cell s number i (Freeing place) gone is = refl
unheld words cell s number i Spent gone is = refl

-- and then nobody owns it, and it isn't the last
pub told_final : (first : List Record) (keep window : ℕ) (lines : List Line) (replies : List WorldReply) (world : World) (number : ℕ) → play (started first keep window) lines ≡ Some (replies, world) → 0 < length (filter (tells_buried number) replies) → IsGone world number
told_final first keep window lines replies world number e some =
    let t = told_from first keep window lines replies world e in
    let gone = t.gone number (omega (arith, some)) in
    let before = t.shows.numbers.buried number gone in
    record {
      cell = t.cell;
      shows = t.shows;
      buried = gone;
      unheld = held_none world.words.owners number (λ i how at. unheld world.words t.cell t.shows number i how gone (t.shows.owner_is i how at));
      before_last = omega (arith, before, t.shows.numbers.last);
    }
