-- The versions of a run are the replays of its updates.
use Rattle.std.proofs.Common.{lit<, ◌≡◌, ◌≢◌, refl, sym, ap, ◌∙◌, subst, ℕ, zero, suc, ◌+◌, ◌<◌, ◌≤◌, ◌⊎◌, inl, inr, Bool, true, false, List, [], ◌∷◌, ◌++◌, length, take, arith, Option, Some, None}
use Rattle.std.specs.Prelude.{◌&&◌, is_some, min, nat_le, nat_lt, if◌then◌else◌, ◌||◌, not, bytes_eq}
use Rattle.std.proofs.lemmas.Bool.{cases_Bool}
use Rattle.std.proofs.lemmas.Slice.Eq.{bytes_eq-Decides}
use Rattle.std.specs.List.{slice_get}
use Rattle.std.specs.Option.{option_map, option_and_then}
use Rattle.std.proofs.lemmas.List.{take_all, length-map}
use Rattle.std.proofs.lemmas.Option.{slice_get_within}
use Rattle.cell_core.proofs.BeginShows.{begun_shows}
use Rattle.cell_core.proofs.SeatLemmas.{get_within}
use Rattle.cell_core.proofs.UserLemmas.{last_is_given, owner_is_given}
use Rattle.cell_core.specs.Cell.{start as cell_start}
use Rattle.cell_core.specs.Made.{made}
use Rattle.cell_core.specs.Words.{grants, begun, first_slot, version_in, place_of, found_by, found_last}
use Rattle.cell_core.specs.declared.words.Owner.{Owner}
use Rattle.cell_core.specs.declared.words.Owner.TheVariants.{Holding, Twice, Weakly, Both, Burying, Fading, Resetting, Freeing, Spent}
use Rattle.cell_core.specs.declared.words.Version.{Version}
use Rattle.cell_core.specs.declared.words.WordEvent.TheVariants as reported
use Rattle.cell_core.specs.declared.words.WordStep.TheVariants as word
use Rattle.dns_rdata.specs.Record.{Record}
use Rattle.serve_core.specs.Heading.{heading_of_update}
use Rattle.serve_core.specs.declared.heading.Heading.{Heading}
use Rattle.dns_message.specs.declared.update.Update.{Update as DynamicUpdate}
use Rattle.dns_message.specs.Request.{reads}
use Rattle.update_core.specs.Act.{act, replay}
use Rattle.update_core.specs.Verdict.{verdict}
use Rattle.dns_message.specs.declared.query.Parsed.{Parsed}
use Rattle.dns_message.specs.declared.query.Parsed.TheVariants as parsed
use Rattle.dns_message.specs.declared.query.Query.{Query as QueryAsked}
use Rattle.serve_core.specs.declared.transport.Transport.TheVariants.{Udp, Tcp}
use Rattle.serve_core.specs.Transfers.{peer_over, is_permitted}
use Rattle.world_run.specs.World.{asks_sent, seek_start, transfer_asked, transfer_said, transfer_of, transfer_start, none_got, is_barred, can_enter, noted_once, started_words}
use Rattle.world_run.specs.Entries.{most_entries, entered, enters, later}
use Rattle.world_run.specs.declared.entries.Entry.{Entry}
use Rattle.world_run.specs.declared.phase.End.{End}
use Rattle.world_run.specs.declared.phase.End.TheVariants.{Owned, OwnedWeakly, Replied, NoSlot, Kept, Sent}
use Rattle.world_run.specs.declared.sending.Sending.{Sending}
use Rattle.world_run.specs.declared.judged.Judged.{Judged}
use Rattle.world_run.specs.declared.judged.Judged.TheVariants as judgement
use Rattle.world_run.specs.declared.phase.Phase.{Phase}
use Rattle.world_run.specs.declared.phase.Progress.{Progress}
use Rattle.world_run.specs.declared.phase.Progress.TheVariants.{On, Done}
use Rattle.world_run.specs.declared.calls.UnderWay.{UnderWay}
use Rattle.world_run.specs.declared.start.Start.{Start}
use Rattle.world_run.specs.declared.start.Start.TheVariants.{Refused, Answers, Takes}
use Rattle.world_run.specs.declared.step.Call.{Call}
use Rattle.world_run.specs.declared.step.Call.TheVariants.{Load, Drop, Copy, Weak, Fade, Up, Ask, Transfer, Update}
use Rattle.world_run.specs.declared.step.WorldReply.{WorldReply}
use Rattle.world_run.specs.declared.step.WorldStep.{WorldStep as Line}
use Rattle.world_run.specs.declared.step.WorldStep.TheVariants.{Whole, Begin, Next}
use Rattle.world_run.specs.Judgements.{asks_update, judged}
use Rattle.zone_tree.specs.Version.{Version as Numbered, KnowsChanges, zone_serial}
use Rattle.world_run.specs.Numbered.{first_version}
use Rattle.world_run.specs.Phases.{word_step, after, updates}
use Rattle.world_laws.specs.InTurn.{LeavesPublished}
use Rattle.world_laws.specs.UpdateAnswers.{heading_of}
use Rattle.world_run.specs.declared.step.WorldReply.TheVariants.{Answered, Begun, NotEnabled}
use Rattle.world_laws.proofs.AnswerLemmas.{keeps_head}
use Rattle.world_laws.proofs.UseLists.{swapped_in, swapped_at, swaps_now}
use Rattle.world_laws.specs.Replays.{Sends, IsSentAt, AreSentInTurn}
use Rattle.world_run.specs.World.{World, loaded_once, started, call_of, without_call, publication_start, update_start, oldest_kept, is_held, start, step_once, steps_up_to, go_on, most_steps, is_full, given_up, all_made, whole, begin_call, begin_under, stepped, next, turn, onto_replies, play, entries_at, zone_of, owner_of, is_taken, is_taken_weakly, is_used, drop_start, fade_start, copy_start, weak_start, up_start, weak_given_up, ask_start}
use Rattle.world_laws.specs.Replays.{IsReplayed, IsAnsweredInReplay}
use Rattle.world_laws.specs.Runs.{IsAnsweredAtLoaded}
use Rattle.world_run.proofs.JudgeLemmas.{made_by}
use Rattle.world_laws.proofs.RunLemmas.{answered_at_loaded}
use Rattle.world_laws.proofs.SwapLemmas.{step_by, behind_once, after_swapped, swap_updates, swapped_updates, HeadAt, keeps_at, KeepsAt}
use Rattle.world_laws.proofs.CallReplays.{Script, script, no_update, Placed, updates_in, IsFresh, AreInTurn, IsNext, Zones, Tells, tells_same, EntersAs, last_serial, Coherent, EndsAs, Further, further_none, further_on, Behind, behind}
use Rattle.world_laws.proofs.OtherCalls.{moved, unbarred, all_none, coherent_on, later_on, fresh_on, all_on, tells_on, AllCoherent, any_update, AtMostOne, others_all, without_coherent, without_one, with_coherent, with_one, found_coherent, found_alone}

-- the steps of a call leave the updates so far, and the versions that are published, as they were
pub record Leaves (us later : List Placed) (words new : Zones) (at : Phase) (progress : Progress) : Type 0 where
  pub same : later ≡ us
  pub leaves : LeavesPublished words new
  pub swapped : swapped_at progress ≡ swapped_in at
  pub headed : KeepsAt at progress

-- or the call is an update, which is the next of them, and goes on behind its swap
pub record Adds (S : Script) (us later : List Placed) (at : Phase) (progress : Progress) : Type 0 where
  pub one : Placed
  pub added : later ≡ us ++ one ∷ []
  pub mine : S.by one.place (heading_of_update one.update)
  pub update : updates at ≡ true
  pub unswapped : swapped_in at ≡ 0
  pub swapped : swapped_at progress ≡ 1
  pub headed : KeepsAt at progress

abbrev pub Comes : Script → List Placed → List Placed → Zones → Zones → Phase → Progress → Type 0
Comes S us later words new at progress = Leaves us later words new at progress ⊎ Adds S us later at progress

pub comes_by : (S : Script) (first : List Record) (us : List Placed) (words new : Zones) (at : Phase) (progress : Progress) → step_once words at ≡ Some (progress, new) → (b : Behind S first us words new at progress) → Comes S us b.later words new at progress
comes_by S first us words new at progress e b =
    let one = step_by words new at progress (made words (word_step at)) refl e in
    let swapped : swapped_at progress ≡ swapped_in at + swaps_now at = ap swapped_at (sym one.goes) ∙ after_swapped new at one.event in
    let headed : KeepsAt at progress = λ head h. subst (HeadAt head) one.goes (keeps_at head one.event (after new at one.event) (keeps_head new at one.event head h)) in
    elim b.grown [
      | inl stays ↦ inl (record { same = stays.0; leaves = stays.2; swapped = (let none = stays.1 in omega (arith, swapped, none)); headed = headed })
      | inr adds ↦ inr (record { one = adds.0; added = adds.1; mine = adds.4; update = swap_updates at adds.2; unswapped = adds.3; swapped = (let now = adds.2 in let none = adds.3 in omega (arith, swapped, now, none)); headed = headed })
    ]

comes_on : (S : Script) (us mid later : List Placed) (words between new : Zones) (at next : Phase) (progress : Progress) → updates next ≡ updates at → Comes S us mid words between at (On next) → Comes S mid later between new next progress → Comes S us later words new at progress
comes_on S us mid later words between new at next progress kind one more =
    elim one [
      | inl a ↦ elim more [
        | inl b ↦ inl (record {
          same = b.same ∙ a.same;
          leaves = λ cell s. (let x = a.leaves cell s in let y = b.leaves x.0 x.1 in (y.0, y.1, y.2 ∙ x.2));
          swapped = b.swapped ∙ a.swapped;
          headed = λ head h. b.headed head (a.headed head h);
        })
        | inr b ↦ inr (record {
          one = b.one;
          added = b.added ∙ ap (λ l. l ++ b.one ∷ []) a.same;
          mine = b.mine;
          update = sym kind ∙ b.update;
          unswapped = sym a.swapped ∙ b.unswapped;
          swapped = b.swapped;
          headed = λ head h. b.headed head (a.headed head h);
        })
      ]
      | inr a ↦ elim more [
        | inl b ↦ inr (record {
          one = a.one;
          added = b.same ∙ a.added;
          mine = a.mine;
          update = a.update;
          unswapped = a.unswapped;
          swapped = b.swapped ∙ a.swapped;
          headed = λ head h. b.headed head (a.headed head h);
        })
        | inr b ↦ absurd (let yes = a.swapped in let no = b.unswapped in omega (arith, yes, no))
      ]
    ]

-- what an update enters at its end
abbrev pub EndsSo : List Record → List Placed → Progress → Type 0
EndsSo first us (On next) = Unit {0}
EndsSo first us (Done end) = EndsAs first us end

-- the words behind some of a call's steps, and the other calls
pub record EndsAt (S : Script) (first : List Record) (us : List Placed) (words : Zones) (calls : List UnderWay) (at : Phase) (came : Progress × Zones) : Type 0 where
  pub later : List Placed
  pub tells : Tells S first came.1 later
  pub coherent : AllCoherent S first later came.1 calls
  pub comes : Comes S us later words came.1 at came.0
  pub ends : EndsSo first later came.0
  pub further : Further words came.1

none_come : (us : List Placed) (words : Zones) (at : Phase) → Leaves us us words words at (On at)
none_come us words at = record { same = refl; leaves = λ cell s. (cell, s, refl); swapped = refl; headed = λ head h. h }

many_by : (S : Script) (first : List Record) (us : List Placed) (words : Zones) (calls : List UnderWay) (at : Phase) (more : Zones → Phase → Progress × Zones) (o : Option (Progress × Zones))
    → ((us : List Placed) (words : Zones) (at : Phase) → Tells S first words us → AllCoherent S first us words calls → Coherent S first us words at → (updates at ≡ true → any_update calls ≡ false) → EndsAt S first us words calls at (more words at))
    → Tells S first words us → AllCoherent S first us words calls → Coherent S first us words at → (updates at ≡ true → any_update calls ≡ false) → step_once words at ≡ o → EndsAt S first us words calls at (go_on more words at o)
many_by S first us words calls at more None all t others c alone e = record { later = us; tells = t; coherent = others; comes = inl (none_come us words at); ends = tt; further = further_none words }
many_by S first us words calls at more (Some (On next, between)) all t others c alone e =
    let b = behind_once S first us words between at (On next) e t c in
    let rest = all b.later between next b.tells (others_all S first us words between at (On next) b calls alone others) b.follows.0 (λ is. alone (sym b.follows.1 ∙ is)) in
    record {
      later = rest.later;
      tells = rest.tells;
      coherent = rest.coherent;
      comes = comes_on S us b.later rest.later words between (more between next).1 at next (more between next).0 b.follows.1 (comes_by S first us words between at (On next) e b) rest.comes;
      ends = rest.ends;
      further = further_on words between (more between next).1 b.further rest.further;
    }
many_by S first us words calls at more (Some (Done end, between)) all t others c alone e =
    let b = behind_once S first us words between at (Done end) e t c in
    record { later = b.later; tells = b.tells; coherent = others_all S first us words between at (Done end) b calls alone others; comes = comes_by S first us words between at (Done end) e b; ends = b.follows; further = b.further }

many : (left : ℕ) (S : Script) (first : List Record) (us : List Placed) (words : Zones) (calls : List UnderWay) (at : Phase) → Tells S first words us → AllCoherent S first us words calls → Coherent S first us words at → (updates at ≡ true → any_update calls ≡ false) → EndsAt S first us words calls at (steps_up_to left words at)
unfolding steps_up_to
many zero S first us words calls at t others c alone = record { later = us; tells = t; coherent = others; comes = inl (none_come us words at); ends = tt; further = further_none words }
many (suc left) S first us words calls at t others c alone =
    many_by S first us words calls at (steps_up_to left) (step_once words at) (λ us words at t others c alone. many left S first us words calls at t others c alone) t others c alone refl

-- a world whose versions are replays
pub record Goes (S : Script) (first : List Record) (world : World) : Type 0 where
  pub us : List Placed
  pub tells : Tells S first world.words us
  pub coherent : AllCoherent S first us world.words world.calls
  pub one : AtMostOne world.calls

-- a call that begins so is about to publish what the next update makes, and is no second update
abbrev pub begun_by : ℕ → Phase → ℕ → Heading → Type 0
begun_by place at = λ sent head. (sent ≡ place) × (heading_of at ≡ Some head)

abbrev pub StartOk : Script → List Record → List Placed → Zones → List UnderWay → ℕ → Start → Type 0
StartOk S first us words calls place Refused = Unit {0}
StartOk S first us words calls place (Answers given) = Unit {0}
StartOk S first us words calls place (Takes at) = Coherent (moved S S.top (begun_by place at)) first us words at × (updates at ≡ true → any_update calls ≡ false)

ok_if : (S : Script) (first : List Record) (us : List Placed) (words : Zones) (calls : List UnderWay) (place : ℕ) (test : Bool) (one two : Start) → (test ≡ true → StartOk S first us words calls place one) → (test ≡ false → StartOk S first us words calls place two) → StartOk S first us words calls place (if test then one else two)
ok_if S first us words calls place true one two a b = a refl
ok_if S first us words calls place false one two a b = b refl

no_true : (false ≡ true) → ⊥
no_true e = let wrong = e in cc

drop_ok : (S : Script) (first : List Record) (us : List Placed) (words : Zones) (calls : List UnderWay) (place : ℕ) (owner : Option ℕ) → StartOk S first us words calls place (drop_start calls owner)
drop_ok S first us words calls place None = tt
drop_ok S first us words calls place (Some owner) = ok_if S first us words calls place (is_used calls owner) _ _ (λ e. tt) (λ e. (tt, λ is. absurd (no_true is)))

fade_ok : (S : Script) (first : List Record) (us : List Placed) (words : Zones) (calls : List UnderWay) (place : ℕ) (owner : Option ℕ) → StartOk S first us words calls place (fade_start calls owner)
fade_ok S first us words calls place None = tt
fade_ok S first us words calls place (Some owner) = ok_if S first us words calls place (is_used calls owner) _ _ (λ e. tt) (λ e. (tt, λ is. absurd (no_true is)))

copy_ok : (S : Script) (first : List Record) (us : List Placed) (words : Zones) (calls : List UnderWay) (place : ℕ) (name : List ℕ) (owner : Option ℕ) → StartOk S first us words calls place (copy_start name owner)
copy_ok S first us words calls place name None = tt
copy_ok S first us words calls place name (Some owner) = (tt, λ is. absurd (no_true is))

weak_ok : (S : Script) (first : List Record) (us : List Placed) (words : Zones) (calls : List UnderWay) (place : ℕ) (name : List ℕ) (owner : Option ℕ) → StartOk S first us words calls place (weak_start name owner)
weak_ok S first us words calls place name None = tt
weak_ok S first us words calls place name (Some owner) = (tt, λ is. absurd (no_true is))

up_ok : (S : Script) (first : List Record) (us : List Placed) (words : Zones) (calls : List UnderWay) (place : ℕ) (name : List ℕ) (owner : Option ℕ) → StartOk S first us words calls place (up_start calls name owner)
up_ok S first us words calls place name None = tt
up_ok S first us words calls place name (Some owner) = ok_if S first us words calls place (is_used calls owner) _ _ (λ e. tt) (λ e. (tt, λ is. absurd (no_true is)))

ask_ok : (S : Script) (first : List Record) (us : List Placed) (words : Zones) (calls : List UnderWay) (place : ℕ) (zone : Option (List Record)) (request : List ℕ) → StartOk S first us words calls place (ask_start zone request)
ask_ok S first us words calls place None request = tt
ask_ok S first us words calls place (Some zone) request = ok_if S first us words calls place (asks_update (reads request) || asks_sent Udp zone (reads request)) _ _ (λ e. tt) (λ e. tt)

seek_ok : (S : Script) (first : List Record) (us : List Placed) (words : Zones) (calls : List UnderWay) (place : ℕ) (sending : Sending) (owners : List ℕ) → StartOk S first us words calls place (seek_start words sending owners)
seek_ok S first us words calls place sending [] = tt
seek_ok S first us words calls place sending (owner ∷ left) = ok_if S first us words calls place (nat_le (words.granted + length (owner ∷ left)) grants) _ _ (λ e. (tt, λ is. absurd (no_true is))) (λ e. tt)

asked_ok : (S : Script) (first : List Record) (us : List Placed) (place : ℕ) (world : World) (sending : Sending) (query : QueryAsked) → StartOk S first us world.words world.calls place (transfer_asked world sending query)
asked_ok S first us place world sending query =
    ok_if S first us world.words world.calls place (not (is_permitted sending.version.zone (peer_over Tcp true) query)) _ _ (λ e. tt)
    (λ e. ok_if S first us world.words world.calls place (is_some query.serial && is_barred world.calls) _ _ (λ f. tt)
    (λ f. seek_ok S first us world.words world.calls place sending (later sending.version.number query.serial world.entries)))

sent_ok : (S : Script) (first : List Record) (us : List Placed) (place : ℕ) (world : World) (sending : Sending) (said : Parsed) → StartOk S first us world.words world.calls place (transfer_said world sending said)
sent_ok S first us place world sending parsed.Silent = tt
sent_ok S first us place world sending (parsed.Fault head code) = tt
sent_ok S first us place world sending (parsed.BadOpt head question code dnssec_ok) = tt
sent_ok S first us place world sending (parsed.Query query) = asked_ok S first us place world sending query
sent_ok S first us place world sending (parsed.Update update) = tt
sent_ok S first us place world sending (parsed.NoMemory head) = tt

of_ok : (S : Script) (first : List Record) (us : List Placed) (place : ℕ) (world : World) (owner : ℕ) (request : List ℕ) (version : Option Numbered) → StartOk S first us world.words world.calls place (transfer_of world owner request version)
of_ok S first us place world owner request None = tt
of_ok S first us place world owner request (Some version) = sent_ok S first us place world (none_got owner version request) (reads request)

transfer_ok : (S : Script) (first : List Record) (us : List Placed) (place : ℕ) (world : World) (request : List ℕ) (owner : Option ℕ) → StartOk S first us world.words world.calls place (transfer_start world request owner)
transfer_ok S first us place world request None = tt
transfer_ok S first us place world request (Some owner) = of_ok S first us place world owner request (found_by world.words owner)

-- the last version is the replay of all updates
pub last_replay : (S : Script) (first : List Record) (words : Zones) (us : List Placed) (last : Numbered) → Tells S first words us → found_last words ≡ Some last → (last.number ≡ length (updates_in us)) × (last.zone ≡ replay first (updates_in us))
last_replay S first words us last t found =
    let given = last_is_given words t.cell (length (updates_in us)) t.shows t.replays.counted in
    let is = t.replays.versions (length (updates_in us)) last (sym given ∙ found) in
    (is.0, is.1 ∙ ap (replay first) (take_all (length (updates_in us)) (updates_in us) (omega arith)))

-- a version is entered with its serial
enters_as : (size serial : ℕ) → EntersAs (enters size serial) serial
enters_as size serial = elim (cases_Bool (nat_lt 0 size)) [ inl some ↦ rw some refl | inr none ↦ rw none tt ]

publication_ok : (S : Script) (first : List Record) (us : List Placed) (world : World) (place : ℕ) (head : Heading) (version : Numbered) → any_update world.calls ≡ false → IsNext (moved S S.top (λ sent other. (sent ≡ place) × (Some head ≡ Some other))) first us version → StartOk S first us world.words world.calls place (publication_start world head version)
publication_ok S first us world place head version none n =
    ok_if S first us world.words world.calls place (nat_lt world.words.granted grants && is_held world.words (oldest_kept world.keep world.kept) && can_enter world.words world.window) _ _ (λ e. ((n, enters_as world.window (zone_serial version.zone)), λ is. none)) (λ e. tt)

update_ok : (S : Script) (first : List Record) (us : List Placed) (world : World) (request : List ℕ) (place : ℕ) (last : Numbered) (what : Option Judged) → judged last request ≡ what → S.sends place request → IsFresh S us place → any_update world.calls ≡ false → found_last world.words ≡ Some last → Tells S first world.words us → StartOk S first us world.words world.calls place (update_start world what)
update_ok S first us world request place last None is sent fresh none found t = tt
update_ok S first us world request place last (Some (judgement.Code head code)) is sent fresh none found t = tt
update_ok S first us world request place last (Some (judgement.Makes head version)) is sent fresh none found t =
    let m = made_by last request head version is in
    let l = last_replay S first world.words us last t found in
    publication_ok S first us world place head version none (record {
      place = place;
      fresh = record { played = fresh.played; last = fresh.last };
      makes = record {
        update = m.update;
        accepted = record {
          request = request;
          sent = sent;
          read = m.read;
          let_through = subst (λ z. verdict z m.update true ≡ None) l.1 m.passed;
          made = subst (λ z. act z m.update ≡ Some version.zone) l.1 m.made;
          changes = subst (λ z. version.zone ≢ z) l.1 m.changes;
        };
        number = m.number ∙ ap (λ n. n + 1) l.0;
        knows = subst (λ z. KnowsChanges z version) l.1 m.knows;
      };
      mine = (refl, ap Some (sym m.headed));
    })

found_ok : (S : Script) (first : List Record) (us : List Placed) (world : World) (request : List ℕ) (place : ℕ) (o : Option Numbered) → found_last world.words ≡ o → S.sends place request → IsFresh S us place → any_update world.calls ≡ false → Tells S first world.words us
    → StartOk S first us world.words world.calls place (update_start world (option_and_then (λ last. judged last request) o))
found_ok S first us world request place None found sent fresh none t = tt
found_ok S first us world request place (Some last) found sent fresh none t = update_ok S first us world request place last (judged last request) refl sent fresh none found t

start_ok : (S : Script) (first : List Record) (world : World) (call : Call) (place : ℕ) → ((request : List ℕ) → call ≡ Update request → S.sends place request) → (g : Goes S first world) → IsFresh S g.us place → StartOk S first g.us world.words world.calls place (start world call)
start_ok S first world (Load name) place sent g fresh = ok_if S first g.us world.words world.calls place (is_taken name world) _ _ (λ e. tt) (λ e. (tt, λ is. absurd (no_true is)))
start_ok S first world (Drop name) place sent g fresh = drop_ok S first g.us world.words world.calls place (owner_of name world.names)
start_ok S first world (Copy given name) place sent g fresh = ok_if S first g.us world.words world.calls place (is_taken name world) _ _ (λ e. tt) (λ e. copy_ok S first g.us world.words world.calls place name (owner_of given world.names))
start_ok S first world (Weak given name) place sent g fresh = ok_if S first g.us world.words world.calls place (is_taken_weakly name world || is_barred world.calls) _ _ (λ e. tt) (λ e. weak_ok S first g.us world.words world.calls place name (owner_of given world.names))
start_ok S first world (Fade name) place sent g fresh = fade_ok S first g.us world.words world.calls place (owner_of name world.weak_names)
start_ok S first world (Up weak name) place sent g fresh = ok_if S first g.us world.words world.calls place (is_taken name world) _ _ (λ e. tt) (λ e. up_ok S first g.us world.words world.calls place name (owner_of weak world.weak_names))
start_ok S first world (Ask name request) place sent g fresh = ask_ok S first g.us world.words world.calls place (zone_of name world) request
start_ok S first world (Transfer name request) place sent g fresh = transfer_ok S first g.us place world request (owner_of name world.names)
start_ok S first world (Update request) place sent g fresh =
    ok_if S first g.us world.words world.calls place (is_barred world.calls) _ _ (λ e. tt) (λ none. found_ok S first g.us world request place (found_last world.words) refl (sent request refl) fresh (unbarred world.calls none) g.tells)

-- whichever may have begun the update that is under way behind a line: what may have before it; or the line itself, by the call that it put
-- under way
abbrev pub by_after : Script → ℕ → Line → WorldReply → World → ℕ → Heading → Type 0
by_after S place line given after = λ sent head.
    S.by sent head
    ⊎ ((sent ≡ place) × (given ≡ Begun) × (name : List ℕ) × (call : Call) × (line ≡ Begin name call)
    × (under : UnderWay) × (call_of name after.calls ≡ Some under) × (heading_of under.phase ≡ Some head))

-- whose update a line adds: that of the whole call which it is, or of the call that it goes on with
abbrev pub AddedBy : Script → World → Line → ℕ → Placed → Type 0
AddedBy S before (Whole call) place one =
    (one.place ≡ place) × (at : Phase) × (start before call ≡ Takes at)
    × (swapped_at (steps_up_to most_steps before.words at).0 ≡ 1) × HeadAt (heading_of_update one.update) (steps_up_to most_steps before.words at).0
AddedBy S before (Begin name call) place one = ⊥
AddedBy S before (Next name) place one =
    (call : UnderWay) × (call_of name before.calls ≡ Some call) × S.by one.place (heading_of_update one.update) × (updates call.phase ≡ true)
    × (progress : Progress) × (words : Zones) × (step_once before.words call.phase ≡ Some (progress, words)) × (swapped_at progress ≡ 1) × KeepsAt call.phase progress

-- a line leaves the updates so far, and what is published, as they were; or it adds an update
abbrev pub LineComes : Script → World → List Placed → Line → ℕ → List Placed → World → Type 0
LineComes S before us line place later after =
    ((later ≡ us) × LeavesPublished before.words after.words) ⊎ ((one : Placed) × (later ≡ us ++ one ∷ []) × AddedBy S before line place one)

-- a line leaves the window, or enters the last version, and then no update is under way
pub record Enters (first : List Record) (before : World) (us : List Placed) (after : World) : Type 0 where
  pub entry : Entry
  pub entered_so : after.entries ≡ entered before.window before.entries entry
  pub serial : entry.serial.0 ≡ last_serial first us
  pub ended : any_update after.calls ≡ false

abbrev pub WindowComes : List Record → World → List Placed → World → Type 0
WindowComes first before us after = (after.entries ≡ before.entries) ⊎ Enters first before us after

-- an update has made its swap
kept_updates : (S : Script) (us later : List Placed) (words new : Zones) (at : Phase) (progress : Progress) → swapped_at progress ≡ 1 → Comes S us later words new at progress → updates at ≡ true
kept_updates S us later words new at progress one comes =
    elim comes [
      | inl l ↦ swapped_updates at (sym l.swapped ∙ one)
      | inr a ↦ a.update
    ]

-- what the end of a call makes of the window
window_at : (first : List Record) (before after : World) (us : List Placed) (end : End) → after.entries ≡ entries_at before.window end before.entries → EndsAs first us end → (swapped_at (Done end) ≡ 1 → any_update after.calls ≡ false) → WindowComes first before us after
window_at first before after us (Owned name owner number) is ends none = inl is
window_at first before after us (OwnedWeakly name owner number) is ends none = inl is
window_at first before after us (Replied given) is ends none = inl is
window_at first before after us (NoSlot head) is ends none = inl is
window_at first before after us (Kept head owner None) is ends none = inl is
window_at first before after us (Kept head owner (Some entry)) is ends none = inr (record { entry = entry; entered_so = is; serial = ends; ended = none refl })
window_at first before after us (Sent sending) is ends none = inl is

-- a world behind a line, where that is played
pub record Turned (S : Script) (first : List Record) (before : World) (us : List Placed) (line : Line) (place : ℕ) (given : WorldReply) (after : World) : Type 0 where
  pub goes : Goes (moved S S.top (by_after S place line given after)) first after
  pub comes : LineComes S before us line place goes.us after
  pub window : WindowComes first before goes.us after
  pub further : Further before.words after.words

abbrev pub TurnedBehind : Script → List Record → World → List Placed → Line → ℕ → Option (WorldReply × World) → Type 0
TurnedBehind S first before us line place o = (given : WorldReply) (after : World) → o ≡ Some (given, after) → Turned S first before us line place given after

to_some : (S : Script) (first : List Record) (before : World) (us : List Placed) (line : Line) (place : ℕ) (played : WorldReply × World) → Turned S first before us line place played.0 played.1 → TurnedBehind S first before us line place (Some played)
to_some S first before us line place played g given after e =
    let pair : played ≡ (given, after) = (let i = e in cc) in
    subst (λ (p : WorldReply × World). Turned S first before us line place p.0 p.1) pair g

to_none : (S : Script) (first : List Record) (before : World) (us : List Placed) (line : Line) (place : ℕ) → TurnedBehind S first before us line place None
to_none S first before us line place given after e = absurd (let wrong = e in cc)

to_if : (S : Script) (first : List Record) (before : World) (us : List Placed) (line : Line) (place : ℕ) (test : Bool) (one two : Option (WorldReply × World)) → TurnedBehind S first before us line place one → TurnedBehind S first before us line place two
    → TurnedBehind S first before us line place (if test then one else two)
to_if S first before us line place true one two a b = a
to_if S first before us line place false one two a b = b

leaves_words : (words : Zones) → LeavesPublished words words
leaves_words words cell s = (cell, s, refl)

-- a line that changes nothing, but for its reply
itself : (S : Script) (first : List Record) (world : World) (g : Goes S first world) (line : Line) (place : ℕ) (given : WorldReply) → Turned S first world g.us line place given world
itself S first world g line place given = record {
  goes = record {
    us = g.us;
    tells = tells_on S S.top (by_after S place line given world) first world.words g.us (omega arith) g.tells;
    coherent = all_on S S.top (by_after S place line given world) first g.us world.words world.calls (omega arith) (λ sent head mine. inl mine) g.coherent;
    one = g.one;
  };
  comes = inl (refl, leaves_words world.words);
  window = inl refl;
  further = further_none world.words;
}

-- the steps of a whole call
pub record Came (S : Script) (first : List Record) (us : List Placed) (words : Zones) (calls : List UnderWay) (place : ℕ) (at : Phase) (came : Progress × Zones) : Type 0 where
  pub later : List Placed
  pub tells : Tells S first came.1 later
  pub coherent : AllCoherent S first later came.1 calls
  pub comes : Comes (moved S S.top (begun_by place at)) us later words came.1 at came.0
  pub ends : EndsSo first later came.0
  pub further : Further words came.1

came_whole : (S : Script) (first : List Record) (us : List Placed) (words : Zones) (calls : List UnderWay) (place : ℕ) (at : Phase) → Tells S first words us → AllCoherent S first us words calls → StartOk S first us words calls place (Takes at) → Came S first us words calls place at (steps_up_to most_steps words at)
came_whole S first us words calls place at t others ok =
    elim (cases_Bool (updates at)) [
      | inl is ↦ (
          let none = ok.1 is in
          let e = many most_steps (moved S S.top (begun_by place at)) first us words calls at (tells_on S S.top (begun_by place at) first words us (omega arith) t) (all_none (moved S S.top (begun_by place at)) first us words calls none) ok.0 ok.1 in
          record {
            later = e.later;
            tells = tells_on (moved S S.top (begun_by place at)) S.top S.by first (steps_up_to most_steps words at).1 e.later (omega arith) e.tells;
            coherent = all_none S first e.later (steps_up_to most_steps words at).1 calls none;
            comes = e.comes;
            ends = e.ends;
            further = e.further;
          }
          )
      | inr isnt ↦ (
          let e = many most_steps S first us words calls at t others (no_update S first us words at isnt) ok.1 in
          record {
            later = e.later;
            tells = e.tells;
            coherent = e.coherent;
            comes = elim e.comes [
              | inl leaves ↦ inl leaves
              | inr adds ↦ absurd (let wrong : true ≡ false = sym adds.update ∙ isnt in cc)
            ];
            ends = e.ends;
            further = e.further;
          }
          )
    ]

whole_comes : (S : Script) (world : World) (us : List Placed) (call : Call) (place : ℕ) (at : Phase) (came : Progress × Zones) (later : List Placed) (after_line : World) → after_line.words ≡ came.1 → start world call ≡ Takes at → steps_up_to most_steps world.words at ≡ came
    → Comes (moved S S.top (begun_by place at)) us later world.words came.1 at came.0 → LineComes S world us (Whole call) place later after_line
whole_comes S world us call place at came later after_line same how is comes =
    elim comes [
      | inl l ↦ inl (l.same, subst (λ w. LeavesPublished world.words w) (sym same) l.leaves)
      | inr a ↦ inr (a.one, a.added, (a.mine.0, at, how, ap (λ (c : Progress × Zones). swapped_at c.0) is ∙ a.swapped, subst (λ (c : Progress × Zones). HeadAt (heading_of_update a.one.update) c.0) (sym is) (a.headed (heading_of_update a.one.update) a.mine.1)))
    ]

made_goes : (S : Script) (first : List Record) (world : World) (us : List Placed) (call : Call) (place : ℕ) (at : Phase) (came : Progress × Zones) → start world call ≡ Takes at → steps_up_to most_steps world.words at ≡ came → AtMostOne world.calls → (updates at ≡ true → any_update world.calls ≡ false) → Came S first us world.words world.calls place at came
    → Turned S first world us (Whole call) place (all_made world call came).0 (all_made world call came).1
made_goes S first world us call place at (On next, words) how is one alone e = record {
  goes = record {
    us = e.later;
    tells = tells_on S S.top (by_after S place (Whole call) NotEnabled (record world { words = words })) first words e.later (omega arith) e.tells;
    coherent = all_on S S.top (by_after S place (Whole call) NotEnabled (record world { words = words })) first e.later words world.calls (omega arith) (λ sent head mine. inl mine) e.coherent;
    one = one;
  };
  comes = whole_comes S world us call place at (On next, words) e.later (record world { words = words }) refl how is e.comes;
  window = inl refl;
  further = e.further;
}
made_goes S first world us call place at (Done end, words) how is one alone e = record {
  goes = record {
    us = e.later;
    tells = tells_on S S.top (by_after S place (Whole call) (all_made world call (Done end, words)).0 (all_made world call (Done end, words)).1) first words e.later (omega arith) e.tells;
    coherent = all_on S S.top (by_after S place (Whole call) (all_made world call (Done end, words)).0 (all_made world call (Done end, words)).1) first e.later words world.calls (omega arith) (λ sent head mine. inl mine) e.coherent;
    one = one;
  };
  comes = whole_comes S world us call place at (Done end, words) e.later (all_made world call (Done end, words)).1 refl how is e.comes;
  window = window_at first world (all_made world call (Done end, words)).1 e.later end refl e.ends (λ kept. alone (kept_updates (moved S S.top (begun_by place at)) us e.later world.words words at (Done end) kept e.comes));
  further = e.further;
}

whole_goes : (S : Script) (first : List Record) (world : World) (call : Call) (place : ℕ) (how : Start) → start world call ≡ how → (g : Goes S first world) → StartOk S first g.us world.words world.calls place how → TurnedBehind S first world g.us (Whole call) place (whole world call how)
whole_goes S first world call place Refused how g ok = to_some S first world g.us (Whole call) place _ (itself S first world g (Whole call) place NotEnabled)
whole_goes S first world call place (Answers given) how g ok =
    to_if S first world g.us (Whole call) place (is_full world) _ _ (to_none S first world g.us (Whole call) place) (to_some S first world g.us (Whole call) place _ (itself S first world g (Whole call) place (Answered given)))
whole_goes S first world call place (Takes at) how g ok =
    to_if S first world g.us (Whole call) place (is_full world) _ _ (to_none S first world g.us (Whole call) place)
    (to_some S first world g.us (Whole call) place _
    (made_goes S first world g.us call place at (steps_up_to most_steps world.words at) how refl g.one ok.1 (came_whole S first g.us world.words world.calls place at g.tells g.coherent ok)))

-- a call that is put under way
pub found_here : (name : List ℕ) (x : UnderWay) (calls : List UnderWay) → bytes_eq x.name name ≡ true → call_of name (x ∷ calls) ≡ Some x
found_here name x calls same = rw same refl

pub found_behind : (name : List ℕ) (x : UnderWay) (calls : List UnderWay) → bytes_eq x.name name ≡ false → call_of name (x ∷ calls) ≡ call_of name calls
found_behind name x calls other = rw other refl

pub found_new : (name : List ℕ) (calls : List UnderWay) (at : Phase) → call_of name calls ≡ None → call_of name (calls ++ record { name = name; phase = at } ∷ []) ≡ Some (record { name = name; phase = at })
found_new name [] at e = found_here name (record { name = name; phase = at }) [] ((bytes_eq-Decides name name).1 refl)
found_new name (x ∷ calls) at e =
    elim (cases_Bool (bytes_eq x.name name)) [
      | inl same ↦ absurd (let wrong : Some x ≡ None = sym (found_here name x calls same) ∙ e in cc)
      | inr other ↦ found_behind name x (calls ++ record { name = name; phase = at } ∷ []) other ∙ found_new name calls at (sym (found_behind name x calls other) ∙ e)
    ]

begun_goes : (S : Script) (first : List Record) (world : World) (name : List ℕ) (call : Call) (place : ℕ) (at : Phase) → call_of name world.calls ≡ None → (g : Goes S first world) → StartOk S first g.us world.words world.calls place (Takes at)
    → Turned S first world g.us (Begin name call) place Begun (record world { names = given_up call world.names; weak_names = weak_given_up call world.weak_names; calls = world.calls ++ record { name = name; phase = at } ∷ [] })
begun_goes S first world name call place at unused g ok =
    let after_line : World = record world { names = given_up call world.names; weak_names = weak_given_up call world.weak_names; calls = world.calls ++ record { name = name; phase = at } ∷ [] } in
    record {
      goes = record {
        us = g.us;
        tells = tells_on S S.top (by_after S place (Begin name call) Begun after_line) first world.words g.us (omega arith) g.tells;
        coherent = with_coherent (moved S S.top (by_after S place (Begin name call) Begun after_line)) first g.us world.words world.calls (record { name = name; phase = at })
            (all_on S S.top (by_after S place (Begin name call) Begun after_line) first g.us world.words world.calls (omega arith) (λ sent head mine. inl mine) g.coherent)
            (coherent_on (moved S S.top (begun_by place at)) S.top (by_after S place (Begin name call) Begun after_line) first g.us world.words at (omega arith)
            (λ sent head mine. inr (mine.0, refl, name, call, refl, record { name = name; phase = at }, found_new name world.calls at unused, mine.1)) ok.0);
        one = with_one world.calls (record { name = name; phase = at }) g.one ok.1;
      };
      comes = inl (refl, leaves_words world.words);
      window = inl refl;
      further = further_none world.words;
    }

begin_goes : (S : Script) (first : List Record) (world : World) (name : List ℕ) (call : Call) (place : ℕ) (how : Start) → call_of name world.calls ≡ None → (g : Goes S first world) → StartOk S first g.us world.words world.calls place how → TurnedBehind S first world g.us (Begin name call) place (begin_call world name call how)
begin_goes S first world name call place Refused unused g ok = to_some S first world g.us (Begin name call) place _ (itself S first world g (Begin name call) place NotEnabled)
begin_goes S first world name call place (Answers given) unused g ok =
    to_if S first world g.us (Begin name call) place (is_full world) _ _ (to_none S first world g.us (Begin name call) place) (to_some S first world g.us (Begin name call) place _ (itself S first world g (Begin name call) place (Answered given)))
begin_goes S first world name call place (Takes at) unused g ok =
    to_if S first world g.us (Begin name call) place (is_full world) _ _ (to_none S first world g.us (Begin name call) place)
    (to_some S first world g.us (Begin name call) place _ (begun_goes S first world name call place at unused g ok))

under_goes : (S : Script) (first : List Record) (world : World) (name : List ℕ) (call : Call) (other : Option UnderWay) (place : ℕ) → call_of name world.calls ≡ other → ((request : List ℕ) → call ≡ Update request → S.sends place request) → (g : Goes S first world) → IsFresh S g.us place
    → TurnedBehind S first world g.us (Begin name call) place (begin_under world name call other)
under_goes S first world name call None place unused sent g fresh = begin_goes S first world name call place (start world call) unused g (start_ok S first world call place sent g fresh)
under_goes S first world name call (Some other) place used sent g fresh = to_some S first world g.us (Begin name call) place _ (itself S first world g (Begin name call) place NotEnabled)

-- a step of a call under way
step_comes : (S : Script) (world after_line : World) (us later : List Placed) (name : List ℕ) (place : ℕ) (call : UnderWay) (progress : Progress) (words : Zones) → call_of name world.calls ≡ Some call → step_once world.words call.phase ≡ Some (progress, words) → after_line.words ≡ words
    → Comes S us later world.words words call.phase progress → LineComes S world us (Next name) place later after_line
step_comes S world after_line us later name place call progress words found is same comes =
    elim comes [
      | inl l ↦ inl (l.same, subst (λ w. LeavesPublished world.words w) (sym same) l.leaves)
      | inr a ↦ inr (a.one, a.added, (call, found, a.mine, a.update, progress, words, is, a.swapped, a.headed))
    ]

stepped_goes : (S : Script) (first : List Record) (world : World) (name : List ℕ) (place : ℕ) (call : UnderWay) (o : Option (Progress × Zones)) → call_of name world.calls ≡ Some call → step_once world.words call.phase ≡ o → (g : Goes S first world)
    → Turned S first world g.us (Next name) place (stepped world name call.phase o).0 (stepped world name call.phase o).1
stepped_goes S first world name place call None found is g = itself S first world g (Next name) place NotEnabled
stepped_goes S first world name place call (Some (On further, words)) found is g =
    let b = behind_once S first g.us world.words words call.phase (On further) is g.tells (found_coherent S first g.us world.words name world.calls call found g.coherent) in
    let alone = found_alone name world.calls call found g.one in
    let others = others_all S first g.us world.words words call.phase (On further) b (without_call name world.calls) alone (without_coherent S first g.us world.words name world.calls g.coherent) in
    let all = with_coherent S first b.later words (without_call name world.calls) (record { name = name; phase = further }) others b.follows.0 in
    let later_by = by_after S place (Next name) (stepped world name call.phase (Some (On further, words))).0 (stepped world name call.phase (Some (On further, words))).1 in
    record {
      goes = record {
        us = b.later;
        tells = tells_on S S.top later_by first words b.later (omega arith) b.tells;
        coherent = all_on S S.top later_by first b.later words (without_call name world.calls ++ record { name = name; phase = further } ∷ []) (omega arith) (λ sent head mine. inl mine) all;
        one = with_one (without_call name world.calls) (record { name = name; phase = further }) (without_one name world.calls g.one) (λ t. alone (sym b.follows.1 ∙ t));
      };
      comes = step_comes S world (stepped world name call.phase (Some (On further, words))).1 g.us b.later name place call (On further) words found is refl (comes_by S first g.us world.words words call.phase (On further) is b);
      window = inl refl;
      further = b.further;
    }
stepped_goes S first world name place call (Some (Done end, words)) found is g =
    let b = behind_once S first g.us world.words words call.phase (Done end) is g.tells (found_coherent S first g.us world.words name world.calls call found g.coherent) in
    let alone = found_alone name world.calls call found g.one in
    let others = others_all S first g.us world.words words call.phase (Done end) b (without_call name world.calls) alone (without_coherent S first g.us world.words name world.calls g.coherent) in
    let later_by = by_after S place (Next name) (stepped world name call.phase (Some (Done end, words))).0 (stepped world name call.phase (Some (Done end, words))).1 in
    record {
      goes = record {
        us = b.later;
        tells = tells_on S S.top later_by first words b.later (omega arith) b.tells;
        coherent = all_on S S.top later_by first b.later words (without_call name world.calls) (omega arith) (λ sent head mine. inl mine) others;
        one = without_one name world.calls g.one;
      };
      comes = step_comes S world (stepped world name call.phase (Some (Done end, words))).1 g.us b.later name place call (Done end) words found is refl (comes_by S first g.us world.words words call.phase (Done end) is b);
      window = window_at first world (stepped world name call.phase (Some (Done end, words))).1 b.later end refl b.follows (λ kept. alone (kept_updates S g.us b.later world.words words call.phase (Done end) kept (comes_by S first g.us world.words words call.phase (Done end) is b)));
      further = b.further;
    }

next_goes : (S : Script) (first : List Record) (world : World) (name : List ℕ) (place : ℕ) (o : Option UnderWay) → call_of name world.calls ≡ o → (g : Goes S first world) → Turned S first world g.us (Next name) place (next world name o).0 (next world name o).1
next_goes S first world name place None found g = itself S first world g (Next name) place NotEnabled
next_goes S first world name place (Some call) found g = stepped_goes S first world name place call (step_once world.words call.phase) found refl g

-- what a line sends was sent
abbrev pub LineSent : Script → ℕ → Line → Type 0
LineSent S place line = (request : List ℕ) → Sends request line → S.sends place request

turn_goes_so : (S : Script) (first : List Record) (world : World) (line : Line) (place : ℕ) → LineSent S place line → (g : Goes S first world) → IsFresh S g.us place → TurnedBehind S first world g.us line place (turn world line)
turn_goes_so S first world (Whole call) place sent g fresh = whole_goes S first world call place (start world call) refl g (start_ok S first world call place sent g fresh)
turn_goes_so S first world (Begin name call) place sent g fresh = under_goes S first world name call (call_of name world.calls) place refl sent g fresh
turn_goes_so S first world (Next name) place sent g fresh = to_some S first world g.us (Next name) place _ (next_goes S first world name place (call_of name world.calls) refl g)

-- where more lines were played, and other lines may have begun the update under way
pub goes_as : (S : Script) (top : ℕ) (by : ℕ → Heading → Type 0) (first : List Record) (world : World) → S.top ≤ top → (any_update world.calls ≡ true → (place : ℕ) (head : Heading) → S.by place head → by place head) → (g : Goes S first world)
    → (h : Goes (moved S top by) first world) × (h.us ≡ g.us)
goes_as S top by first world more map g = (
  record {
    us = g.us;
    tells = tells_on S top by first world.words g.us more g.tells;
    coherent = elim (cases_Bool (any_update world.calls)) [
      | inl some ↦ all_on S top by first g.us world.words world.calls more (map some) g.coherent
      | inr none ↦ all_none (moved S top by) first g.us world.words world.calls none
    ];
    one = g.one;
  },
  refl,
)

-- the next line is played
pub turn_comes : (S : Script) (first : List Record) (world : World) (line : Line) → LineSent S S.top line → (g : Goes S first world) → TurnedBehind (later_on S) first world g.us line S.top (turn world line)
unfolding goes_as
turn_comes S first world line sent g =
    turn_goes_so (later_on S) first world line S.top sent (goes_as S (S.top + 1) S.by first world (omega arith) (λ some place head mine. mine) g).0 (fresh_on S g.us g.tells.in_turn)

abbrev pub GoesBehind : Script → List Record → Option (WorldReply × World) → Type 0
GoesBehind S first o = (given : WorldReply) (world : World) → o ≡ Some (given, world) → Goes S first world

pub turn_goes : (sends : ℕ → List ℕ → Type 0) (top : ℕ) (first : List Record) (world : World) (line : Line) → LineSent (script sends top) top line → Goes (script sends top) first world → GoesBehind (script sends (top + 1)) first (turn world line)
turn_goes sends top first world line sent g given after e =
    let t = turn_comes (script sends top) first world line sent g given after e in
    (goes_as (moved (script sends (top + 1)) (top + 1) (by_after (script sends (top + 1)) top line given after)) (top + 1) (λ place head. Unit {0}) first after (omega arith) (λ some place head mine. tt) t.goes).0

abbrev pub AllSent : (ℕ → List ℕ → Type 0) → ℕ → List Line → Type 0
AllSent sends top [] = Unit {0}
AllSent sends top (line ∷ lines) = LineSent (script sends top) top line × AllSent sends (top + 1) lines

-- a world behind all lines
abbrev pub Played : (ℕ → List ℕ → Type 0) → List Record → World → Type 0
Played sends first world = (top : ℕ) × Goes (script sends top) first world

rest_goes : (sends : ℕ → List ℕ → Type 0) (first : List Record) (lines : List Line) (given : WorldReply) (world behind : World) (replies : List WorldReply) (o : Option (List WorldReply × World)) → play world lines ≡ o
    → ((replies : List WorldReply) (behind : World) → play world lines ≡ Some (replies, behind) → Played sends first behind) → onto_replies given o ≡ Some (replies, behind) → Played sends first behind
rest_goes sends first lines given world behind replies None p all e = absurd (let wrong = e in cc)
rest_goes sends first lines given world behind replies (Some rest) p all e =
    let pair : (given ∷ rest.0, rest.1) ≡ (replies, behind) = (let i = e in cc) in
    subst (λ (w : World). Played sends first w) (ap (λ (t : List WorldReply × World). t.1) pair) (all rest.0 rest.1 p)

line_goes : (sends : ℕ → List ℕ → Type 0) (top : ℕ) (first : List Record) (world behind : World) (lines : List Line) (replies : List WorldReply) (o : Option (WorldReply × World)) → GoesBehind (script sends top) first o
    → ((given : WorldReply) (world : World) → Goes (script sends top) first world → (replies : List WorldReply) (behind : World) → play world lines ≡ Some (replies, behind) → Played sends first behind)
    → option_and_then (λ t. onto_replies t.0 (play t.1 lines)) o ≡ Some (replies, behind) → Played sends first behind
line_goes sends top first world behind lines replies None g all e = absurd (let wrong = e in cc)
line_goes sends top first world behind lines replies (Some t) g all e =
    rest_goes sends first lines t.0 t.1 behind replies (play t.1 lines) refl (all t.0 t.1 (g t.0 t.1 refl)) e

play_goes : (sends : ℕ → List ℕ → Type 0) (top : ℕ) (first : List Record) (world : World) (lines : List Line) (replies : List WorldReply) (behind : World) → AllSent sends top lines → Goes (script sends top) first world → play world lines ≡ Some (replies, behind) → Played sends first behind
play_goes sends top first world [] replies behind sent g e =
    let pair : ([], world) ≡ (replies, behind) = (let i = e in cc) in
    subst (λ (w : World). Played sends first w) (ap (λ (t : List WorldReply × World). t.1) pair) (top, g)
play_goes sends top first world (line ∷ lines) replies behind sent g e =
    line_goes sends (top + 1) first world behind lines replies (turn world line) (turn_goes sends top first world line sent.0 g)
    (λ given between goes more last p. play_goes sends (top + 1) first between lines more last sent.1 goes p) e

all_sent_from : (all lines : List Line) (top : ℕ) → ((place : ℕ) (line : Line) → slice_get lines place ≡ Some line → slice_get all (top + place) ≡ Some line) → AllSent (IsSentAt all) top lines
all_sent_from all [] top at = tt
all_sent_from all (line ∷ lines) top at =
    let here : top + 0 ≡ top = omega arith in (
      (λ request sends. (line, ap (slice_get all) (sym here) ∙ at 0 line refl, sends)),
      all_sent_from all lines (top + 1) (λ place other e. (let there : top + 1 + place ≡ top + suc place = omega arith in ap (slice_get all) there ∙ at (suc place) other e)),
    )

pub all_sent : (lines : List Line) → AllSent (IsSentAt lines) 0 lines
all_sent lines = all_sent_from lines lines 0 (λ place line e. (let here : 0 + place ≡ place = omega arith in ap (slice_get lines) here ∙ e))

-- at the start the first version alone is published
start_tells : (S : Script) (first : List Record) → Tells S first (begun (first_version first)) []
start_tells S first = record {
  cell = cell_start (first_version first);
  steps = [];
  runs = refl;
  shows = begun_shows (first_version first);
  in_turn = record { sends = λ k one e. absurd (let wrong = e in cc); rises = λ k one next e f. absurd (let wrong = e in cc); played = λ k one e. absurd (let wrong = e in cc) };
  replays = record { counted = refl; versions = λ k version e. first_is first k version e; changes = λ k version e. absurd (omega (arith, slice_get_within (first_version first ∷ []) (k + 1) version e)); accepted = λ k update e. absurd (let wrong = e in cc) };
}
  where
    first_is : (first : List Record) (k : ℕ) (version : Numbered) → slice_get (first_version first ∷ []) k ≡ Some version → (version.number ≡ k) × (version.zone ≡ replay first (take k []))
    first_is first zero version e =
        let same : first_version first ≡ version = (let f = e in cc) in
        (ap (λ (v : Numbered). v.number) (sym same), ap (λ (v : Numbered). v.zone) (sym same))
    first_is first (suc k) version e = absurd (let wrong = e in cc)

-- the first version is loaded once, and noted where there is a window
started_tells : (S : Script) (first : List Record) (window : ℕ) (some : Bool) → nat_lt 0 window ≡ some → Tells S first (started_words (first_version first) window) []
started_tells S first window true e =
    rw e (tells_same S first (loaded_once (first_version first)) (noted_once (first_version first)) [] (word.Note 0) (reported.Noted 1 0) tt (0, 0, first_slot (first_version first), refl, refl, lit< tt, refl, refl)
    (tells_same S first (begun (first_version first)) (loaded_once (first_version first)) [] word.Load (reported.Loaded 0 0) tt (0, refl, lit< tt, refl, refl) (start_tells S first)))
started_tells S first window false e = rw e (tells_same S first (begun (first_version first)) (loaded_once (first_version first)) [] word.Load (reported.Loaded 0 0) tt (0, refl, lit< tt, refl, refl) (start_tells S first))

pub start_goes : (S : Script) (first : List Record) (keep window : ℕ) → Goes S first (started first keep window)
start_goes S first keep window = record {
  us = [];
  tells = started_tells S first (min window most_entries) (nat_lt 0 (min window most_entries)) refl;
  coherent = tt;
  one = tt;
}

pub no_updates : (S : Script) (first : List Record) (keep window : ℕ) (k : ℕ) (one : Placed) → slice_get (start_goes S first keep window).us k ≡ Some one → ⊥
unfolding start_goes
no_updates S first keep window k one e = let wrong = e in cc

played_goes : (first : List Record) (keep window : ℕ) (lines : List Line) (replies : List WorldReply) (world : World) → play (started first keep window) lines ≡ Some (replies, world) → Played (IsSentAt lines) first world
played_goes first keep window lines replies world e = play_goes (IsSentAt lines) 0 first (started first keep window) lines replies world (all_sent lines) (start_goes (script (IsSentAt lines) 0) first keep window) e

-- the places of updates, in turn
abbrev pub place_in : Option Placed → ℕ
place_in None = 0
place_in (Some one) = one.place

pub update_at : (us : List Placed) (k : ℕ) (update : DynamicUpdate) → slice_get (updates_in us) k ≡ Some update → (one : Placed) × (slice_get us k ≡ Some one) × (one.update ≡ update)
update_at [] k update e = absurd (let wrong = e in cc)
update_at (one ∷ us) zero update e = (one, refl, (let same = e in cc))
update_at (one ∷ us) (suc k) update e = update_at us k update e

in_turn : (lines : List Line) (top : ℕ) (us : List Placed) → AreInTurn (script (IsSentAt lines) top) us → AreSentInTurn lines (updates_in us)
in_turn lines top us t = record {
  place = λ k. place_in (slice_get us k);
  rises = λ k within. (
      let n : length (updates_in us) ≡ length us = length-map us (λ (one : Placed). one.update) in
      let one = get_within us k (omega (arith, within, n)) in
      let next = get_within us (k + 1) (omega (arith, within, n)) in
      subst (λ p. p < place_in (slice_get us (k + 1))) (sym (ap place_in one.1)) (subst (λ p. one.0.place < p) (sym (ap place_in next.1)) (t.rises k one.0 next.0 one.1 next.1))
      );
  sends = λ k update e. (
      let one = update_at us k update e in
      let s = t.sends k one.0 one.1 in
      (s.0, subst (λ p. IsSentAt lines p s.0) (sym (ap place_in one.1)) s.1, s.2 ∙ ap parsed.Update one.2)
      );
}

pub goes_replayed : (first : List Record) (lines : List Line) (top : ℕ) (world : World) → Goes (script (IsSentAt lines) top) first world → IsReplayed first lines world
goes_replayed first lines top world g = record {
  reached = record { cell = g.tells.cell; steps = g.tells.steps; runs = g.tells.runs; shows = g.tells.shows };
  updates = updates_in g.us;
  replays = g.tells.replays;
  in_turn = in_turn lines top g.us g.tells.in_turn;
}

pub replayed_us : (first : List Record) (lines : List Line) (top : ℕ) (world : World) (g : Goes (script (IsSentAt lines) top) first world)
    → ((goes_replayed first lines top world g).updates ≡ updates_in g.us) × ((k : ℕ) → (goes_replayed first lines top world g).in_turn.place k ≡ place_in (slice_get g.us k))
unfolding goes_replayed in_turn
replayed_us first lines top world g = (refl, λ k. refl)

-- whatever lines were played, the versions are replays of updates that they send
pub versions_replayed : (first : List Record) (keep window : ℕ) (lines : List Line) (replies : List WorldReply) (world : World) → play (started first keep window) lines ≡ Some (replies, world) → IsReplayed first lines world
versions_replayed first keep window lines replies world e = (let p = played_goes first keep window lines replies world e in goes_replayed first lines p.0 world p.1)

-- an owner that finds a version holds its number
pub holds_by : (words : Zones) (owner : ℕ) (version : Numbered) (o : Option Owner) → slice_get words.owners owner ≡ o
    → option_map (λ (v : Version Numbered). v.value) (option_and_then (version_in words) (option_and_then place_of o)) ≡ Some version
    → (number : ℕ) × (place : ℕ) × (slice_get words.owners owner ≡ Some (Holding number place))
holds_by words owner version None e found = absurd (let wrong = found in cc)
holds_by words owner version (Some (Holding number place)) e found = (number, place, e)
holds_by words owner version (Some (Burying place)) e found = absurd (let wrong = found in cc)
holds_by words owner version (Some (Twice number place)) e found = absurd (let wrong = found in cc)
holds_by words owner version (Some (Weakly number place)) e found = absurd (let wrong = found in cc)
holds_by words owner version (Some (Both number place)) e found = absurd (let wrong = found in cc)
holds_by words owner version (Some (Fading place)) e found = absurd (let wrong = found in cc)
holds_by words owner version (Some (Resetting place)) e found = absurd (let wrong = found in cc)
holds_by words owner version (Some (Freeing place)) e found = absurd (let wrong = found in cc)
holds_by words owner version (Some Spent) e found = absurd (let wrong = found in cc)

version_by : (zone : List Record) (o : Option Numbered) → option_map (λ (v : Numbered). v.zone) o ≡ Some zone → (version : Numbered) × (o ≡ Some version) × (version.zone ≡ zone)
version_by zone None e = absurd (let wrong = e in cc)
version_by zone (Some version) e = (version, refl, (let same = e in cc))

zone_replayed : (first : List Record) (lines : List Line) (world : World) (name : List ℕ) (zone : List Record) (at : IsAnsweredAtLoaded first world name zone) (r : IsReplayed first lines world) → zone_of name world ≡ Some zone → zone ≡ replay first (take at.number r.updates)
zone_replayed first lines world name zone at r found =
    let here : option_map (λ (v : Numbered). v.zone) (found_by world.words at.owner) ≡ Some zone = ap (λ o. option_map (λ (v : Numbered). v.zone) (option_and_then (found_by world.words) o)) (sym at.owns) ∙ found in
    let v = version_by zone (found_by world.words at.owner) here in
    let held = holds_by world.words at.owner v.0 (slice_get world.words.owners at.owner) refl v.1 in
    let same : held.0 ≡ at.number = at.has held.0 held.1 held.2 in
    let given = owner_is_given world.words r.reached.cell at.owner held.0 held.1 r.reached.shows held.2 in
    let is = r.replays.versions held.0 v.0 (sym given ∙ v.1) in
    sym v.2 ∙ (is.1 ∙ ap (λ n. replay first (take n r.updates)) same)

pub answered_in_replay : (first : List Record) (keep window : ℕ) (lines : List Line) (replies : List WorldReply) (world : World) (name : List ℕ) (zone : List Record) → play (started first keep window) lines ≡ Some (replies, world) → zone_of name world ≡ Some zone → IsAnsweredInReplay first lines world name zone
answered_in_replay first keep window lines replies world name zone e found =
    let at = answered_at_loaded first keep window lines replies world name zone e found in
    let r = versions_replayed first keep window lines replies world e in
    record { at_loaded = at; replayed = r; is_replay = zone_replayed first lines world name zone at r found }
