-- The verdict of a queued update holds for the versions that are known to be published.
use Rattle.std.proofs.Common.{◌≡◌, refl, ℕ, ◌+◌, ◌≤◌, List, [], ◌∷◌, ◌++◌, inl, inr, sym, ap, ◌∙◌, subst, append_assoc, append-nil, length, suc, arith}
use Rattle.std.specs.Prelude.{true, take, drop, map, Option, None, Some}
use Rattle.dns_rdata.specs.Record.{Record}
use Rattle.dns_rdata.specs.declared.numbers.Rcode.TheVariants.{NoError}
use Rattle.dns_message.specs.Octets.{fit}
use Rattle.dns_message.specs.Request.{reads}
use Rattle.dns_message.specs.declared.query.Parsed.TheVariants.{Update as SaysUpdate}
use Rattle.zone_tree.specs.Version.{Version}
use Rattle.cell_core.specs.Cell.{EachFollows}
use Rattle.counted_handles.specs.History.{IsHistory}
use Rattle.dns_engine.specs.Versions.{IsFirst, IsNext}
use Rattle.dns_engine.specs.Held.{IsLatest}
use Rattle.std.proofs.lemmas.List.{take_all}
use Rattle.dns_engine.proofs.ReplayLemmas.{number_of, latest_replay}
use Rattle.journal.specs.Batch.{Messages}
use Rattle.update_messages.specs.Joined.{IsRead}
use Rattle.update_messages.proofs.JoinedLemmas.{read_alone}
use Rattle.update_batches.specs.declared.update_request.UpdateRequest.{UpdateRequest}
use Rattle.update_batches.specs.declared.verdict.Verdict.{Verdict}
use Rattle.update_batches.specs.Verdict.{serials_with, told_verdict, made_verdict, failed}
use Rattle.update_batches.specs.UpdateRequest.{serial_in}
use Rattle.update_batches.proofs.ReadLemmas.{read_is}
use Rattle.zone_server.specs.UpdateResult.{IsDoneBy, AreResults, queued_results}
use Rattle.zone_server.proofs.StateLemmas.{done_grows}
use Rattle.zone_server.proofs.JudgedLemmas.{tells_done, starved_done, made_done}
use Rattle.update_batches.specs.Results.{first_verdict, IsDone as IsDoneIn, AreDone as AreDoneIn, IsToldIn, IsMadeIn}
use Rattle.update_batches.specs.declared.queued_update.QueuedUpdate.{QueuedUpdate}
use Rattle.serve_core.specs.declared.transport.Transport.{Transport}
use Rattle.serve_core.specs.Heading.{heading_of_update, coded}
use Rattle.serve_core.specs.Transport.{limit_of}
use Rattle.zone_server.proofs.ReplyDoneLemmas.{done_replied}
use Rattle.zone_server.specs.Replied.{IsReplied}
use Rattle.zone_server.specs.Brought.{Brought, brought_after, brought_by, brought_for, all_brought, coded_reply, IsReplyTo, AreReplies}

each_front : (version : Version) (front newer : List Version) → EachFollows IsNext (version ∷ (front ++ newer)) → EachFollows IsNext (version ∷ front)
each_front version [] newer each = tt
each_front version (next ∷ front) newer each = (each.0, each_front next front newer each.1)

-- a beginning of a history is one, if it isn't empty
front_history : (first : List Record) (front newer : List Version) (version : Version) → IsHistory (IsFirst first) IsNext ((front ++ version ∷ []) ++ newer) → IsHistory (IsFirst first) IsNext (front ++ version ∷ [])
front_history first [] newer version history = (history.0, each_front version [] newer history.1)
front_history first (one ∷ front) newer version history = (history.0, each_front one (front ++ version ∷ []) newer history.1)

-- and its last version is its latest
front_latest : (first : List Record) (front newer : List Version) (version : Version) → IsHistory (IsFirst first) IsNext ((front ++ version ∷ []) ++ newer) → IsLatest first (front ++ version ∷ []) version
front_latest first front newer version history =
    let own = front_history first front newer version history in
    record { before = front; history = own; ends = refl; number = sym (number_of first front version own) }

-- the message with the code of a result is the reply to its update, where that is one message
reply_told : (first : List Record) (seen : List Version) (number : ℕ) (asked : UpdateRequest) (given : Verdict) → IsDoneBy first seen asked number given.code given.serials
    → IsRead asked.messages asked.update → asked.may ≡ true → (request : List ℕ) → asked.messages ≡ request ∷ [] → IsReplyTo first seen (number + 1) request (coded_reply asked given.code)
reply_told first seen number asked given done read may = λ request alone peer known udp may_update fresh.
    let reading : reads request ≡ SaysUpdate asked.update = read_alone request asked.update (subst (λ (ms : Messages). IsRead ms asked.update) alone read) in
    let octets : List ℕ = coded_reply asked given.code in
    let whole : take (length octets) octets ≡ octets = take_all (length octets) octets (omega arith) in
    subst (λ (o : List ℕ). IsReplied first peer known (record { published = seen; buried = [] }) request (o ∷ [])) whole
    (done_replied first peer known (record { published = seen; buried = [] }) request octets (length octets)
    (record { asked = asked; least = number; code = given.code; serials = given.serials })
    done fresh reading (may ∙ sym may_update) (whole ∙ ap (λ (t : Transport). fit (coded (heading_of_update asked.update) given.code) (limit_of t None)) (sym udp)))

module _ (first : List Record) (published : List Version) (latest_version : Version) (latest : IsLatest first published latest_version) (number : ℕ) (least : number ≤ latest_version.number) where
  put_behind : (front newer : List Version) (version : Version) → published ≡ front ++ version ∷ newer → IsHistory (IsFirst first) IsNext ((front ++ version ∷ []) ++ newer)
  put_behind front newer version place = subst (IsHistory (IsFirst first) IsNext) (place ∙ sym (append_assoc front (version ∷ []) newer)) latest.history

  told_done : (waiting : QueuedUpdate) (verdict : Verdict) → IsToldIn published (number + 1) waiting verdict → IsDoneBy first published waiting.request number verdict.code verdict.serials
  told_done waiting verdict reported =
      let history = put_behind reported.front reported.newer reported.version reported.place in
      let here = front_latest first reported.front reported.newer reported.version history in
      let late : number ≤ reported.version.number = omega (arith, reported.late, number_of first reported.front reported.version (front_history first reported.front reported.newer reported.version history)) in
      let done = tells_done first (reported.front ++ reported.version ∷ []) reported.version here (latest_replay first _ reported.version here) number late waiting.request reported.code reported.tells_it in
      let own : Verdict = told_verdict (serial_in reported.version) reported.code in
      let given : IsDoneBy first published waiting.request number own.code own.serials =
      subst (λ (l : List Version). IsDoneBy first l waiting.request number reported.code (serials_with (serial_in reported.version) reported.code))
      (append_assoc reported.front (reported.version ∷ []) reported.newer ∙ sym reported.place)
      (done_grows first (reported.front ++ reported.version ∷ []) reported.newer history _ done) in
      subst (λ (v : Verdict). IsDoneBy first published waiting.request number v.code v.serials) (sym reported.reported) given

  made_in : (waiting : QueuedUpdate) (verdict : Verdict) → IsMadeIn published (number + 1) waiting verdict → IsDoneBy first published waiting.request number verdict.code verdict.serials
  made_in waiting verdict made =
      let front = made.front ++ made.version ∷ [] in
      let history = put_behind made.front (made.next ∷ made.newer) made.version made.place in
      let here = front_latest first made.front (made.next ∷ made.newer) made.version history in
      let late : number ≤ made.version.number = omega (arith, made.late, number_of first made.front made.version (front_history first made.front (made.next ∷ made.newer) made.version history)) in
      let longer : (front ++ made.next ∷ []) ++ made.newer ≡ front ++ made.next ∷ made.newer = append_assoc front (made.next ∷ []) made.newer in
      let behind = subst (IsHistory (IsFirst first) IsNext) (sym longer) history in
      let own : Verdict = made_verdict (serial_in made.version) (serial_in made.next) in
      let done = made_done first front made.version here (latest_replay first front made.version here) number late waiting.request made.next (front_history first front made.newer made.next behind) made.lets made.makes_it in
      let given : IsDoneBy first published waiting.request number own.code own.serials =
      subst (λ (l : List Version). IsDoneBy first l waiting.request number NoError own.serials)
      (longer ∙ append_assoc made.front (made.version ∷ []) (made.next ∷ made.newer) ∙ sym made.place)
      (done_grows first (front ++ made.next ∷ []) made.newer behind _ done) in
      subst (λ (v : Verdict). IsDoneBy first published waiting.request number v.code v.serials) (sym made.reported) given

  failed_done : (waiting : QueuedUpdate) → IsDoneBy first published waiting.request number failed.code failed.serials
  failed_done waiting = starved_done first published latest_version latest (latest_replay first published latest_version latest) number least waiting.request

  -- a verdict holds for the versions that are published
  pub queued_done : (waiting : QueuedUpdate) (verdict : Verdict) → IsDoneIn published (number + 1) waiting verdict → IsDoneBy first published waiting.request number verdict.code verdict.serials
  queued_done waiting verdict (inl reported) = told_done waiting verdict reported
  queued_done waiting verdict (inr (inl made)) = made_in waiting verdict made
  queued_done waiting verdict (inr (inr fails)) =
      subst (λ (v : Verdict). IsDoneBy first published waiting.request number v.code v.serials) (sym fails) (failed_done waiting)

  -- so do those of a batch
  pub queued_all : (verdicts : List Verdict) (batch : List QueuedUpdate) → AreDoneIn published (number + 1) verdicts batch
      → AreResults first published (queued_results number verdicts batch)
  queued_all verdicts [] are = tt
  queued_all verdicts (one ∷ batch) are = (queued_done one (first_verdict verdicts) are.0, queued_all (drop 1 verdicts) batch are.1)

  -- the message with the code of its verdict is the reply to each
  pub queued_replies : (verdicts : List Verdict) (batch : List QueuedUpdate) → AreDoneIn published (number + 1) verdicts batch
      → AreReplies first published (number + 1) verdicts batch
  queued_replies verdicts [] are = tt
  queued_replies verdicts (one ∷ batch) are = (
    reply_told first published number one.request (first_verdict verdicts) (queued_done one (first_verdict verdicts) are.0) (read_is one.request.messages one.request.update one.request.read) one.may,
    queued_replies (drop 1 verdicts) batch are.1,
  )

-- there are as many results as updates
pub results_long : (number : ℕ) (verdicts : List Verdict) (batch : List QueuedUpdate) → length (queued_results number verdicts batch) ≡ length batch
results_long number verdicts [] = refl
results_long number verdicts (one ∷ batch) = ap suc (results_long number (drop 1 verdicts) batch)

-- what is left to be done for the replies of a batch
pub brought_all : (number : ℕ) (verdicts : List Verdict) (batch : List QueuedUpdate) → map brought_for (queued_results number verdicts batch) ≡ all_brought verdicts batch
brought_all number verdicts [] = refl
brought_all number verdicts (one ∷ batch) =
    ap (λ (bs : List Brought). brought_by one.reply_to one.request (first_verdict verdicts).code ∷ bs) (brought_all number (drop 1 verdicts) batch)

-- a list after others were appended, one after another
pub brought_more : (old : Option (List Brought)) (first more : List Brought) → brought_after (brought_after old first) more ≡ brought_after old (first ++ more)
brought_more None first more = refl
brought_more (Some before) first more = ap Some (append_assoc before first more)

pub brought_none : (old : Option (List Brought)) → brought_after old [] ≡ old
brought_none None = refl
brought_none (Some before) = ap Some (append-nil before)
