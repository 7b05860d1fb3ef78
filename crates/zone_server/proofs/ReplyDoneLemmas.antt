-- What is told of an update that waited is its reply.
use Rattle.std.proofs.Common.{◌≡◌, refl, ◌++◌, ℕ, ◌+◌, ◌≤◌, Bool, true, List, [], ◌∷◌, length, Option, None, Some, Result, Ok, Err, IfOk, inl, inr, sym, ap, ◌∙◌, subst, arith}
use Rattle.std.specs.Prelude.{take, unwrap_or}
use Rattle.dns_rdata.specs.Record.{Record}
use Rattle.dns_rdata.specs.declared.numbers.Rcode.{Rcode}
use Rattle.dns_rdata.specs.declared.numbers.Rcode.TheVariants.{NoError, ServFail}
use Rattle.dns_message.specs.Octets.{fit}
use Rattle.dns_message.specs.Request.{is_update, reads}
use Rattle.dns_message.specs.declared.query.Parsed.TheVariants.{Update as SaysUpdate}
use Rattle.dns_message.specs.declared.update.Update.{Update}
use Rattle.zone_tree.specs.Version.{Version}
use Rattle.update_core.specs.Act.{act}
use Rattle.update_core.specs.Applied.{code_of}
use Rattle.counted_handles.specs.History.{IsHistory}
use Rattle.counted_handles.specs.Ruled.{Begins}
use Rattle.snapshot_cell.specs.Tokens.{ReaderState}
use Rattle.dns_engine.specs.Held.{EngineState}
use Rattle.dns_engine.specs.Versions.{IsFirst, IsNext}
use Rattle.requests.specs.Served.{Learned, BeginsWith, Grows}
use Rattle.requests.specs.Octets.{messages_in}
use Rattle.requests.proofs.TurnLemmas.{grows_itself}
use Rattle.serve_core.specs.declared.heading.Heading.{Heading}
use Rattle.serve_core.specs.declared.peer.Peer.{Peer}
use Rattle.serve_core.specs.declared.transport.Transport.{Transport}
use Rattle.serve_core.specs.Heading.{heading_of_update, coded}
use Rattle.serve_core.specs.Served.{Want, ForNothing, ForMaking, answered, got_of}
use Rattle.serve_core.specs.Transport.{limit_of}
use Rattle.zone_server.specs.declared.update_result.UpdateResult.{UpdateResult}
use Rattle.zone_server.specs.UpdateResult.{IsToldIn, IsDone}
use Rattle.zone_server.proofs.StateLemmas.{done_grows}
use Rattle.zone_server.specs.Known.{learned_by, HasMet, IsNoOlder}
use Rattle.zone_server.specs.Updated.{TellsOf, IsToldUnread}
use Rattle.zone_server.specs.QueuedUpdate.{MeetsAt, IsRepliedAtOnce, IsAnswered}
use Rattle.zone_server.specs.declared.answer.UpdateOutcome.{UpdateOutcome}
use Rattle.zone_server.specs.Replied.{IsReplied}
use Rattle.dns_engine.specs.Chain.{IsPublished}
use Rattle.zone_server.proofs.AboutLemmas.{latest_known, no_older}
use Rattle.zone_server.proofs.ReplyLemmas.{update_replied, update_limit, told_replied}

answered_reply : (transport : Transport) (heading : Heading) (zone : List Record) (next : Option (List Record)) (code : Option Rcode)
    → (answered transport heading zone next code).reply ≡ Some (fit (coded heading (unwrap_or code NoError)) (limit_of transport None))
answered_reply transport heading zone next (Some code) = refl
answered_reply transport heading zone next None = refl

-- what is told of an update that waited is its reply, where the last version that was known when it was taken up is of no greater number than the one that is told with it
pub done_replied : (first : List Record) (peer : Peer) (known later : Learned Version) (request out : List ℕ) (len : ℕ) (done : UpdateResult) → IsDone first later.published done → length known.published ≤ done.least + 1
    → reads request ≡ SaysUpdate done.asked.update → done.asked.may ≡ peer.may_update → take len out ≡ fit (coded (heading_of_update done.asked.update) done.code) (limit_of peer.transport None)
    → IsReplied first peer known later request (take len out ∷ [])
done_replied first peer known later request out len done is fresh reading may written = by is.reported
  where
    older : IsNoOlder known.published is.version
    older = omega (arith, fresh, is.least)

    same : done.asked.may ≡ peer.may_update
    same = may

    in_want : (want : Want) → TellsOf first done.asked.may known.published later.published is.version want done.asked.update
        → (got_of peer.transport done.asked.may want is.version.zone (SaysUpdate done.asked.update)).reply ≡ Some (take len out) → IsReplied first peer known later request (take len out ∷ [])
    in_want want about gets =
        update_replied first peer known later is.version request out done.asked.update len want is.replayed reading
        (subst (λ (m : Bool). TellsOf first m known.published later.published is.version want done.asked.update) same about)
        (subst (λ (m : Bool). (got_of peer.transport m want is.version.zone (SaysUpdate done.asked.update)).reply ≡ Some (take len out)) same gets)

    by : IsToldIn is.version is.here.newer done.asked.update done.asked.may done.code → IsReplied first peer known later request (take len out ∷ [])
    by (inl reported) =
        in_want ForNothing (older, is.here, reported.1)
        (answered_reply peer.transport (heading_of_update done.asked.update) is.version.zone (act is.version.zone done.asked.update) (code_of is.version.zone done.asked.update done.asked.may)
        ∙ ap (λ (c : Rcode). Some (fit (coded (heading_of_update done.asked.update) c) (limit_of peer.transport None))) (sym reported.0) ∙ ap Some (sym written))
    by (inr failed) =
        in_want ForMaking (older, is.here)
        (ap (λ (c : Rcode). Some (fit (coded (heading_of_update done.asked.update) c) (limit_of peer.transport None))) (sym failed) ∙ ap Some (sym written))

-- what is told is so by all that a reader meets
pub done_met : (first : List Record) (engine : EngineState) (before after : ReaderState Version) (done : UpdateResult) → HasMet first engine before after → IsDone first before.seen done → IsDone first engine.held.published done
done_met first engine before after done met is =
    let history : IsHistory (IsFirst first) IsNext (before.seen ++ met.begun.0) = subst (λ (l : List Version). IsHistory (IsFirst first) IsNext l) (sym met.begun.1) met.latest.history in
    subst (λ (l : List Version). IsDone first l done) met.begun.1 (done_grows first before.seen met.begun.0 history done is)

-- a reader that meets what is published has seen what it had seen
pub begins_met : (old new : ReaderState Version) (published : List Version) → new ≡ record { cell = old.cell; seen = published; left = old.left; gone = old.gone } → Begins old.seen published → BeginsWith new.seen old.seen
begins_met old new published met begun = (begun.0, ap (λ (r : ReaderState Version). r.seen) met ∙ sym begun.1)

pub grows_met : (old new : ReaderState Version) (published : List Version) → new ≡ record { cell = old.cell; seen = published; left = old.left; gone = old.gone } → Begins old.seen published → Grows (learned_by new) (learned_by old)
grows_met old new published met begun = record { published = begins_met old new published met begun; buried = ([], ap (λ (r : ReaderState Version). r.gone) met) }

-- SERVFAIL of an update that nobody judged is a reply, in the last version that the reader has then met
pub unheard_replied : (first : List Record) (peer : Peer) (before after : ReaderState Version) (engine : EngineState) (request out : List ℕ) (update : Update) (len : ℕ) → HasMet first engine before after → reads request ≡ SaysUpdate update
    → take len out ≡ fit (coded (heading_of_update update) ServFail) (limit_of peer.transport None) → IsReplied first peer (learned_by before) (learned_by after) request (take len out ∷ [])
unheard_replied first peer before after engine request out update len met reading written =
    update_replied first peer (learned_by before) (learned_by after) engine.held.last request out update len ForMaking met.replayed reading (
      no_older first before.seen engine.held.published engine.held.last met.begun met.latest,
      subst (λ (r : ReaderState Version). IsPublished first r.seen engine.held.last) (sym met.seen) (latest_known first engine.held.published engine.held.last met.latest),
    )
    (ap Some (sym written))

-- SERVFAIL of an update that nobody judged, where the reader has met what is published
pub refused_at_once : (first : List Record) (peer : Peer) (before after : ReaderState Version) (number : ℕ) (request out : List ℕ) (update : Update) (heading : Heading) (len : ℕ) (outcome : UpdateOutcome) → MeetsAt first before after number → is_update request ≡ true → reads request ≡ SaysUpdate update
    → heading ≡ heading_of_update update → take len out ≡ fit (coded heading ServFail) (limit_of peer.transport None) → len ≤ limit_of peer.transport None → outcome.code ≡ ServFail → outcome.serials ≡ None
    → IsRepliedAtOnce first peer request before after out len outcome
refused_at_once first peer before after number request out update heading len outcome met asks reading same written short failed without = record {
  bound = subst (λ (n : ℕ). len ≤ n) (sym (update_limit peer.transport request asks)) short;
  replied = unheard_replied first peer before after met.0 request out update len met.1 reading (written ∙ ap (λ (h : Heading). fit (coded h ServFail) (limit_of peer.transport None)) same);
  outcome = (heading, written ∙ ap (λ (c : Rcode). fit (coded heading c) (limit_of peer.transport None)) (sym failed), inr (failed, without));
  grows = grows_met before after met.0.held.published met.1.seen met.1.begun;
}

-- and what is told of one that can't be read
pub unread_at_once : (first : List Record) (peer : Peer) (reader : ReaderState Version) (request out : List ℕ) (heading : Heading) (reported : UpdateOutcome) (len : ℕ) → is_update request ≡ true → IsToldUnread request heading reported
    → take len out ≡ fit (coded heading reported.code) (limit_of peer.transport None) → len ≤ limit_of peer.transport None → IsRepliedAtOnce first peer request reader reader out len reported
unread_at_once first peer reader request out heading reported len asks unread written short = record {
  bound = subst (λ (n : ℕ). len ≤ n) (sym (update_limit peer.transport request asks)) short;
  replied = told_replied first peer reader reader request out len short heading reported (unread first peer.may_update reader) written;
  outcome = (heading, written, inl unread);
  grows = grows_itself (learned_by reader);
}

-- a transfer by datagram that is replied to is answered
pub datagram_replies : (first : List Record) (peer : Peer) (known later : Learned Version) (request out : List ℕ) {E : Type 0} (result : Result (Option ℕ) E) → IfOk result (λ len. IsReplied first peer known later request (messages_in len out))
    → IfOk result (λ len. IsAnswered first peer known later request (messages_in len out))
datagram_replies first peer known later request out (Ok len) replied = inl replied
datagram_replies first peer known later request out (Err e) replied = tt
