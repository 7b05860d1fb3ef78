-- The reply to a request on a connection is that of the running server, by what was known when the first of those that wait was submitted, or is known.
use Rattle.std.proofs.Common.{◌≡◌, ◌≢◌, inl, inr, ℕ, true, false, List, [], ◌∷◌, length, Option, None, Some, Result, Ok, Err, IfOk, OnErr, sym, ap, ◌∙◌, subst, arith}
use Rattle.std.specs.Prelude.{take, slice_get}
use Rattle.dns_rdata.specs.Record.{Record}
use Rattle.dns_message.specs.Request.{is_update, reads}
use Rattle.dns_message.specs.declared.query.Parsed.TheVariants.{Silent, Update as SaysUpdate}
use Rattle.dns_message.specs.declared.query.Query.{Query as QueryAsked}
use Rattle.zone_tree.specs.Version.{Version}
use Rattle.snapshot_cell.specs.Tokens.{ReaderState}
use Rattle.serve_core.specs.declared.peer.Peer.{Peer}
use Rattle.requests.specs.Served.{Learned, Grows}
use Rattle.requests.proofs.TurnLemmas.{grows_itself}
use Rattle.tcp_connections.specs.Served.{Knowledge, Extends, waited, prompt}
use Rattle.tcp_connections.specs.Requests.{EachGrows}
use Rattle.tcp_connections.specs.Kept.{messages_of}
use Rattle.tcp_connections.specs.declared.handler.Reply.{Reply}
use Rattle.tcp_connections.specs.declared.handler.Reply.TheVariants.{Later}
use Rattle.update_batches.proofs.ReadLemmas.{read_is}
use Rattle.zone_server.specs.declared.update_result.UpdateResult.{UpdateResult}
use Rattle.zone_server.specs.UpdateResult.{IsDone}
use Rattle.zone_server.specs.Known.{learned_by}
use Rattle.zone_server.specs.QueuedUpdate.{MeetsAt, IsSubmitted}
use Rattle.zone_server.specs.declared.submit.Submitted.{Submitted}
use Rattle.zone_server.specs.declared.submit.Submitted.TheVariants.{Replied, Pending}
use Rattle.zone_server.specs.Answer.{PermitsTransfer}
use Rattle.zone_server.specs.Replied.{IsReplied, IsQuery, IsTransfer, HasNoAnswer}
use Rattle.zone_server.proofs.AboutLemmas.{no_older}
use Rattle.zone_server.proofs.ReplyDoneLemmas.{done_replied, unheard_replied, grows_met}
use Rattle.zone_server.proofs.ReplyLemmas.{still_replied, update_is_no_query, update_is_not_silent}
use Rattle.zone_replies.specs.declared.pending_updates.ReplyPlace.{ReplyPlace}
use Rattle.zone_replies.specs.State.{PendingState, HandlerState}
use Rattle.zone_server.specs.declared.answer.UpdateOutcome.{UpdateOutcome}
use Rattle.dns_rdata.specs.declared.numbers.Rcode.{Rcode}
use Rattle.dns_message.specs.Octets.{fit}
use Rattle.journal.specs.Batch.{Messages}
use Rattle.update_messages.specs.Joined.{IsRead}
use Rattle.update_messages.proofs.JoinedLemmas.{read_alone}
use Rattle.serve_core.specs.Heading.{heading_of_update, coded}
use Rattle.serve_core.specs.Transport.{limit_of}
use Rattle.zone_replies.specs.PendingUpdates.{asked_of, known_at, place_in, IsTakenUp, AreTakenUp, IsLater, IsMadeBy, IsToldAt, IsWritten}
use Rattle.zone_replies.proofs.PendingLemmas.{none_asked, place_asked}

-- a reader that meets what is published has forgotten nothing
pub meets_grows : (first : List Record) (before after : ReaderState Version) (number : ℕ) → MeetsAt first before after number → Grows (learned_by after) (learned_by before)
meets_grows first before after number meets = grows_met before after meets.0.held.published meets.1.seen meets.1.begun

pub submitted_grows : (first : List Record) (peer : Peer) (request : List ℕ) (before after : ReaderState Version) (out : List ℕ) (submitted : Submitted) → IsSubmitted first peer request before after out submitted → Grows (learned_by after) (learned_by before)
submitted_grows first peer request before after out (Replied len outcome) is = is.grows
submitted_grows first peer request before after out (Pending ticket number put) is = meets_grows first before after number is

-- and what was known before isn't newer than the version of the number that it has met
pub meets_taken : (first : List Record) (before after : ReaderState Version) (number : ℕ) (one : PendingState) → MeetsAt first before after number → one.known ≡ before → one.number ≡ number → IsTakenUp after one
meets_taken first before after number one meets is same = record {
  grown = subst (λ (r : ReaderState Version). Grows (learned_by after) (learned_by r)) (sym is) (meets_grows first before after number meets);
  number =
      let fresh = no_older first before.seen meets.0.held.published meets.0.held.last meets.1.begun meets.1.latest in
      let here : length one.known.seen ≡ length before.seen = ap (λ (r : ReaderState Version). length r.seen) is in
      omega (arith, fresh, here, meets.2, same);
}

-- what is told is what is written
pub told_written : (peer : Peer) (place : ReplyPlace) (done : UpdateResult) (reported : UpdateOutcome) (octets : List ℕ) → IsToldAt place done reported
    → octets ≡ fit (coded (heading_of_update done.asked.update) reported.code) (limit_of peer.transport None) → IsWritten peer place done octets
told_written peer place done reported octets (inl own) is =
    inl (own.0, is ∙ ap (λ (r : Rcode). fit (coded (heading_of_update done.asked.update) r) (limit_of peer.transport None)) own.1)
told_written peer place done reported octets (inr late) is =
    inr (late.0, is ∙ ap (λ (r : Rcode). fit (coded (heading_of_update done.asked.update) r) (limit_of peer.transport None)) late.1)

module _ (first : List Record) (peer : Peer) (taken : List (Option PendingState)) (before after : ReaderState Version) (key number : ℕ) (place : ReplyPlace) (done : UpdateResult) (request out : List ℕ) (len : ℕ) where
  -- what is written of an update that was taken up is its reply
  by_one : (one : PendingState) → IsTakenUp before one → one.number ≡ place.number → MeetsAt first before after number → IsDone first after.seen done → reads request ≡ SaysUpdate done.asked.update → done.asked.may ≡ peer.may_update
      → IsWritten peer place done (take len out) → IsReplied first peer (learned_by one.known) (learned_by after) request (take len out ∷ [])
  by_one one is same meets reported reading may (inl written) =
      done_replied first peer (learned_by one.known) (learned_by after) request out len done reported (omega (arith, is.number, same, written.0)) reading may written.1
  by_one one is same meets reported reading may (inr late) =
      still_replied first peer (learned_by one.known) (learned_by before) (learned_by after) request (take len out ∷ []) is.grown
      (unheard_replied first peer before after meets.0 request out done.asked.update len meets.1 reading late.1)

  pub taken_replied : AreTakenUp taken before → place_in taken key ≡ Some place → MeetsAt first before after number → IsDone first after.seen done → done.asked.messages ≡ request ∷ [] → done.asked.may ≡ true → peer.may_update ≡ true
      → IsWritten peer place done (take len out) → IsReplied first peer (asked_of (slice_get taken key) before) (learned_by after) request (take len out ∷ [])
  taken_replied all here meets reported alone may permitted written =
      let one = place_asked taken before key place all here in
      let reading : reads request ≡ SaysUpdate done.asked.update =
      read_alone request done.asked.update (subst (λ (ms : Messages). IsRead ms done.asked.update) alone (read_is done.asked.messages done.asked.update done.asked.read)) in
      subst (λ (l : Learned Version). IsReplied first peer l (learned_by after) request (take len out ∷ [])) (sym one.1)
      (by_one one.0 one.2 one.3 meets reported reading (may ∙ sym permitted) written)

-- a reply at once where none is pending before and after it
pub none_made : (first : List Record) (peer : Peer) (taken left : List (Option PendingState)) (before after : ReaderState Version) (key : ℕ) (request : List ℕ) (messages : List (List ℕ)) → place_in left key ≡ None
    → IsReplied first peer (learned_by before) (learned_by after) request messages → IsMadeBy first peer (known_at taken before key) (known_at left after key) request messages
none_made first peer taken left before after key request messages none replied =
    prompt replied (subst (λ (l : Learned Version). Grows l (learned_by after)) (sym (none_asked left after key none)) (grows_itself (learned_by after)))

-- a reply at once to an update of a peer that may update, where none is pending
pub later_made : (first : List Record) (peer : Peer) (taken left : List (Option PendingState)) (before after : ReaderState Version) (key : ℕ) (request : List ℕ) (messages : List (List ℕ)) → IsLater peer request → place_in taken key ≡ None
    → IsReplied first peer (learned_by before) (learned_by after) request messages → IsMadeBy first peer (known_at taken before key) (known_at left after key) request messages
later_made first peer taken left before after key request messages later none replied =
    waited later (subst (λ (l : Learned Version). IsReplied first peer l (learned_by after) request messages) (sym (none_asked taken before key none)) replied)

-- a reply by what was known between two steps is one by what was known before both
made_more : (first : List Record) (peer : Peer) (old mid later : Knowledge Version) (request : List ℕ) (messages : List (List ℕ)) → Extends mid old → IsMadeBy first peer mid later request messages → IsMadeBy first peer old later request messages
made_more first peer old mid later request messages grown (waited may replied) = waited may (still_replied first peer old.asked mid.asked later.latest request messages grown.asked replied)
made_more first peer old mid later request messages grown (prompt replied after) = prompt (still_replied first peer old.latest mid.latest later.latest request messages grown.latest replied) after

pub step_made : {M : Type 0} (first : List Record) (left : M → List (List ℕ)) (request out : List ℕ) (old mid : HandlerState) (later : ℕ → Knowledge Version) (reply : Reply M) → mid.peer ≡ old.peer → mid.asker ≡ old.asker
    → EachGrows {T = Version} (known_at mid.taken mid.reader) (known_at old.taken old.reader) → (reply ≢ Later → IsMadeBy first mid.peer (known_at mid.taken mid.reader mid.asker) (later mid.asker) request (messages_of left reply out))
    → reply ≢ Later → IsMadeBy first old.peer (known_at old.taken old.reader old.asker) (later old.asker) request (messages_of left reply out)
step_made first left request out old mid later reply peer asker grown made = λ is.
    made_more first old.peer (known_at old.taken old.reader old.asker) (known_at mid.taken mid.reader old.asker) (later old.asker) request (messages_of left reply out) (grown old.asker)
    (subst (λ (k : ℕ). IsMadeBy first old.peer (known_at mid.taken mid.reader k) (later k) request (messages_of left reply out)) asker
    (subst (λ (p : Peer). IsMadeBy first p (known_at mid.taken mid.reader mid.asker) (later mid.asker) request (messages_of left reply out)) peer (made is)))

-- a reply at once, to a request of whose connection none is pending any more
pub settled_made : (first : List Record) (old : HandlerState) (peer : Peer) (taken : List (Option PendingState)) (before after : ReaderState Version) (request : List ℕ) (messages : List (List ℕ)) → peer ≡ old.peer → place_in taken old.asker ≡ None
    → EachGrows {T = Version} (known_at taken before) (known_at old.taken old.reader) → IsReplied first peer (learned_by before) (learned_by after) request messages
    → IsMadeBy first old.peer (known_at old.taken old.reader old.asker) (known_at taken after old.asker) request messages
settled_made first old peer taken before after request messages is none grown replied =
    made_more first old.peer (known_at old.taken old.reader old.asker) (known_at taken before old.asker) (known_at taken after old.asker) request messages (grown old.asker)
    (none_made first old.peer taken taken before after old.asker request messages none (subst (λ (p : Peer). IsReplied first p (learned_by before) (learned_by after) request messages) is replied))

-- the same of a transfer that is started
pub settled_all : {M E : Type 0} (first : List Record) (left : M → List (List ℕ)) (old : HandlerState) (peer : Peer) (taken : List (Option PendingState)) (before after : ReaderState Version) (request out : List ℕ) (result : Result (Reply M) E) → peer ≡ old.peer → place_in taken old.asker ≡ None
    → EachGrows {T = Version} (known_at taken before) (known_at old.taken old.reader) → IfOk result (λ reply. IsReplied first peer (learned_by before) (learned_by after) request (messages_of left reply out))
    → IfOk result (λ reply. reply ≢ Later → IsMadeBy first old.peer (known_at old.taken old.reader old.asker) (known_at taken after old.asker) request (messages_of left reply out))
settled_all first left old peer taken before after request out (Ok reply) is none grown replied = λ _. settled_made first old peer taken before after request (messages_of left reply out) is none grown replied
settled_all first left old peer taken before after request out (Err e) is none grown replied = tt

-- a request that isn't an update is answered at once
pub never_later : (peer : Peer) (request : List ℕ) → is_update request ≡ false → IsLater peer request → ⊥
never_later peer request other later = none (later.0)
  where
    none : is_update request ≡ true → ⊥
    none asks = cc

-- a query isn't answered later
pub query_never_later : (peer : Peer) (request : List ℕ) → IsQuery request → IsLater peer request → ⊥
query_never_later peer request query later = update_is_no_query request later.0 query

-- nor is what gets no reply
pub silent_never_later : (peer : Peer) (request : List ℕ) → reads request ≡ Silent → IsLater peer request → ⊥
silent_never_later peer request silent later = update_is_not_silent request later.0 silent

-- a transfer isn't answered later
pub transfer_unlater : {M E : Type 0} (P : Type 0) (result : Result (Reply M) E) → IfOk result (λ reply. reply ≢ Later) → IfOk result (λ reply. reply ≡ Later → P)
transfer_unlater P (Ok reply) made = λ later. absurd (made later)
transfer_unlater P (Err e) made = tt

-- if grants are lacking for it, none is left
pub spent_left : {T E : Type 0} (first : List Record) (peer : Peer) (request : List ℕ) (after : ReaderState Version) (result : Result T E) → OnErr result (IsTransfer first peer request × (after.left ≡ 0)) → OnErr result (after.left ≡ 0)
spent_left first peer request after (Ok x) spent = tt
spent_left first peer request after (Err e) spent = spent.1

-- and it gets no answer
pub spent_unanswered : {T E : Type 0} (first : List Record) (peer same : Peer) (request : List ℕ) (before after : ReaderState Version) (result : Result T E) → peer ≡ same → OnErr result (IsTransfer first peer request × (after.left ≡ 0))
    → OnErr result (HasNoAnswer first same request before after)
spent_unanswered first peer same request before after (Ok x) is spent = tt
spent_unanswered first peer same request before after (Err e) is spent = inr (subst (λ (p : Peer). IsTransfer first p request × (after.left ≡ 0)) is spent)

-- a transfer is permitted by the query that was moved out, as by the one that was read
pub permits_moved : (first : List Record) (peer : Peer) (request : List ℕ) (before after : ReaderState Version) (owned : _) (read moved : QueryAsked) → moved ≡ read → PermitsTransfer first peer request before after read owned
    → PermitsTransfer first peer request before after moved owned
permits_moved first peer request before after owned read moved same permits = subst (λ (q : QueryAsked). PermitsTransfer first peer request before after q owned) (sym same) permits
