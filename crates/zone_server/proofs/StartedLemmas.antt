-- A transfer that is started in the version that it was permitted in.
use Rattle.std.proofs.Common.{◌≡◌, ℕ, ◌-◌, List, Result, Ok, Err, IfOk, OnErr, inr, sym, ap, ◌∙◌, subst, arith}
use Rattle.dns_rdata.specs.Record.{Record}
use Rattle.dns_message.specs.declared.query.Query.{Query as QueryAsked}
use Rattle.zone_tree.specs.Version.{Version}
use Rattle.cell_core.specs.declared.words.Version.{Version as Numbered}
use Rattle.snapshot_cell.specs.Tokens.{ReaderState}
use Rattle.dns_engine.specs.Held.{IsLatest}
use Rattle.dns_engine.specs.Replayed.{IsReplay}
use Rattle.requests.specs.Served.{Grows}
use Rattle.requests.proofs.TurnLemmas.{grows_more}
use Rattle.serve_core.specs.declared.peer.Peer.{Peer}
use Rattle.zone_server.specs.Known.{learned_by, HasTooFew}
use Rattle.zone_server.specs.Replied.{IsReplied, IsTransfer, HasNoAnswer}
use Rattle.zone_server.specs.Answer.{PermitsTransfer, IsStarted}
use Rattle.zone_server.proofs.AboutLemmas.{no_older}
use Rattle.zone_server.proofs.AnswerLemmas.{permitted_later}
use Rattle.zone_server.proofs.KnownLemmas.{loaded_latest, loaded_replay}
use Rattle.zone_server.proofs.NowLemmas.{load_grows, few_grows}
use Rattle.zone_server.proofs.ReplyLemmas.{transfer_replied, chained_grows}

module _ (first : List Record) (peer : Peer) (request : List ℕ) (before mid after : ReaderState Version) (query : QueryAsked) (owned : Numbered Version) (permits : PermitsTransfer first peer request before mid query owned) where
  abbrev own : Numbered Version
  own = record { number = owned.value.number; value = owned.value }

  latest : IsLatest first mid.seen owned.value
  latest = loaded_latest first before mid own permits.loaded

  replayed : IsReplay first owned.value
  replayed = loaded_replay first before mid own permits.loaded

  -- it may be started there
  pub starts : IsLatest first mid.seen owned.value × (owned.value.number ≡ owned.number)
  starts = (latest, permits.number)

  started_replied : (messages : List (List ℕ)) → IsStarted first peer query owned.value mid after messages → IsReplied first peer (learned_by before) (learned_by after) request messages
  started_replied messages s =
      let fresh = no_older first before.seen mid.seen owned.value permits.loaded.begun latest in
      let replied = transfer_replied first peer (learned_by before) mid after owned.value request query s.0 fresh replayed latest permits.asked permits.permitted s.1 in
      subst (λ (l : List (List ℕ)). IsReplied first peer (learned_by before) (learned_by after) request l) (sym s.2) replied.0

  loads_grow : Grows (learned_by mid) (learned_by before)
  loads_grow = load_grows first before mid owned.value permits.loaded

  module _ {T E : Type 0} (messages : T → List (List ℕ)) where
    -- its messages are the reply
    pub transfer_replies : (result : Result T E) → IfOk result (λ r. IsStarted first peer query owned.value mid after (messages r)) → IfOk result (λ r. IsReplied first peer (learned_by before) (learned_by after) request (messages r))
    transfer_replies (Ok r) started = started_replied (messages r) started
    transfer_replies (Err e) started = tt

    -- what the reader has learned grows
    pub transfer_grows : (result : Result T E) → IfOk result (λ r. IsStarted first peer query owned.value mid after (messages r)) → OnErr result (HasTooFew first query owned.value mid after) → Grows (learned_by after) (learned_by before)
    transfer_grows (Ok r) started few = grows_more (learned_by before) (learned_by mid) (learned_by after) loads_grow (chained_grows first query owned.value mid after started.0 started.1)
    transfer_grows (Err e) started few = grows_more (learned_by before) (learned_by mid) (learned_by after) loads_grow (few_grows first query owned.value mid after few)

  -- if grants are lacking for it, none is left
  pub transfer_spent : {T E : Type 0} (result : Result T E) → OnErr result (HasTooFew first query owned.value mid after) → OnErr result (IsTransfer first peer request × (after.left ≡ 0))
  transfer_spent (Ok r) few = tt
  transfer_spent (Err e) few =
      let all : mid.left - mid.left ≡ 0 = omega arith in
      ((permitted_later first peer request before mid query owned permits).0, ap (λ (r : ReaderState Version). r.left) few.few.spent ∙ all)

  -- and it is answered by nothing
  pub transfer_unanswered : {T E : Type 0} (result : Result T E) → OnErr result (HasTooFew first query owned.value mid after) → OnErr result (HasNoAnswer first peer request before after)
  transfer_unanswered (Ok r) few = tt
  transfer_unanswered {T = T} (Err e) few = inr (transfer_spent {T = T} (Err e) few)
