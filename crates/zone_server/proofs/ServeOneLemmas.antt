-- What a request gets that is not answered at once.
use Rattle.std.proofs.Common.{◌≡◌, ◌≤◌, ℕ, false, true, List, [], ◌∷◌, take, ◌⊎◌, inl, inr, ⊎_elim, sym, ◌∙◌, subst}
use Rattle.dns_rdata.specs.Record.{Record}
use Rattle.dns_message.specs.declared.query.Query.{Query as QueryAsked}
use Rattle.dns_message.specs.declared.query.Parsed.TheVariants.{Query, Silent}
use Rattle.dns_message.specs.Request.{reads, is_update}
use Rattle.zone_tree.specs.Version.{Version}
use Rattle.cell_core.specs.declared.words.Version.{Version as Numbered}
use Rattle.snapshot_cell.specs.Tokens.{ReaderState}
use Rattle.dns_engine.specs.Chain.{ChainState}
use Rattle.serve_core.specs.declared.peer.Peer.{Peer}
use Rattle.zone_server.specs.Known.{learned_by, HasGone, HasTooFew}
use Rattle.zone_server.specs.Replied.{IsUpdate, IsTransfer, IsChained, IsNow, IsQuery, LoadsFor}
use Rattle.zone_server.specs.Answer.{PermitsTransfer}
use Rattle.zone_server.specs.Updated.{IsUpdateTold}
use Rattle.zone_server.specs.Replied.{IsReplied}
use Rattle.zone_server.specs.ServeOne.{IsServed}
use Rattle.zone_server.specs.declared.answer.Now.TheVariants as now
use Rattle.zone_server.specs.declared.answer.UpdateOutcome.{UpdateOutcome}
use Rattle.zone_server.specs.declared.served.Served.TheVariants.{Reply, Updated, Transfer, Spent}
use Rattle.serve_core.specs.Served.{limit_for}
use Rattle.zone_server.proofs.AboutLemmas.{no_older}
use Rattle.zone_server.proofs.KnownLemmas.{loaded_latest, loaded_replay}
use Rattle.zone_server.proofs.ReplyLemmas.{transfer_replied, chained_grows, update_is_no_query, update_is_not_silent}

-- what is not answered at once and can be parsed as a query asks for a transfer
queried_transfer : (first : List Record) (peer : Peer) (request : List ℕ) → IsUpdate request ⊎ IsTransfer first peer request → IsQuery request → IsTransfer first peer request
queried_transfer first peer request later query = ⊎_elim (λ (asks : IsUpdate request). absurd (update_is_no_query request asks query)) (λ (t : IsTransfer first peer request). t) later

-- a query whose transfer is not permitted in the version that is loaded gets its reply in that version
pub served_reply : (first : List Record) (peer : Peer) (request : List ℕ) (before after : ReaderState Version) (out : List ℕ) (len : ℕ) → IsUpdate request ⊎ IsTransfer first peer request
    → IsNow first peer request before after out (now.Bytes len) → IsServed first peer request before after out (Reply len)
served_reply first peer request before after out len later is = ⊎_elim (λ (asks : IsUpdate request). absurd (no_both asks is.2.other)) (λ (t : IsTransfer first peer request). by t) later
  where
    no_both : is_update request ≡ true → is_update request ≡ false → ⊥
    no_both asks other = cc

    by : IsTransfer first peer request → IsServed first peer request before after out (Reply len)
    by t = (is.0, is.1, (t.query, t.asked), subst (LoadsFor first before after is.1.version) t.asked is.3)

-- no request that is answered later gets no reply
pub served_silent : (first : List Record) (peer : Peer) (request : List ℕ) → IsUpdate request ⊎ IsTransfer first peer request → reads request ≡ Silent → ⊥
served_silent first peer request later silent = ⊎_elim (λ (asks : IsUpdate request). update_is_not_silent request asks silent) (λ (t : IsTransfer first peer request). no_query t.query (sym silent ∙ t.asked)) later
  where
    no_query : (query : QueryAsked) → Silent ≡ Query query → ⊥
    no_query query same = cc

-- an update is answered, and the reader stays as it was before that
pub served_update : (first : List Record) (peer : Peer) (request : List ℕ) (before mid after : ReaderState Version) (out : List ℕ) (len : ℕ) (outcome : UpdateOutcome) → mid ≡ before → len ≤ limit_for peer.transport (reads request)
    → IsReplied first peer (learned_by mid) (learned_by after) request (take len out ∷ []) → IsUpdateTold first peer request mid after (take len out) outcome → IsServed first peer request before after out (Updated len outcome)
served_update first peer request before mid after out len outcome same bound replied reported = subst (λ (r : ReaderState Version). IsServed first peer request r after out (Updated len outcome)) same (bound, replied, reported)

-- no load is left for a transfer
pub served_gone : (first : List Record) (peer : Peer) (request : List ℕ) (before after : ReaderState Version) (out : List ℕ) → IsUpdate request ⊎ IsTransfer first peer request → IsQuery request → HasGone before after
    → IsServed first peer request before after out Spent
served_gone first peer request before after out later query gone = (queried_transfer first peer request later query, inl gone)

module _ (first : List Record) (peer : Peer) (request : List ℕ) (before mid after : ReaderState Version) (query : QueryAsked) (owned : Numbered Version) (permits : PermitsTransfer first peer request before mid query owned) where
  -- a transfer that is started in the version that it was permitted in
  pub served_transfer : (out : List ℕ) (version : Version) (chain : ChainState) → version ≡ owned.value → IsChained first query owned.value mid after chain → IsServed first peer request before after out (Transfer version chain query)
  served_transfer out version chain same chained =
      let own : Numbered Version = record { number = owned.value.number; value = owned.value } in
      let latest = loaded_latest first before mid own permits.loaded in
      let fresh = no_older first before.seen mid.seen owned.value permits.loaded.begun latest in
      let replied = transfer_replied first peer (learned_by before) mid after owned.value request query chain fresh (loaded_replay first before mid own permits.loaded) latest permits.asked permits.permitted chained in
      subst (λ (v : Version). IsServed first peer request before after out (Transfer v chain query)) (sym same) (permits.permitted, replied, permits.asked, (mid, permits.loaded, chained_grows first query owned.value mid after chain chained))

  -- grants are lacking for it
  pub served_few : (out : List ℕ) → HasTooFew first query owned.value mid after → IsServed first peer request before after out Spent
  served_few out few =
      let own : Numbered Version = record { number = owned.value.number; value = owned.value } in
      let replayed = loaded_replay first before mid own permits.loaded in
      let transfer : IsTransfer first peer request = record { query = query; asked = permits.asked; version = owned.value; replayed = replayed; permitted = permits.permitted } in
      (transfer, inr (owned.value, mid, permits.loaded, few))
