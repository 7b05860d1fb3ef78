-- What a request gets in the version that is loaded for it.
use Rattle.std.proofs.Common.{◌≡◌, ◌↔◌, refl, ℕ, List}
use Rattle.dns_rdata.specs.Record.{Record}
use Rattle.dns_message.specs.declared.query.Query.{Query as QueryAsked}
use Rattle.zone_tree.specs.Version.{Version}
use Rattle.cell_core.specs.declared.words.Version.{Version as Numbered}
use Rattle.snapshot_cell.specs.Tokens.{ReaderState}
use Rattle.requests.specs.Served.{Grows}
use Rattle.serve_core.specs.declared.peer.Peer.{Peer}
use Rattle.zone_server.specs.Known.{learned_by, HasLoaded}
use Rattle.zone_server.specs.Replied.{IsQuery, IsTransfer}
use Rattle.zone_server.specs.Answer.{PermitsTransfer, IsAnswer}
use Rattle.zone_server.specs.declared.answer.Now.TheVariants as now
use Rattle.zone_server.specs.declared.request_answer.Answer.{Answer}
use Rattle.zone_server.specs.declared.request_answer.Answer.TheVariants.{Bytes, Silent, Update, Transfer, Spent}
use Rattle.zone_server.proofs.KnownLemmas.{loaded_replay}
use Rattle.zone_server.proofs.NowLemmas.{now_spent, now_grows, same_grows, load_grows, had_one}
use Rattle.zone_server.proofs.ReplyLemmas.{update_is_no_query}

-- no load is told to be left exactly of a query for which none is
pub answer_spent : {Z N : Type 0} (first : List Record) (peer : Peer) (request : List ℕ) (before after : ReaderState Version) (query : QueryAsked) (out : List ℕ) (answer : Answer Z N) → IsAnswer first peer request before after query out answer
    → (answer ≡ Spent) ↔ (IsQuery request × (before.left ≡ 0))
answer_spent first peer request before after query out (Bytes len) is = (
  λ same. absurd (cc),
  λ (q : IsQuery request × (before.left ≡ 0)). absurd (none ((now_spent first peer request before after out (now.Bytes len) is).1 q)),
)
  where
    none : now.Bytes len ≡ now.Spent → ⊥
    none same = cc
answer_spent first peer request before after query out Silent is = (
  λ same. absurd (cc),
  λ (q : IsQuery request × (before.left ≡ 0)). absurd (none ((now_spent first peer request before after out now.Silent is).1 q)),
)
  where
    none : now.Silent ≡ now.Spent → ⊥
    none same = cc
answer_spent first peer request before after query out Update is = (λ same. absurd (cc), λ (q : IsQuery request × (before.left ≡ 0)). absurd (update_is_no_query request is.0 q.0))
answer_spent first peer request before after query out (Transfer owned) is = (λ same. absurd (cc), λ (q : IsQuery request × (before.left ≡ 0)). absurd (had_one first before after owned.value is.loaded q.1))
answer_spent first peer request before after query out Spent is = (λ same. (is.0, is.1.0), λ q. refl)

-- a transfer that is permitted in the version that is loaded for it is answered later
pub permitted_later : (first : List Record) (peer : Peer) (request : List ℕ) (before after : ReaderState Version) (query : QueryAsked) (owned : Numbered Version) → PermitsTransfer first peer request before after query owned
    → (transfer : IsTransfer first peer request) × HasLoaded first before after transfer.version
permitted_later first peer request before after query owned is = (
  record {
    query = query;
    asked = is.asked;
    version = owned.value;
    replayed = loaded_replay first before after (record { number = owned.value.number; value = owned.value }) is.loaded;
    permitted = is.permitted;
  },
  is.loaded,
)

-- what the reader has learned grows
pub answer_grows : {Z N : Type 0} (first : List Record) (peer : Peer) (request : List ℕ) (before after : ReaderState Version) (query : QueryAsked) (out : List ℕ) (answer : Answer Z N) → IsAnswer first peer request before after query out answer
    → Grows (learned_by after) (learned_by before)
answer_grows first peer request before after query out (Bytes len) is = now_grows first peer request before after out (now.Bytes len) is
answer_grows first peer request before after query out Silent is = now_grows first peer request before after out now.Silent is
answer_grows first peer request before after query out Update is = same_grows before after is.1
answer_grows first peer request before after query out (Transfer owned) is = load_grows first before after owned.value is.loaded
answer_grows first peer request before after query out Spent is = now_grows first peer request before after out now.Spent is
