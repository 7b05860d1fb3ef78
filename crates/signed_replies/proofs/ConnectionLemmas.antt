-- A request of a connection that a handler is asked to answer, as that of a peer, under a key.
use Rattle.std.proofs.Common.{◌≡◌, ℕ, List, [], sym, subst}
use Rattle.tcp_connections.specs.Served.{Knowledge, Extends}
use Rattle.tcp_connections.proofs.TurnLemmas.{extends_itself}
use Rattle.serve_core.specs.declared.peer.Peer.{Peer}
use Rattle.tcp_connections.specs.Requests.{EachGrows}
use Rattle.tcp_connections.proofs.RequestLemmas.{each_more, each_as}
use Rattle.rights.specs.declared.rule.Rule.{Rule}
use Rattle.tsig.specs.Keys.{SharedKey}
use Rattle.tsig.specs.declared.request_tsig.RequestTsig.{RequestTsig}
use Rattle.tsig.specs.declared.verifying.Verification.{Verification}
use Rattle.tsig.specs.declared.verifying.Verification.TheVariants.{Silent}
use Rattle.signed_replies.specs.Signed.{received, IsReplyBy, IsReplyTo}
use Rattle.signed_replies.proofs.ReplyLemmas.{silent_by, reply_by, at_once_by, then_by}

module _ {T : Type 0} (seen turned set later : ℕ → Knowledge T) (first : EachGrows turned seen) (same : (key : ℕ) → set key ≡ turned key) (last : EachGrows later set) where
  -- nothing that was known before is forgotten
  pub asked_grows : EachGrows later seen
  asked_grows = each_more seen turned later first (each_as turned set later same last)

  -- its reply is one by what was known when it was asked
  pub asked_by : (IsReply : Peer → Knowledge T → Knowledge T → List ℕ → List (List ℕ) → Type 0) (peer mine : Peer) (key own : ℕ) (request : List ℕ) (messages : List (List ℕ)) → own ≡ key → mine ≡ peer
      → IsReply mine (set own) (later own) request messages → (before : Knowledge T) × Extends before (seen key) × Extends (later key) before × IsReply peer before (later key) request messages
  asked_by IsReply peer mine key own request messages here who is =
      let keyed : IsReply mine (set key) (later key) request messages = subst (λ (n : ℕ). IsReply mine (set n) (later n) request messages) here is in
      (set key, subst (λ (l : Knowledge T). Extends l (seen key)) (sym (same key)) (first key), last key, subst (λ (p : Peer). IsReply p (set key) (later key) request messages) who keyed)

-- what requests of connections get
-- nothing is replied to what isn't answered
pub silent_to : {T : Type 0} (keys : List SharedKey) (rights : List (List Rule)) (IsReply : Peer → Knowledge T → Knowledge T → List ℕ → List (List ℕ) → Type 0)
    (AreSigned : SharedKey → ℕ → RequestTsig → ℕ → List (List ℕ) → List (List ℕ) → Type 0) (peer : Peer) (seen : Knowledge T) (request : List ℕ)
    → received keys 0 request ≡ Silent → IsReplyTo keys rights IsReply AreSigned Extends peer seen seen request []
silent_to keys rights IsReply AreSigned peer seen request is = silent_by Extends extends_itself keys rights IsReply AreSigned peer seen request is

-- what a request gets by what it is, it gets
pub reply_to : {T : Type 0} (keys : List SharedKey) (rights : List (List Rule)) (IsReply : Peer → Knowledge T → Knowledge T → List ℕ → List (List ℕ) → Type 0)
    (AreSigned : SharedKey → ℕ → RequestTsig → ℕ → List (List ℕ) → List (List ℕ) → Type 0) (verification : Verification) (now : ℕ) (peer : Peer)
    (seen later : Knowledge T) (request : List ℕ) (messages : List (List ℕ)) → verification ≡ received keys now request
    → (before : Knowledge T) × Extends before seen × Extends later before × IsReplyBy keys rights IsReply AreSigned verification now peer before later request messages
    → IsReplyTo keys rights IsReply AreSigned Extends peer seen later request messages
reply_to keys rights IsReply AreSigned verification now peer seen later request messages is r = reply_by Extends extends_itself keys rights IsReply AreSigned verification now peer seen later request messages is r

-- what is replied without asking a handler is replied by what is known
pub told_at_once : {T : Type 0} (keys : List SharedKey) (rights : List (List Rule)) (IsReply : Peer → Knowledge T → Knowledge T → List ℕ → List (List ℕ) → Type 0)
    (AreSigned : SharedKey → ℕ → RequestTsig → ℕ → List (List ℕ) → List (List ℕ) → Type 0) (verification said : Verification) (now : ℕ) (peer : Peer) (seen : Knowledge T) (request : List ℕ) (messages : List (List ℕ))
    → verification ≡ said → IsReplyBy keys rights IsReply AreSigned said now peer seen seen request messages
    → (before : Knowledge T) × Extends before seen × Extends seen before × IsReplyBy keys rights IsReply AreSigned verification now peer before seen request messages
told_at_once keys rights IsReply AreSigned verification said now peer seen request messages is reply = at_once_by Extends extends_itself keys rights IsReply AreSigned verification said now peer seen request messages is reply

-- and what a handler is asked for
pub told_then : {T : Type 0} (keys : List SharedKey) (rights : List (List Rule)) (IsReply : Peer → Knowledge T → Knowledge T → List ℕ → List (List ℕ) → Type 0)
    (AreSigned : SharedKey → ℕ → RequestTsig → ℕ → List (List ℕ) → List (List ℕ) → Type 0) (verification said : Verification) (now : ℕ) (peer : Peer) (seen later : Knowledge T) (request : List ℕ) (messages : List (List ℕ))
    → verification ≡ said → (before : Knowledge T) × Extends before seen × Extends later before × IsReplyBy keys rights IsReply AreSigned said now peer before later request messages
    → (before : Knowledge T) × Extends before seen × Extends later before × IsReplyBy keys rights IsReply AreSigned verification now peer before later request messages
told_then keys rights IsReply AreSigned verification said now peer seen later request messages is reply = then_by Extends extends_itself keys rights IsReply AreSigned verification said now peer seen later request messages is reply
