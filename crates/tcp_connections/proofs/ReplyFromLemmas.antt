-- A reply to the peer that rules make of who sends a request.
use Rattle.std.proofs.Common.{◌≡◌, ℕ, List, subst}
use Rattle.std.specs.declared.net.socket_addr.SocketAddr.{SocketAddr}
use Rattle.rights.specs.declared.rule.Rule.{Rule}
use Rattle.serve_core.specs.declared.peer.Peer.{Peer}
use Rattle.serve_core.specs.declared.transport.Transport.{Transport}
use Rattle.requests.specs.Allowed.{IsPeer, IsReplyFrom, IsLaterFrom}
use Rattle.tcp_connections.specs.Served.{Knowledge}

module _ (rules : List Rule) (transport : Transport) (from : SocketAddr) (request : List ℕ) (peer mine : Peer) (is_peer : IsPeer rules transport from request peer) (same : mine ≡ peer) where
  -- once the handler is set to that peer
  pub reply_as : {T : Type 0} (IsReply : Peer → Knowledge T → Knowledge T → List ℕ → List (List ℕ) → Type 0) (messages : List (List ℕ)) (key own : ℕ) (seen mid later : ℕ → Knowledge T) → own ≡ key → ((k : ℕ) → mid k ≡ seen k)
      → IsReply mine (mid own) (later own) request messages → IsReplyFrom IsReply rules transport from (seen key) (later key) request messages
  reply_as {T} IsReply messages key own seen mid later here still is =
      let keyed : IsReply mine (mid key) (later key) request messages = subst (λ (n : ℕ). IsReply mine (mid n) (later n) request messages) here is in
      let known : IsReply mine (seen key) (later key) request messages = subst (λ (l : Knowledge T). IsReply mine l (later key) request messages) (still key) keyed in
      (peer, is_peer, subst (λ (p : Peer). IsReply p (seen key) (later key) request messages) same known)

  -- the same of one that is made later
  pub later_as : (is_later : Peer → List ℕ → Type 0) → is_later mine request → IsLaterFrom is_later rules transport from request
  later_as is_later later = (peer, is_peer, subst (λ (p : Peer). is_later p request) same later)
