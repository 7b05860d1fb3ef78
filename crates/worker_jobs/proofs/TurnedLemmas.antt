-- Turns that are taken one behind the other.
use Rattle.std.proofs.Common.{◌≡◌, ℕ, List, Option, sym, subst}
use Rattle.tcp_connections.specs.Served.{Knowledge}
use Rattle.std.specs.declared.net.socket_addr.SocketAddr.{SocketAddr}
use Rattle.slab.specs.Slab.{Slab}
use Rattle.tcp_connections.specs.declared.limits.Limits.{Limits}
use Rattle.tcp_connections.specs.declared.connection.Connection.{Connection}
use Rattle.tcp_loop.specs.declared.worker.EventLoop.{EventLoop}
use Rattle.tcp_loop.specs.Steps.{HasTurned, Turned, unturned, turned}

module _ {S M T : Type 0} (origin : S → SocketAddr) (octets : S → Option (List ℕ × List ℕ)) (IsReply : SocketAddr → Knowledge T → Knowledge T → List ℕ → List (List ℕ) → Type 0) (limits : Limits) where
  -- turns behind others
  pub turned_more : (seen mid : ℕ → Knowledge T) (old between : Slab (Connection S M)) (later : ℕ → Knowledge T) (new : Slab (Connection S M)) → Turned origin octets IsReply limits seen old mid between → Turned origin octets IsReply limits mid between later new → Turned origin octets IsReply limits seen old later new
  turned_more seen mid old between later new so_far unturned = so_far
  turned_more seen mid old between later new so_far (turned now more last) = turned now (turned_more seen mid old between _ _ so_far more) last

  -- one turn alone, behind which the connections stay
  pub one_turned : (now : ℕ) (seen later : ℕ → Knowledge T) (old : Slab (Connection S M)) (mid new : EventLoop S M) → HasTurned origin octets IsReply limits now seen old later mid.connections → new ≡ mid → Turned origin octets IsReply limits seen old later new.connections
  one_turned now seen later old mid new has same =
      subst (λ (event_loop : EventLoop S M). Turned origin octets IsReply limits seen old later event_loop.connections) (sym same) (turned now unturned has)

  -- the same, where what is known hasn't changed before it
  pub rested_turned : (now : ℕ) (seen rested later : ℕ → Knowledge T) (old : Slab (Connection S M)) (mid new : EventLoop S M) → rested ≡ seen → HasTurned origin octets IsReply limits now rested old later mid.connections → new ≡ mid → Turned origin octets IsReply limits seen old later new.connections
  rested_turned now seen rested later old mid new rests has same =
      subst (λ (from : ℕ → Knowledge T). Turned origin octets IsReply limits from old later new.connections) rests (one_turned now rested later old mid new has same)
