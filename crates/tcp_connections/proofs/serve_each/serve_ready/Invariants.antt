-- The connections under the keys so far are served, and there is room for the keys that are left.
use Rattle.std.proofs.Common.{ℕ, ◌+◌, ◌≤◌, ◌⊎◌, length, take, option_map}
use Rattle.std.specs.List.{All, Contains}
use Rattle.std.specs.Vec.{vec_len, vec_capacity}
use Rattle.requests.specs.Allowed.{IsReplyFrom, IsLaterFrom}
use Rattle.serve_core.specs.declared.transport.Transport.TheVariants.{Tcp}
use Rattle.requests.specs.Served.{BeginsWith}
use Rattle.tcp_connections.specs.Requests.{EachGrows}
use Rattle.slab.specs.Slab.{get, slab_len}
use Rattle.tcp_connections.specs.Ends.{AreCounted}
use Rattle.tcp_connections.specs.Connections.{OwnServed, HasStopped, seen_of}
use Rattle.tcp_connections.proofs.serve_each.serve_ready.Given as goal

abbrev pub invariant-loop-key : goal.invariant-loop-key
invariant-loop-key g l = record {
  grows : EachGrows (g.A.Handler.seen l.handler) (g.A.Handler.seen l.initial.handler);
  own : (key : ℕ) → OwnServed (IsReplyFrom g.A.Handler.is_reply l.fn.allowed.rules.now Tcp) l.now (g.A.Handler.seen l.initial.handler key) (option_map (seen_of g.S.Blocking.octets) (get l.initial.connections key)) (g.A.Handler.seen l.handler key) (option_map (seen_of g.S.Blocking.octets) (get l.connections key));
  ended : AreCounted l.initial.ends l.ends (slab_len l.initial.connections) (slab_len l.connections);
  next : BeginsWith l.next.items l.initial.next.items;
  going : All (λ key. Contains l.next.items key ⊎ HasStopped g.S.Blocking.would_block (IsLaterFrom g.A.Handler.is_later l.fn.allowed.rules.now Tcp) (get l.connections key)) (take l.key-index l.keys);
  room : vec_len l.next + length l.keys ≤ vec_capacity l.next + l.key-index;
}
