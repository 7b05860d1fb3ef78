-- What becomes of each connection of a worker thread (own).
use Rattle.std.specs.Prelude.{◌≡◌, ◌⊎◌, ℕ, List, Option, None, Some, IfSome, ⊤, if◌then◌else◌}
use Rattle.std.specs.declared.net.socket_addr.SocketAddr.{SocketAddr}
use Rattle.tcp_connections.specs.declared.group.PeerGroup.{PeerGroup}
use Rattle.tcp_connections.specs.Served.{Knowledge, Extends}
use Rattle.requests.specs.declared.stream_end.StreamEnd.{StreamEnd}
use Rattle.tcp_connections.specs.Kept.{Kept, told_by, awaited}
use Rattle.tcp_connections.specs.StreamOctets.{Writes}
use Rattle.tcp_connections.specs.Going.{Goes, Stops, IsHeldUp}
use Rattle.tcp_connections.specs.Deadlines.{IsBegun, is_over}
use Rattle.tcp_connections.specs.Ends.{one_late, one_slow}
use Rattle.tcp_connections.specs.Rate.{is_slow}
use Rattle.tcp_connections.specs.declared.ends.Ends.{Ends}
use Rattle.tcp_connections.specs.declared.limits.Limits.{Limits}
use Rattle.tcp_connections.specs.declared.window.Window.{Window}
use Rattle.tcp_connections.specs.declared.connection.Connection.{Connection}

-- what contracts see of a connection: its peer's address and the group of that, its stream's octets, what it keeps, since when its peer is
-- waited for, and the window in which the octets that the peer takes are counted
pub record Seen : Type 0 where
  pub from : SocketAddr
  pub group : PeerGroup
  pub octets : Option (List ℕ × List ℕ)
  pub kept : Kept
  pub begun : ℕ
  pub window : Window

-- its stream as the connection has it
abbrev pub told_of : Seen → Option (List ℕ × List ℕ)
told_of seen = told_by seen.kept seen.octets

-- what a reply is, by the address of the peer, the list of what is known to be published before it and that of what is known when it is made,
-- the request, and the reply's messages
module _ {T : Type 0} (IsReply : SocketAddr → Knowledge T → Knowledge T → List ℕ → List (List ℕ) → Type 0) where
  -- a connection has ended, with all its requests answered as those from its peer's address, or some of them
  pub record HasEnded (seen : Knowledge T) (old : Seen) (later : Knowledge T) : Type 0 where
    pub end : StreamEnd
    pub known : Knowledge T
    pub octets : Option (List ℕ × List ℕ)
    pub grown : Extends later known
    pub stops : Stops (IsReply old.from) end seen (told_of old) known octets
    pub written : Writes old.octets octets

  -- a connection has gone on at a time: its peer's address, the group of that, and its window are as before, on its own stream that peer's
  -- requests are answered as those from that address, and the peer is waited for from now, or from when it was if it has finished nothing
  pub record HasGone (now : ℕ) (seen : Knowledge T) (old : Seen) (later : Knowledge T) (new : Seen) : Type 0 where
    pub from : new.from ≡ old.from
    pub group : new.group ≡ old.group
    pub window : new.window ≡ old.window
    pub goes : Goes (IsReply old.from) seen (told_of old) later (told_of new)
    pub written : Writes old.octets new.octets
    pub begun : IsBegun now old.kept.passed old.begun new.kept.passed new.begun

  -- what became of the connection under a key: none appears, one that is gone has ended, and one that is there has gone on
  abbrev pub OwnServed : ℕ → Knowledge T → Option Seen → Knowledge T → Option Seen → Type 0
  OwnServed now seen None later None = ⊤
  OwnServed now seen None later (Some new) = ⊥
  OwnServed now seen (Some old) later None = HasEnded seen old later
  OwnServed now seen (Some old) later (Some new) = HasGone now seen old later new

-- there is no connection under a key, its stream would block, or it is held up by a request that is answered later
abbrev pub HasStopped : {S M : Type 0} → (S → Type 0) → (SocketAddr → List ℕ → Type 0) → Option (Connection S M) → Type 0
HasStopped would_block is_later connection = IfSome connection (λ l. would_block l.stream ⊎ IsHeldUp (is_later l.from) l.state)

-- what contracts see of a connection, by how its stream reports its octets
abbrev pub seen_of : {S M : Type 0} → (S → Option (List ℕ × List ℕ)) → Connection S M → Seen
seen_of octets connection = record { from = connection.from; group = connection.group; octets = octets connection.stream; kept = connection.state; begun = connection.begun; window = connection.window }

-- the count of ends if the connection under a key, if there is one, ends when it is over at a time, by what it waits for or because its
-- peer takes too slowly
abbrev pub ends_at : {S M : Type 0} → Limits → ℕ → Option (Connection S M) → Ends → Ends
ends_at limits now None ends = ends
ends_at limits now (Some connection) ends = if is_over limits now connection.begun connection.state then one_late (awaited connection.state) ends else if is_slow limits.rate now connection.window connection.state then one_slow ends else ends
