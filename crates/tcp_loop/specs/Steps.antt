-- What becomes of a worker thread's connections, from one state to the next (RFC 7766, 6.2; own).
use Rattle.std.specs.Prelude.{◌≡◌, ◌≢◌, ℕ, ◌/◌, ◌⊎◌, List, All, Contains, Option, None, Some, option_map}
use Rattle.tcp_connections.specs.Served.{Knowledge}
use Rattle.std.specs.declared.net.socket_addr.SocketAddr.{SocketAddr}
use Rattle.tcp_connections.specs.Served.{Knowledge}
use Rattle.tcp_connections.specs.Kept.{nothing_kept}
use Rattle.std.specs.Net.Socket.{socket_ip}
use Rattle.tcp_connections.specs.Group.{IsGroupOf}
use Rattle.tcp_connections.specs.declared.group.PeerGroup.{PeerGroup}
use Rattle.slab.specs.Slab.{Slab, get}
use Rattle.tcp_connections.specs.Deadlines.{kept_at}
use Rattle.tcp_connections.specs.Places.{IsGiver}
use Rattle.tcp_connections.specs.Connections.{OwnServed, HasStopped, seen_of}
use Rattle.tcp_connections.specs.declared.limits.Limits.{Limits}
use Rattle.tcp_connections.specs.declared.connection.Connection.{Connection}
use Rattle.tcp_loop.specs.declared.tally.Tally.{Tally}

-- the limits when places are scarce: idle connections have a quarter of their time (RFC 7766, 6.2.3; own)
abbrev pub scarce : Limits → Limits
scarce limits = record limits { idle = limits.idle / 4 }

-- nothing has become of any connection
abbrev pub nothing_counted : Tally
nothing_counted = record {
  begun = 0;
  ends = record { clean = 0; torn = 0; device = 0; spent = 0; no_memory = 0; idle = 0; message = 0; reply = 0; slow = 0 };
  evicted = 0;
  turned_away = 0;
  no_room = 0;
}

-- of connections under some keys, each that could go on is among the next ones: for any other key there is no connection any more, its
-- stream would block, or its first request waits for its reply
abbrev pub GoOn : {S M : Type 0} → (S → Type 0) → (SocketAddr → List ℕ → Type 0) → Slab (Connection S M) → List ℕ → List ℕ → Type 0
GoOn would_block is_later connections keys next = All (λ key. Contains next key ⊎ HasStopped would_block is_later (get connections key)) keys

-- places are given back at a time: by connections that are over by the limits, or by the limits when places are scarce
abbrev pub IsSwept : {S M : Type 0} → Limits → ℕ → Slab (Connection S M) → Slab (Connection S M) → Type 0
IsSwept limits now old new = ((key : ℕ) → get new key ≡ kept_at limits now (get old key)) ⊎ ((key : ℕ) → get new key ≡ kept_at (scarce limits) now (get old key))

-- the address that a stream comes from, and what its octets are, as far as it reports them
module _ {S M : Type 0} (origin : S → SocketAddr) (octets : S → Option (List ℕ × List ℕ)) where
  -- a connection has begun at a time: its peer's address is the one that its stream comes from, and nothing is kept of it
  pub record HasBegun (now : ℕ) (connection : Connection S M) : Type 0 where
    pub from : connection.from ≡ origin connection.stream
    pub kept : connection.state ≡ nothing_kept
    pub begun : connection.begun ≡ now
    pub group : IsGroupOf (socket_ip (origin connection.stream)) connection.group
    pub window : connection.window ≡ record { since = now; taken = 0 }

  -- a place is taken, or given up to another: a connection begins under a key that had none; the connection that has to gives up its place
  -- for a newcomer whose stream comes from an address of the newcomer's group; or nothing changes
  pub data Move (now : ℕ) (old new : Slab (Connection S M)) : Type 0 where
    begins : (key : ℕ) (connection : Connection S M) → get old key ≡ None → get new key ≡ Some connection → HasBegun now connection → ((other : ℕ) → other ≢ key → get new other ≡ get old other) → Move now old new
    gives : (stream : S) (newcomer : PeerGroup) (key : ℕ) → IsGroupOf (socket_ip (origin stream)) newcomer → IsGiver newcomer old (Some key) → get new key ≡ None → ((other : ℕ) → other ≢ key → get new other ≡ get old other) → Move now old new
    rests : ((key : ℕ) → get new key ≡ get old key) → Move now old new

  -- so many such moves, one after another
  pub data Moves (now : ℕ) (old : Slab (Connection S M)) : Slab (Connection S M) → Type 0 where
    stay : Moves now old old
    move : {between new : Slab (Connection S M)} → Moves now old between → Move now between new → Moves now old new

  -- places are given back at a time, or nothing changes
  abbrev pub Sweeps : Limits → ℕ → Slab (Connection S M) → Slab (Connection S M) → Type 0
  Sweeps limits now old new = (new ≡ old) ⊎ IsSwept limits now old new

  -- what a reply is, by the address of the peer, the list of what is known to be published before it and that of what is known when it is made, the
  -- request, and the reply's messages
  module _ {T : Type 0} (IsReply : SocketAddr → Knowledge T → Knowledge T → List ℕ → List (List ℕ) → Type 0) where
    -- connections are served at a time, each as its own peer's address has it and on its own stream
    abbrev pub Serves : ℕ → (ℕ → Knowledge T) → Slab (Connection S M) → (ℕ → Knowledge T) → Slab (Connection S M) → Type 0
    Serves now seen old later new = (key : ℕ) → OwnServed IsReply now (seen key) (option_map (seen_of octets) (get old key)) (later key) (option_map (seen_of octets) (get new key))

    -- a turn at a time, by what is known on each connection to be published before it and after it: places are taken; connections are
    -- served; and places are given back
    pub record HasTurned (limits : Limits) (now : ℕ) (seen : ℕ → Knowledge T) (old : Slab (Connection S M)) (later : ℕ → Knowledge T) (new : Slab (Connection S M)) : Type 0 where
      pub come : Slab (Connection S M)
      pub served : Slab (Connection S M)
      pub first : Moves now old come
      pub own : Serves now seen come later served
      pub last : Sweeps limits now served new

    -- turns, one after another
    pub data Turned (limits : Limits) (seen : ℕ → Knowledge T) (old : Slab (Connection S M)) : (ℕ → Knowledge T) → Slab (Connection S M) → Type 0 where
      unturned : Turned limits seen old seen old
      turned : {mid later : ℕ → Knowledge T} {between new : Slab (Connection S M)} (now : ℕ) → Turned limits seen old mid between → HasTurned limits now mid between later new → Turned limits seen old later new
