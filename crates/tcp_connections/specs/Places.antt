-- Which connection gives up its place to a newcomer when all are taken (RFC 7766, 6.2.3; own).
use Rattle.std.specs.Prelude.{◌≡◌, ℕ, ◌/◌, ◌<◌, ◌≤◌, Bool, true, false, nat_lt, max, Option, None, Some, if◌then◌else◌, count_by}
use Rattle.tcp_connections.specs.Kept.{awaited}
use Rattle.tcp_connections.specs.declared.waiting.Waiting.{Waiting}
use Rattle.tcp_connections.specs.declared.waiting.Waiting.TheVariants.{Request, Rest, Answer, Taking}
use Rattle.tcp_connections.specs.Group.{is_same, has_group}
use Rattle.tcp_connections.specs.declared.group.PeerGroup.{PeerGroup}
use Rattle.slab.specs.Slab.{Slab, get, slab_len}
use Rattle.tcp_connections.specs.Deadlines.{IsLeast}
use Rattle.tcp_connections.specs.declared.connection.Connection.{Connection}
use Rattle.tcp_connections.specs.declared.room.Among.{Among}
use Rattle.tcp_connections.specs.declared.room.Among.TheVariants.{All, These}

-- since when a connection waits for a whole request, whether nothing of it has come or a part
abbrev pub waits_by : Waiting → ℕ → Option ℕ
waits_by Request begun = Some begun
waits_by Rest begun = Some begun
waits_by Answer begun = None
waits_by Taking begun = None

-- whether a group is among those whose peers' connections are considered
abbrev pub among_has : Among → PeerGroup → Bool
among_has All group = true
among_has (These groups) group = has_group groups group

module _ {S M : Type 0} where
  -- since when the connection under a key, if there is one of a peer of some groups, waits for a whole request
  abbrev pub waits_in : (PeerGroup → Bool) → Option (Connection S M) → Option ℕ
  waits_in among None = None
  waits_in among (Some connection) = if among connection.group then waits_by (awaited connection.state) connection.begun else None

  -- of the connections of peers of some groups, that under a key waits longest for a whole request; or none waits for one
  abbrev pub IsLongest : (PeerGroup → Bool) → Slab (Connection S M) → Option ℕ → Type 0
  IsLongest among connections found = IsLeast (λ key. waits_in among (get connections key)) found

  -- whether there is a connection, and its peer is of a group
  abbrev pub is_of : PeerGroup → Option (Connection S M) → Bool
  is_of group None = false
  is_of group (Some connection) = is_same connection.group group

  -- how many connections the peers of a group have
  abbrev pub held : PeerGroup → Slab (Connection S M) → ℕ
  held group connections = count_by (is_of group) connections.slots

  -- a quarter of the places that are taken, at least one
  abbrev pub quarter : Slab (Connection S M) → ℕ
  quarter connections = max (slab_len connections / 4) 1

  -- whether a group's peers have more than a quarter of them
  abbrev pub is_crowd : Slab (Connection S M) → PeerGroup → Bool
  is_crowd connections group = nat_lt (quarter connections) (held group connections)

  -- a group, if there is one, and its peers have more than a quarter
  abbrev pub crowd_of : Slab (Connection S M) → Option PeerGroup → Option PeerGroup
  crowd_of connections None = None
  crowd_of connections (Some group) = if is_crowd connections group then Some group else None

  -- the connection that gives up its place to a newcomer of a group, if one does. If that group's peers have a quarter of the places
  -- already, it is one of theirs; otherwise one of a group that has more than a quarter; and if none of these waits for a request, any. Of
  -- those it is the one that waits longest
  pub data IsGiver (newcomer : PeerGroup) (connections : Slab (Connection S M)) (found : Option ℕ) : Type 0 where
    own : quarter connections ≤ held newcomer connections → IsLongest (is_same newcomer) connections found → IsGiver newcomer connections found
    crowd : (key : ℕ) → held newcomer connections < quarter connections → found ≡ Some key → IsLongest (is_crowd connections) connections found → IsGiver newcomer connections found
    any : held newcomer connections < quarter connections → IsLongest (is_crowd connections) connections None → IsLongest (λ _. true) connections found → IsGiver newcomer connections found
