-- Places that are taken and given back, and connections that are served, one after another.
use Rattle.std.proofs.Common.{◌≡◌, ◌≢◌, ℕ, Bool, true, false, if◌then◌else◌, List, Option, None, Some, Result, Ok, Err, IfOk, OnErr, option_map, sym, ap, ◌∙◌, inl, inr, ◌⊎◌, subst}
use Rattle.std.specs.List.{Contains}
use Rattle.std.proofs.lemmas.List.Elements.{All-weaker}
use Rattle.std.specs.declared.net.socket_addr.SocketAddr.{SocketAddr}
use Rattle.tcp_connections.specs.Served.{Knowledge}
use Rattle.tcp_connections.specs.Requests.{EachGrows}
use Rattle.tcp_connections.specs.Kept.{nothing_kept}
use Rattle.slab.specs.Slab.{Slab, get, Updates}
use Rattle.std.specs.Net.Socket.{socket_ip}
use Rattle.tcp_connections.specs.Group.{IsGroupOf}
use Rattle.tcp_connections.specs.declared.group.PeerGroup.{PeerGroup}
use Rattle.tcp_connections.specs.Deadlines.{gone_on, kept_at, is_over}
use Rattle.tcp_connections.specs.Rate.{is_slow}
use Rattle.tcp_connections.specs.Places.{IsGiver}
use Rattle.tcp_connections.specs.Connections.{HasStopped, seen_of}
use Rattle.tcp_connections.specs.declared.limits.Limits.{Limits}
use Rattle.tcp_connections.specs.declared.connection.Connection.{Connection}
use Rattle.tcp_connections.proofs.OwnLemmas.{own_same}
use Rattle.tcp_connections.proofs.RequestLemmas.{each_itself}
use Rattle.tcp_loop.specs.Steps.{scarce, HasBegun, Move, begins, gives, rests, Moves, stay, move, IsSwept, Sweeps, Serves, GoOn, HasTurned}

module _ {S M : Type 0} (origin : S → SocketAddr) (octets : S → Option (List ℕ × List ℕ)) (now : ℕ) where
  pub moves_more : (a b c : Slab (Connection S M)) → Moves origin octets now a b → Moves origin octets now b c → Moves origin octets now a c
  moves_more a b c first stay = first
  moves_more a b c first (move {between = mid} second one) = move (moves_more a b mid first second) one

  pub moves_once : (a b : Slab (Connection S M)) → Move origin octets now a b → Moves origin octets now a b
  moves_once a b one = move stay one

  -- nothing is moved
  pub moves_same : (old new : Slab (Connection S M)) → new ≡ old → Moves origin octets now old new
  moves_same old new same = moves_once old new (rests (λ key. ap (λ (s : Slab (Connection S M)). get s key) same))

  -- behind moves nothing is moved
  pub moves_as : (old new same : Slab (Connection S M)) → new ≡ same → Moves origin octets now old same → Moves origin octets now old new
  moves_as old new same is moved = subst (λ (s : Slab (Connection S M)). Moves origin octets now old s) (sym is) moved

  -- there is room for more
  pub moves_wider : (old new : Slab (Connection S M)) (capacity : ℕ) → new ≡ record old { capacity = capacity } → Moves origin octets now old new
  moves_wider old new capacity same = moves_once old new (rests (λ key. ap (λ (s : Slab (Connection S M)). get s key) same))

  -- the one that gives its place goes
  pub moves_made : (stream : S) (newcomer : PeerGroup) (old new : Slab (Connection S M)) (key : ℕ) → IsGroupOf (socket_ip (origin stream)) newcomer → IsGiver newcomer old (Some key) → get new key ≡ None → ((other : ℕ) → other ≢ key → get new other ≡ get old other) → Moves origin octets now old new
  moves_made stream newcomer old new key of gave none others = moves_once old new (gives stream newcomer key of gave none others)

  -- one begins
  pub moves_begun : (from : SocketAddr) (stream : S) (old new : Slab (Connection S M)) (key : ℕ) (connection : Connection S M) → get old key ≡ None → get new key ≡ Some connection → ((other : ℕ) → other ≢ key → get new other ≡ get old other)
      → connection.stream ≡ stream → connection.from ≡ from → from ≡ origin stream → connection.state ≡ nothing_kept → connection.begun ≡ now → IsGroupOf (socket_ip from) connection.group → connection.window ≡ record { since = now; taken = 0 } → Moves origin octets now old new
  moves_begun from stream old new key connection vacant put others is come reported kept begun group window =
      let here : from ≡ origin connection.stream = reported ∙ ap origin (sym is) in
      let began : HasBegun origin octets now connection = record {
        from = come ∙ here;
        kept = kept;
        begun = begun;
        group = subst (λ (a : SocketAddr). IsGroupOf (socket_ip a) connection.group) here group;
        window = window;
      } in
      moves_once old new (begins key connection vacant put began others)

  -- one is put under the next key, or there is no memory for it
  pub moves_put : {E : Type 0} (result : Result ℕ E) (from : SocketAddr) (stream : S) (old new : Slab (Connection S M)) (connection : Connection S M) → IfOk result (λ key. get old key ≡ None) → IfOk result (λ key. Updates old new key (Some connection)) → OnErr result (new ≡ record old { capacity = new.capacity })
      → connection.stream ≡ stream → connection.from ≡ from → from ≡ origin stream → connection.state ≡ nothing_kept → connection.begun ≡ now → IsGroupOf (socket_ip from) connection.group → connection.window ≡ record { since = now; taken = 0 } → Moves origin octets now old new
  moves_put (Ok key) from stream old new connection vacant updates failed is come reported kept begun group window = moves_begun from stream old new key connection vacant updates.changed updates.others is come reported kept begun group window
  moves_put (Err fault) from stream old new connection vacant updates failed is come reported kept begun group window = moves_wider old new new.capacity failed

  -- those that are over go, by limits that are the given ones or those where places are scarce
  pub swept_over : (limits used : Limits) (old new : Slab (Connection S M)) → (used ≡ limits) ⊎ (used ≡ scarce limits) → ((key : ℕ) → get new key ≡ kept_at used now (get old key)) → IsSwept limits now old new
  swept_over limits used old new (inl same) swept = inl (subst (λ (l : Limits). (key : ℕ) → get new key ≡ kept_at l now (get old key)) same swept)
  swept_over limits used old new (inr same) swept = inr (subst (λ (l : Limits). (key : ℕ) → get new key ≡ kept_at l now (get old key)) same swept)

  pub sweeps_over : (limits used : Limits) (old new : Slab (Connection S M)) → (used ≡ limits) ⊎ (used ≡ scarce limits) → ((key : ℕ) → get new key ≡ kept_at used now (get old key)) → Sweeps origin octets limits now old new
  sweeps_over limits used old new either swept = inr (swept_over limits used old new either swept)

  module _ (would_block : S → Type 0) (is_later : SocketAddr → List ℕ → Type 0) where
    kept_if : (connection : Connection S M) (over slow : Bool) → HasStopped would_block is_later (Some connection) → HasStopped would_block is_later (if over then None else if slow then None else Some (gone_on now connection))
    kept_if connection true slow stopped = tt
    kept_if connection false true stopped = tt
    kept_if connection false false stopped = stopped

    -- what has stopped still has once those that are over are gone
    stopped_kept : (limits : Limits) (connection : Option (Connection S M)) → HasStopped would_block is_later connection → HasStopped would_block is_later (kept_at limits now connection)
    stopped_kept limits None stopped = tt
    stopped_kept limits (Some connection) stopped = kept_if connection (is_over limits now connection.begun connection.state) (is_slow limits.rate now connection.window connection.state) stopped

    stopped_by : (limits : Limits) (old new : Slab (Connection S M)) → ((key : ℕ) → get new key ≡ kept_at limits now (get old key)) → (key : ℕ) → HasStopped would_block is_later (get old key) → HasStopped would_block is_later (get new key)
    stopped_by limits old new swept key stopped = subst (HasStopped would_block is_later) (sym (swept key)) (stopped_kept limits (get old key) stopped)

    stopped_swept : (limits : Limits) (old new : Slab (Connection S M)) → Sweeps origin octets limits now old new → (key : ℕ) → HasStopped would_block is_later (get old key) → HasStopped would_block is_later (get new key)
    stopped_swept limits old new (inl same) key stopped = subst (λ (s : Slab (Connection S M)). HasStopped would_block is_later (get s key)) (sym same) stopped
    stopped_swept limits old new (inr (inl swept)) key stopped = stopped_by limits old new swept key stopped
    stopped_swept limits old new (inr (inr swept)) key stopped = stopped_by (scarce limits) old new swept key stopped

    going_for : (limits : Limits) (old new : Slab (Connection S M)) (next : List ℕ) → Sweeps origin octets limits now old new → (key : ℕ) → Contains next key ⊎ HasStopped would_block is_later (get old key) → Contains next key ⊎ HasStopped would_block is_later (get new key)
    going_for limits old new next swept key (inl has) = inl has
    going_for limits old new next swept key (inr stopped) = inr (stopped_swept limits old new swept key stopped)

    -- each that could go on still is among the next ones
    pub going_swept : (limits : Limits) (old new : Slab (Connection S M)) (keys served next after : List ℕ) → served ≡ keys → after ≡ next → Sweeps origin octets limits now old new → GoOn would_block is_later old keys next → GoOn would_block is_later new served after
    going_swept limits old new keys served next after same is swept going =
        let here : GoOn would_block is_later new keys next = All-weaker (λ key. Contains next key ⊎ HasStopped would_block is_later (get old key)) (λ key. Contains next key ⊎ HasStopped would_block is_later (get new key)) (going_for limits old new next swept) keys going in
        subst (λ (l : List ℕ). GoOn would_block is_later new l after) (sym same) (subst (λ (l : List ℕ). GoOn would_block is_later new keys l) (sym is) here)

  module _ {T : Type 0} (IsReply : SocketAddr → Knowledge T → Knowledge T → List ℕ → List (List ℕ) → Type 0) where
    -- none is served, and maybe more is known
    pub serves_none : (seen later : ℕ → Knowledge T) (connections : Slab (Connection S M)) → EachGrows later seen → Serves origin octets IsReply now seen connections later connections
    serves_none seen later connections grows = λ key. own_same IsReply now (seen key) (later key) (option_map (seen_of octets) (get connections key)) (grows key)

    pub serves_as : (seen later : ℕ → Knowledge T) (old new same : Slab (Connection S M)) → new ≡ same → Serves origin octets IsReply now seen old later same → Serves origin octets IsReply now seen old later new
    serves_as seen later old new same is own = subst (λ (s : Slab (Connection S M)). Serves origin octets IsReply now seen old later s) (sym is) own

    -- nothing is done in a turn
    pub turned_none : (limits : Limits) (seen : ℕ → Knowledge T) (old new : Slab (Connection S M)) → new ≡ old → HasTurned origin octets IsReply limits now seen old seen new
    turned_none limits seen old new same = record { come = old; served = old; first = stay; own = serves_none seen seen old (each_itself seen); last = inl same }

    -- a turn, at the time that was told
    pub turned_whole : (limits : Limits) (reported : ℕ) (seen later : ℕ → Knowledge T) (old start come served new : Slab (Connection S M)) → now ≡ reported → start ≡ old → Moves origin octets now start come → Serves origin octets IsReply now seen come later served
        → Sweeps origin octets limits now served new → HasTurned origin octets IsReply limits reported seen old later new
    turned_whole limits reported seen later old start come served new same still first own last =
        let moved : Moves origin octets now old come = subst (λ (s : Slab (Connection S M)). Moves origin octets now s come) still first in
        let made : HasTurned origin octets IsReply limits now seen old later new = record { come = come; served = served; first = moved; own = own; last = last } in
        subst (λ (n : ℕ). HasTurned origin octets IsReply limits n seen old later new) same made
