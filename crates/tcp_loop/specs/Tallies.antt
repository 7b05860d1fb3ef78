-- What a worker thread counts of one connection, and how long it waits (own).
use Rattle.std.specs.Prelude.{◌≡◌, ℕ, ◌⊎◌, true, false, Bool, List, [], Any, replicate}
use Rattle.tcp_connections.specs.Ends.{one_up}
use Rattle.tcp_loop.specs.declared.run_queue.RunQueue.{RunQueue}
use Rattle.tcp_loop.specs.declared.tally.Tally.{Tally}

-- one more connection has begun
abbrev pub begun_once : Tally → Tally
begun_once tally = record tally { begun = one_up tally.begun }

-- one more has given up its place to another
abbrev pub evicted_once : Tally → Tally
evicted_once tally = record tally { evicted = one_up tally.evicted }

-- one more got none, since no other could give up its own
abbrev pub turned_away_once : Tally → Tally
turned_away_once tally = record tally { turned_away = one_up tally.turned_away }

-- one more got none, since there was no descriptor or no memory
abbrev pub no_room_once : Tally → Tally
no_room_once tally = record tally { no_room = one_up tally.no_room }

-- no key waits for its turn
abbrev pub NoneWaits : RunQueue → Type 0
NoneWaits queue = (queue.ready.items ≡ []) × (queue.others.items ≡ []) × (queue.after.items ≡ [])

-- no key waits for its turn, and each of so many may
abbrev pub IsNew : ℕ → RunQueue → Type 0
IsNew most queue = NoneWaits queue × (queue.is_in.items ≡ replicate most false)

-- something can be done at once: a key waits for its turn; or connections may be waiting at a listener, and none is kept from being accepted
abbrev pub IsDue : RunQueue → List Bool → ℕ → Type 0
IsDue queue may_come shut_until = (NoneWaits queue → ⊥) ⊎ ((shut_until ≡ 0) × Any (λ may. may ≡ true) may_come)
