-- What is known of all secondaries, and how the clock goes (own). Times are in milliseconds.
use Rattle.std.specs.Prelude.{ℕ, false, ◌+◌, ◌-◌, ◌^◌, min, List, None}
use Rattle.std.specs.declared.net.socket_addr.SocketAddr.{SocketAddr}
use Rattle.notify.specs.declared.secondary.Secondary.{Secondary}

-- the secondaries, in their order; how much time has passed, by the clock's steps forward; and what the clock showed last
pub record Notified : Type 0 where
  pub secondaries : List Secondary
  pub time : ℕ
  pub clock : ℕ

-- a secondary that was told nothing yet
abbrev pub untold : SocketAddr → Secondary
untold address = record { address = address; telling = None; unanswered = 0; silent = false }

-- the clock shows this: so much time has passed as it went forward; where it went back, none. At most 2^64 - 1 is come to
abbrev pub shown : ℕ → Notified → Notified
shown now n = record n { time = min (n.time + (now - n.clock)) (2 ^ 64 - 1); clock = now }
