-- How fast a peer takes what is written to it (own). Times are nanoseconds of one clock.
use Rattle.std.specs.Prelude.{ℕ, ◌-◌, Bool, true, false, ◌&&◌, nat_le, nat_lt, if◌then◌else◌}
use Rattle.tcp_connections.specs.Kept.{Kept, awaited}
use Rattle.tcp_connections.specs.declared.waiting.Waiting.{Waiting}
use Rattle.tcp_connections.specs.declared.waiting.Waiting.TheVariants.{Request, Rest, Answer, Taking}
use Rattle.tcp_connections.specs.declared.window.Window.{Window}

-- ten seconds
abbrev pub span : ℕ
span = 10000000000

-- whether something waits to be taken
abbrev pub is_taking : Waiting → Bool
is_taking Request = false
is_taking Rest = false
is_taking Answer = false
is_taking Taking = true

-- whether something waits to be taken, and the ten seconds of a window are over in which fewer octets than a rate were taken
abbrev pub slow_by : ℕ → ℕ → Window → Waiting → ℕ → Bool
slow_by rate now window awaited taken = is_taking awaited && (nat_le span (now - window.since) && nat_lt (taken - window.taken) rate)

-- the window at a time: the same while something waits to be taken and its ten seconds aren't over; otherwise one that begins then
abbrev pub window_by : ℕ → Window → Waiting → ℕ → Window
window_by now window awaited taken = if is_taking awaited && nat_lt (now - window.since) span then window else record { since = now; taken = taken }

-- the same by what a connection keeps
abbrev pub is_slow : ℕ → ℕ → Window → Kept → Bool
is_slow rate now window kept = slow_by rate now window (awaited kept) kept.taken

abbrev pub window_at : ℕ → Window → Kept → Window
window_at now window kept = window_by now window (awaited kept) kept.taken
