-- The timeouts that the options allow for a connection (own).
use Rattle.std.specs.Prelude.{ℕ, ◌≤◌}

-- a time in nanoseconds, from a second to an hour
abbrev pub IsPatience : ℕ → Type 0
IsPatience nanos = (1_000_000_000 ≤ nanos) × (nanos ≤ 3_600_000_000_000)
