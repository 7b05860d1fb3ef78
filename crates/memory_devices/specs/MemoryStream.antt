-- A stream held in memory, whose octets contracts can name (own).
use Rattle.std.specs.Prelude.{ℕ, ◌-◌, ◌^◌, ◌++◌, List, [], length, take, drop, min}

-- the octets that are left to be read, and those that were written; the maximum number of octets that one read gives or one write takes; how
-- many more octets can be written; how many more reads and writes succeed
pub record StreamState : Type 0 where
  pub left : List ℕ
  pub written : List ℕ
  pub step : ℕ
  pub room : ℕ
  pub calls : ℕ

-- the octets that contracts name: those that are left to be read, and those that were written
abbrev pub stream_octets : StreamState → List ℕ × List ℕ
stream_octets stream = (stream.left, stream.written)

-- a stream of which nothing is read or written yet; `room` octets can be written
abbrev pub stream_of : List ℕ → ℕ → ℕ → StreamState
stream_of octets room step = record { left = octets; written = []; step = step; room = room; calls = 2 ^ 64 - 1 }

-- the number of octets that a read gives into a buffer of `count` octets: as many of those left as fit, at most `step`
abbrev pub given : StreamState → ℕ → ℕ
given stream count = min stream.step (min count (length stream.left))

-- the number of octets that a write of `count` octets takes: as many as there is room for, at most `step`
abbrev pub taken : StreamState → ℕ → ℕ
taken stream count = min stream.step (min count stream.room)

-- after a read that gives `count` octets
abbrev pub after_read : StreamState → ℕ → StreamState
after_read stream count = record { left = drop count stream.left; written = stream.written; step = stream.step; room = stream.room; calls = stream.calls - 1 }

-- after a write that takes `count` of these octets
abbrev pub after_write : StreamState → List ℕ → ℕ → StreamState
after_write stream octets count = record { left = stream.left; written = stream.written ++ take count octets; step = stream.step; room = stream.room - count; calls = stream.calls - 1 }
