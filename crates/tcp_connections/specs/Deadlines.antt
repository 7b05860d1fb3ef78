-- When a connection is over (RFC 7766, 6.2.3; own). Times are nanoseconds of one clock.
use Rattle.std.specs.Prelude.{◌≡◌, ℕ, ◌-◌, ◌<◌, ◌≤◌, ◌⊎◌, Bool, false, nat_le, ◌==◌, Option, None, Some, if◌then◌else◌}
use Rattle.tcp_connections.specs.Kept.{Kept, awaited}
use Rattle.tcp_connections.specs.declared.waiting.Waiting.{Waiting}
use Rattle.tcp_connections.specs.declared.waiting.Waiting.TheVariants.{Request, Rest, Answer, Taking}
use Rattle.tcp_connections.specs.Rate.{is_slow, window_at}
use Rattle.tcp_connections.specs.declared.limits.Limits.{Limits}
use Rattle.tcp_connections.specs.declared.connection.Connection.{Connection}

-- how long a peer may take: for its next request, for the rest of a request that is begun, for taking what is written to it; there is no
-- limit while the peer itself waits, for the reply to a whole request
abbrev pub patience : Limits → Waiting → Option ℕ
patience limits Request = Some limits.idle
patience limits Rest = Some limits.message
patience limits Answer = None
patience limits Taking = Some limits.reply

-- whether a peer has taken as long as it may, if there is a limit
abbrev pub is_late : Option ℕ → ℕ → Bool
is_late None taken = false
is_late (Some most) taken = nat_le most taken

-- whether a connection is over at a time, whose peer finished something last at another: what it waits for since then has taken as long as
-- it may
abbrev pub is_over : Limits → ℕ → ℕ → Kept → Bool
is_over limits now begun kept = is_late (patience limits (awaited kept)) (now - begun)

-- since when what a connection waits for is waited for, after a share of its work at a time: since then if its peer has finished something,
-- be that a request or the taking of a reply, and otherwise as before; octets alone change nothing
abbrev pub begun_behind : ℕ → ℕ → ℕ → ℕ → ℕ
begun_behind passed more begun now = if more == passed then begun else now

-- the same over several shares at one time
abbrev pub IsBegun : ℕ → ℕ → ℕ → ℕ → ℕ → Type 0
IsBegun now passed begun more later = (later ≡ now) ⊎ ((more ≡ passed) × (later ≡ begun))

module _ {S M : Type 0} where
  -- a connection goes on at a time: its window begins anew if nothing waits to be taken, or its ten seconds are over
  abbrev pub gone_on : ℕ → Connection S M → Connection S M
  gone_on now connection = record connection { window = window_at now connection.window connection.state }

  -- what a sweep leaves under a key
  abbrev pub kept_at : Limits → ℕ → Option (Connection S M) → Option (Connection S M)
  kept_at limits now None = None
  kept_at limits now (Some connection) =
      if is_over limits now connection.begun connection.state then None
      else if is_slow limits.rate now connection.window connection.state then None
      else Some (gone_on now connection)

-- of numbers that some keys have, that of a key is least; or none has one
abbrev pub IsLeast : (ℕ → Option ℕ) → Option ℕ → Type 0
IsLeast numbers None = (key : ℕ) → numbers key ≡ None
IsLeast numbers (Some key) = (least : ℕ) × (numbers key ≡ Some least) × ((other number : ℕ) → numbers other ≡ Some number → least ≤ number)

-- the same of the keys below an end, with the number
abbrev pub IsLeastBelow : (ℕ → Option ℕ) → ℕ → Option (ℕ × ℕ) → Type 0
IsLeastBelow numbers end None = (key : ℕ) → key < end → numbers key ≡ None
IsLeastBelow numbers end (Some least) = (numbers least.0 ≡ Some least.1) × ((other number : ℕ) → other < end → numbers other ≡ Some number → least.1 ≤ number)
