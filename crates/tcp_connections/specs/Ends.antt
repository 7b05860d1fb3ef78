-- Counts of how connections have ended (own).
use Rattle.std.specs.Prelude.{◌≡◌, ◌≢◌, ℕ, ◌+◌, ◌-◌, ◌^◌, min}
use Rattle.requests.specs.declared.stream_end.StreamEnd.{StreamEnd}
use Rattle.requests.specs.declared.stream_end.StreamEnd.TheVariants.{Clean, Torn, Device, Spent, NoMemory}
use Rattle.tcp_connections.specs.declared.waiting.Waiting.{Waiting}
use Rattle.tcp_connections.specs.declared.waiting.Waiting.TheVariants.{Request, Rest, Answer, Taking}
use Rattle.tcp_connections.specs.declared.ends.Ends.{Ends}

-- a count with one more, up to 2^64 - 1
abbrev pub one_up : ℕ → ℕ
one_up count = min (count + 1) (2 ^ 64 - 1)

-- one more has ended so
abbrev pub one_more : StreamEnd → Ends → Ends
one_more Clean ends = record ends { clean = one_up ends.clean }
one_more Torn ends = record ends { torn = one_up ends.torn }
one_more Device ends = record ends { device = one_up ends.device }
one_more Spent ends = record ends { spent = one_up ends.spent }
one_more NoMemory ends = record ends { no_memory = one_up ends.no_memory }

-- one more is over, by what it waited for; a connection that waits for the reply to a request never is
abbrev pub one_late : Waiting → Ends → Ends
one_late Request ends = record ends { idle = one_up ends.idle }
one_late Rest ends = record ends { message = one_up ends.message }
one_late Answer ends = ends
one_late Taking ends = record ends { reply = one_up ends.reply }

-- one more is over, because its peer took too slowly what was to be written
abbrev pub one_slow : Ends → Ends
one_slow ends = record ends { slow = one_up ends.slow }

-- how many are over in all, up to 2^64 - 1
abbrev pub late_of : Ends → ℕ
late_of ends = min (ends.idle + ends.message + ends.reply + ends.slow) (2 ^ 64 - 1)

-- how many have ended in all, up to 2^64 - 1
abbrev pub all_of : Ends → ℕ
all_of ends = min (ends.clean + ends.torn + ends.device + ends.spent + ends.no_memory + ends.idle + ends.message + ends.reply + ends.slow) (2 ^ 64 - 1)

-- so many more have ended, and each is counted, by how it did, by what it waited for too long, or as one whose peer took too slowly
pub data Counts (old : Ends) : ℕ → Ends → Type 0 where
  none : Counts old 0 old
  one : {number more : ℕ} {ends new : Ends} (end : StreamEnd) → Counts old number ends → more ≡ number + 1 → new ≡ one_more end ends → Counts old more new
  late : {number more : ℕ} {ends new : Ends} (awaited : Waiting) → awaited ≢ Answer → Counts old number ends → more ≡ number + 1 → new ≡ one_late awaited ends → Counts old more new
  slow : {number more : ℕ} {ends new : Ends} → Counts old number ends → more ≡ number + 1 → new ≡ one_slow ends → Counts old more new

-- as many are counted as there were connections more before
abbrev pub AreCounted : Ends → Ends → ℕ → ℕ → Type 0
AreCounted old new before left = (number : ℕ) × Counts old number new × (left + number ≡ before)
