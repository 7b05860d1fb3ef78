-- How many octets the names of a message have, and where they end (RFC 1035, 2.3.4 and 4.1.4).
use Rattle.std.specs.Prelude.{◌≡◌, ℕ, ◌+◌, ◌<◌, ◌==◌, List, length, nat_lt, nat_le, slice_index, if◌then◌else◌, Option, Some, None, Result, Ok, Err}
use Rattle.dns_name.specs.Name.{Name, wire_of}
use Rattle.wire_names.specs.NameAt.{name_at}
use Rattle.wire_names.specs.declared.part.NameReadFault.{NameReadFault}
use Rattle.wire_names.specs.declared.pass.Run.{Run}

-- how many octets a name that was read has, once written in full; 0 where it has a fault
abbrev pub size_of : Result (Name × ℕ) NameReadFault → ℕ
size_of (Ok r) = length (wire_of r.0)
size_of (Err fault) = 0

-- the position after a name that was read; none where it has a fault
abbrev pub behind_of : Result (Name × ℕ) NameReadFault → Option ℕ
behind_of (Ok r) = Some r.1
behind_of (Err fault) = None

-- for each of a message's first places, so many of them, how many octets the name there has
abbrev pub AreSizes : List ℕ → List ℕ → ℕ → Type 0
AreSizes msg sizes count = (at : ℕ) → at < count → slice_index sizes at ≡ size_of (name_at msg at)

-- the octets of labels, and of a name after them that has so many octets, 0 of none; 0 where these are more than 255
abbrev pub joined : ℕ → ℕ → ℕ
joined used size = if size == 0 then 0 else if nat_le (used + size) 255 then used + size else 0

-- how many octets the name has that begins with a run of labels: they end at a zero octet, or at a pointer to a place below
-- their run's start
abbrev pub size_by : List ℕ → ℕ → ℕ → Option ℕ → ℕ
size_by msg at used None = used + 1
size_by msg at used (Some target) = if nat_lt target at then joined used (size_of (name_at msg target)) else 0

-- the position after a name that begins with a run of labels: after its zero octet, or after its pointer
abbrev pub behind_by : ℕ → Option ℕ → ℕ
behind_by place None = place + 1
behind_by place (Some target) = place + 2

-- a run of labels begins at a place of the message: it tells how many octets the name there has, and where reading goes on
pub record IsRun (msg : List ℕ) (at : ℕ) (run : Run) : Type 0 where
  pub few : run.used < 255
  pub within : run.place < length msg
  pub size : size_of (name_at msg at) ≡ size_by msg at run.used run.target
  pub behind : (r : Name × ℕ) → name_at msg at ≡ Ok r → r.1 ≡ behind_by run.place run.target
