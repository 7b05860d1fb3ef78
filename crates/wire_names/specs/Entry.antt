-- What is kept of a name that a pointer can name.
use Rattle.std.specs.Prelude.{ℕ, List, [], length, nat_lt, if◌then◌else◌}

-- a position where a name begins, the key of the name's first label, the parent after that label, and the name's octets where they are many
pub record Entry : Type 0 where
  pub key : ℕ
  pub position : ℕ
  pub parent : ℕ
  pub octets : List ℕ

-- the octets of a name where they are more than 32; else none (own)
abbrev pub long_octets : List ℕ → List ℕ
long_octets octets = if nat_lt 32 (length octets) then octets else []
