-- The limits of data and of sets of records (own).
use Rattle.std.specs.Prelude.{ℕ}

-- the most octets that the data of a record have
abbrev pub max_data : ℕ
max_data = 4096

-- the most records that a set has
abbrev pub max_set : ℕ
max_set = 256
