-- The limit of a zone's records (own).
use Rattle.std.specs.Prelude.{ℕ}

-- the most records that a zone has
abbrev pub max_records : ℕ
max_records = 1000000
