-- The numbers that stand before a tree's keys (own).
use Rattle.std.specs.Prelude.{ℕ, Option, None, Some}

-- the number before a key, where it is said what keys begin with, and 0 else (own)
abbrev pub front_at : {K : Type 0} → (K → K → ℕ) → Option K → K → ℕ
front_at front None key = 0
front_at front (Some base) key = front base key
