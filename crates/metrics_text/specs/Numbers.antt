-- Numbers of samples as text (Prometheus' exposition format, 0.0.4: a number is written as Go's ParseFloat reads it).
use Rattle.std.specs.Prelude.{ℕ, ◌+◌, ◌/◌, ◌%◌, List, ◌∷◌, ◌++◌, drop, decimal}
use Rattle.metrics_text.specs.declared.number.Number.{Number}
use Rattle.metrics_text.specs.declared.number.Number.TheVariants.{Whole, Nanoseconds}

-- the nine decimals of a part of a second in nanoseconds: the digits after the first of 1,000,000,000 more
abbrev pub decimals_of : ℕ → List ℕ
decimals_of part = drop 1 (decimal (1000000000 + part))

-- nanoseconds in seconds, with nine decimals
abbrev pub seconds_text : ℕ → List ℕ
seconds_text nanoseconds = decimal (nanoseconds / 1000000000) ++ (46 ∷ decimals_of (nanoseconds % 1000000000))

-- a sample's number: a whole one in decimal digits, a time in seconds
abbrev pub number_text : Number → List ℕ
number_text (Whole n) = decimal n
number_text (Nanoseconds n) = seconds_text n
