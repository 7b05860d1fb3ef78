-- Serial number arithmetic (RFC 1982).
use Rattle.std.specs.Prelude.{ℕ, ◌+◌, ◌-◌, ◌%◌, ◌^◌, Bool, ◌&&◌, ◌||◌, nat_lt}

-- whether a serial of so many bits is less than another: by less than half the ring below it, or more than that above it
-- (RFC 1982, 3.2)
abbrev pub less_by : ℕ → ℕ → ℕ → Bool
less_by bits a b =
    (nat_lt a b && nat_lt (b - a) (2 ^ (bits - 1))) || (nat_lt b a && nat_lt (2 ^ (bits - 1)) (a - b))

-- a serial of so many bits and a number added to it (RFC 1982, 3.1)
abbrev pub sum_by : ℕ → ℕ → ℕ → ℕ
sum_by bits a n = (a + n) % 2 ^ bits

-- whether a zone's serial, which has 32 bits, is less than another (RFC 1982, 3.2 and 7)
abbrev pub serial_less : ℕ → ℕ → Bool
serial_less a b = less_by 32 a b

-- the serial after a zone's serial (RFC 1982, 3.1 and 7)
abbrev pub serial_next : ℕ → ℕ
serial_next a = sum_by 32 a 1

-- how far it is up the ring from a zone's serial to another: what is added to the one to come to the other (RFC 1982, 3.1)
abbrev pub serial_distance : ℕ → ℕ → ℕ
serial_distance a b = (b + 2 ^ 32 - a) % 2 ^ 32
