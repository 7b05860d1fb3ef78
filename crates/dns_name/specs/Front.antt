-- The number that stands before a stored name, of names that begin as another does: their next eight octets. Where two numbers
-- differ, the names stand to each other as they do (own).
use Rattle.std.specs.Prelude.{ℕ, zero, suc, ◌+◌, ◌-◌, ◌*◌, ◌^◌, List, [], ◌∷◌, nat_lt, if◌then◌else◌}
use Rattle.dns_name.specs.Name.{Name}
use Rattle.dns_name.specs.Stored.{stored_of}

-- how many numbers so many octets have
abbrev pub count_of : ℕ → ℕ
count_of zero = 1
count_of (suc k) = 256 * count_of k

-- the number that the first so many octets are, the highest first, with zeros after the end; the greatest one where one of them is no
-- octet
unfoldable pub number_of : ℕ → List ℕ → ℕ
number_of zero octets = 0
number_of (suc k) [] = 0
number_of (suc k) (octet ∷ octets) = if nat_lt octet 256 then octet * count_of k + number_of k octets else count_of (suc k) - 1

-- the number of the eight octets after those that octets begin with; the least number where octets come before all that begin so, and
-- the greatest where they come after them
unfoldable pub front_of : List ℕ → List ℕ → ℕ
front_of [] octets = number_of 8 octets
front_of (first ∷ base) [] = 0
front_of (first ∷ base) (octet ∷ octets) =
    if nat_lt octet first then 0 else if nat_lt first octet then 2 ^ 64 - 1 else front_of base octets

-- the number before a name, of those that begin as another does
abbrev pub name_front : Name → Name → ℕ
name_front base name = front_of (stored_of base) (stored_of name)
