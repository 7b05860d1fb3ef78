-- The words of a place on the earth (RFC 1876, 2 and 3).
use Rattle.std.specs.Prelude.{ℕ, ◌+◌, ◌-◌, ◌*◌, ◌/◌, ◌%◌, ◌^◌, ◌==◌, List, [], ◌∷◌, ◌++◌, length, take, drop, get_or, codes, decimal, nat_le, if◌then◌else◌}
use Rattle.std.specs.Int.{from_be_bytes, w32}
use Rattle.dns_name.specs.Text.{digits_of}
use Rattle.zone_lexing.specs.Word.{Written}
use Rattle.zone_lexing.specs.Word.Written.{Plain}

-- seconds with three digits after the point, of thousandths
abbrev pub seconds_text : ℕ → List ℕ
seconds_text thousandths = decimal (thousandths / 1000) ++ 46 ∷ digits_of (thousandths % 1000)

-- degrees, minutes, seconds, and the letter of the side
abbrev pub side_words : List ℕ → ℕ → List Written
side_words letter thousandths =
    Plain (decimal (thousandths / 3600000)) ∷ Plain (decimal (thousandths / 60000 % 60)) ∷ Plain (seconds_text (thousandths % 60000)) ∷ Plain letter ∷ []

-- an angle, by the letters of its sides: 2^31 is the equator, or the prime meridian (RFC 1876, 2)
abbrev pub angle_words : List ℕ → List ℕ → ℕ → List Written
angle_words above below angle =
    if nat_le 2147483648 angle then side_words above (angle - 2147483648) else side_words below (2147483648 - angle)

-- metres with two digits after the point, of centimetres
abbrev pub metres_text : ℕ → List ℕ
metres_text centimetres = decimal (centimetres / 100) ++ 46 ∷ (48 + centimetres % 100 / 10) ∷ (48 + centimetres % 10) ∷ 109 ∷ []

-- an altitude, of centimetres above 100000 metres below the ellipsoid (RFC 1876, 2)
abbrev pub altitude_text : ℕ → List ℕ
altitude_text altitude = if nat_le 10000000 altitude then metres_text (altitude - 10000000) else 45 ∷ metres_text (10000000 - altitude)

-- a size or a precision: a digit in the higher four bits, and the power of ten that it stands for (RFC 1876, 2: SIZE)
abbrev pub size_text : ℕ → List ℕ
size_text size = metres_text (size / 16 * 10 ^ (size % 16))

-- the number of the four octets at a place
abbrev pub number_at : ℕ → List ℕ → ℕ
number_at at octets = from_be_bytes w32 (take 4 (drop at octets))

-- the words of the 16 octets of a place: latitude, longitude, altitude, size and precisions (RFC 1876, 3)
abbrev pub place_words : List ℕ → List Written
place_words octets =
    (angle_words (codes "N") (codes "S") (number_at 4 octets) ++ angle_words (codes "E") (codes "W") (number_at 8 octets))
    ++ Plain (altitude_text (number_at 12 octets)) ∷ Plain (size_text (get_or octets 1 0)) ∷ Plain (size_text (get_or octets 2 0)) ∷ Plain (size_text (get_or octets 3 0)) ∷ []

-- and none of another number of octets
abbrev pub location_words : List ℕ → List Written
location_words octets = if length octets == 16 then place_words octets else []
