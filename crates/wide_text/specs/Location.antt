-- Places on the earth as words: degrees, minutes and seconds, altitude, size and precision (RFC 1876, 2 and 3).
use Rattle.std.specs.Prelude.{ℕ, ◌+◌, ◌-◌, ◌*◌, ◌/◌, ◌==◌, List, [], ◌∷◌, ◌++◌, length, take, drop, codes, nat_lt, nat_le, get_or, if◌then◌else◌, Option, None, Result, Ok, Err, ok_or}
use Rattle.std.specs.Option.{is_some}
use Rattle.std.specs.Int.{to_be_bytes, w32}
use Rattle.record_text.specs.Data.{surplus_of}
use Rattle.record_text.specs.Number.{number_of}
use Rattle.record_text.specs.Reading.{on_ok, and_then}
use Rattle.record_text.specs.declared.cause.Cause.{Cause}
use Rattle.record_text.specs.declared.cause.Cause.TheVariants.{BadData, Number}
use Rattle.wide_text.specs.Encoded.{bare_of}
use Rattle.wide_text.specs.Mnemonics.{Mnemonic, number_named}
use Rattle.zone_lexing.specs.Word.{Written}
use Rattle.zone_lexing.specs.Word.Written.{Plain, Quoted, Unclosed}

-- the letters of a latitude and of a longitude; 1 is the side that is above 2^31 (RFC 1876, 2)
unfoldable pub latitudes : List Mnemonic
latitudes = record { word = codes "N"; number = 1 } ∷ record { word = codes "S"; number = 0 } ∷ []

unfoldable pub longitudes : List Mnemonic
longitudes = record { word = codes "E"; number = 1 } ∷ record { word = codes "W"; number = 0 } ∷ []

-- how many octets stand before the first point, or all where there is none
abbrev pub point_of : List ℕ → ℕ
point_of [] = 0
point_of (c ∷ text) = if c == 46 then 0 else point_of text + 1

-- what the last of so many digits after a point is worth, in thousandths
abbrev pub worth_of : ℕ → ℕ
worth_of digits = if digits == 1 then 100 else if digits == 2 then 10 else 1

-- the thousandths of the digits after a point, so many at most
abbrev pub fraction_in : ℕ → List ℕ → Result ℕ Cause
fraction_in places digits = if nat_le (length digits) places then on_ok (λ n. n * worth_of (length digits)) (number_of 999 (Plain digits)) else Err Number

-- the thousandths of a number, whose whole part is at most the one given, with so many digits at most after a point, where there is one
abbrev pub thousandths_in : ℕ → ℕ → List ℕ → Result ℕ Cause
thousandths_in most places text =
    if point_of text == length text then on_ok (λ n. n * 1000) (number_of most (Plain text))
    else and_then (number_of most (Plain (take (point_of text) text))) (λ n. on_ok (λ part. n * 1000 + part) (fraction_in places (drop (point_of text + 1) text)))

-- the thousandths of a word's seconds
abbrev pub seconds_in : Written → Result ℕ Cause
seconds_in word = and_then (bare_of word) (thousandths_in 59 3)

-- the thousandths of a second of degrees, minutes and thousandths
abbrev pub sum_of : Result ℕ Cause → Result ℕ Cause → Result ℕ Cause → Result ℕ Cause
sum_of degrees minutes seconds = and_then degrees (λ d. and_then minutes (λ m. on_ok (λ s. (d * 3600000 + m * 60000) + s) seconds))

-- degrees, minutes and seconds, of which the last ones may be missing and are zero (RFC 1876, 3)
abbrev pub angle_in : ℕ → List Written → Result ℕ Cause
angle_in most (degrees ∷ []) = sum_of (number_of most degrees) (Ok 0) (Ok 0)
angle_in most (degrees ∷ minutes ∷ []) = sum_of (number_of most degrees) (number_of 59 minutes) (Ok 0)
angle_in most (degrees ∷ minutes ∷ seconds ∷ []) = sum_of (number_of most degrees) (number_of 59 minutes) (seconds_in seconds)
angle_in most _ = Err BadData

-- the side that a word is; none of a word that is no letter of these
abbrev pub side_of : List Mnemonic → Written → Option ℕ
side_of letters (Plain text) = number_named letters text
side_of letters (Quoted text) = None
side_of letters Unclosed = None

-- how many words stand before the first letter, or all where there is none
abbrev pub words_before : List Mnemonic → List Written → ℕ
words_before letters [] = 0
words_before letters (word ∷ words) = if is_some (side_of letters word) then 0 else words_before letters words + 1

-- the side of the first word
abbrev pub side_first : List Mnemonic → List Written → Result ℕ Cause
side_first letters [] = Err BadData
side_first letters (word ∷ words) = ok_or (side_of letters word) BadData

-- an angle on a side, at most so many degrees: the equator, and the prime meridian, are 2^31 (RFC 1876, 2)
abbrev pub turned : ℕ → ℕ → ℕ → Result ℕ Cause
turned most angle side = if nat_le angle (most * 3600000) then Ok (if side == 1 then 2147483648 + angle else 2147483648 - angle) else Err Number

-- the angle that words begin with, and its letter
abbrev pub angle_of : ℕ → List Mnemonic → List Written → Result ℕ Cause
angle_of most letters words =
    and_then (angle_in most (take (words_before letters words) words)) (λ angle. and_then (side_first letters (drop (words_before letters words) words)) (turned most angle))

-- what stands after it
abbrev pub after_angle : List Mnemonic → List Written → List Written
after_angle letters words = drop (words_before letters words + 1) words

-- a text without the `m` that it may end with
abbrev pub without_m : List ℕ → List ℕ
without_m text = if get_or text (length text - 1) 0 == 109 then take (length text - 1) text else text

-- the centimetres of metres
abbrev pub centimetres_in : ℕ → List ℕ → Result ℕ Cause
centimetres_in most text = on_ok (λ n. n / 10) (thousandths_in most 2 (without_m text))

-- centimetres above 100000 metres below the ellipsoid (RFC 1876, 2)
abbrev pub below : ℕ → Result ℕ Cause
below depth = if nat_le depth 10000000 then Ok (10000000 - depth) else Err Number

abbrev pub above : ℕ → Result ℕ Cause
above height = if nat_le height 4284967295 then Ok (10000000 + height) else Err Number

abbrev pub altitude_in : List ℕ → Result ℕ Cause
altitude_in [] = Err Number
altitude_in (c ∷ text) = if c == 45 then and_then (centimetres_in 100000 text) below else and_then (centimetres_in 42849672 (c ∷ text)) above

abbrev pub altitude_of : Written → Result ℕ Cause
altitude_of word = and_then (bare_of word) altitude_in

-- centimetres as their first digit, in the higher four bits, and the power of ten that it stands for (RFC 1876, 2: SIZE)
abbrev pub scaled : ℕ → ℕ
scaled n =
    if nat_lt n 10 then n * 16
    else if nat_lt n 100 then n / 10 * 16 + 1
    else if nat_lt n 1000 then n / 100 * 16 + 2
    else if nat_lt n 10000 then n / 1000 * 16 + 3
    else if nat_lt n 100000 then n / 10000 * 16 + 4
    else if nat_lt n 1000000 then n / 100000 * 16 + 5
    else if nat_lt n 10000000 then n / 1000000 * 16 + 6
    else if nat_lt n 100000000 then n / 10000000 * 16 + 7
    else if nat_lt n 1000000000 then n / 100000000 * 16 + 8
    else n / 1000000000 * 16 + 9

-- a size, or a precision, of at most 90000000.00 metres
abbrev pub size_in : ℕ → Result ℕ Cause
size_in n = if nat_le n 9000000000 then Ok (scaled n) else Err Number

abbrev pub size_of : Written → Result ℕ Cause
size_of word = and_then (bare_of word) (λ text. and_then (centimetres_in 90000000 text) size_in)

-- three octets
abbrev pub three_of : Result ℕ Cause → Result ℕ Cause → Result ℕ Cause → Result (List ℕ) Cause
three_of size horizontal vertical = and_then size (λ a. and_then horizontal (λ b. on_ok (λ c. a ∷ b ∷ c ∷ []) vertical))

-- size, horizontal precision and vertical precision: 1 metre, 10000 metres and 10 metres where they don't stand (RFC 1876, 3)
abbrev pub sizes_of : List Written → Result (List ℕ) Cause
sizes_of [] = Ok (18 ∷ 22 ∷ 19 ∷ [])
sizes_of (size ∷ []) = three_of (size_of size) (Ok 22) (Ok 19)
sizes_of (size ∷ horizontal ∷ []) = three_of (size_of size) (size_of horizontal) (Ok 19)
sizes_of (size ∷ horizontal ∷ vertical ∷ []) = three_of (size_of size) (size_of horizontal) (size_of vertical)
sizes_of (size ∷ horizontal ∷ vertical ∷ word ∷ words) = Err (surplus_of word)

-- the octets of a place after its angles: version, size and precisions stand before them, and the altitude after them (RFC 1876, 2)
abbrev pub octets_with : ℕ → ℕ → List Written → Result (List ℕ) Cause
octets_with north east [] = Err BadData
octets_with north east (word ∷ words) =
    and_then (altitude_of word) (λ altitude. on_ok (λ sizes. (((0 ∷ sizes) ++ to_be_bytes w32 north) ++ to_be_bytes w32 east) ++ to_be_bytes w32 altitude) (sizes_of words))

-- the octets of a place (RFC 1876, 2 and 3)
abbrev pub location_of : List Written → Result (List ℕ) Cause
location_of words =
    and_then (angle_of 90 latitudes words) (λ north. and_then (angle_of 180 longitudes (after_angle latitudes words)) (λ east.
    octets_with north east (after_angle longitudes (after_angle latitudes words))))
