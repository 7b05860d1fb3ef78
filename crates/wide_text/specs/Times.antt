-- Times as words: seconds, or numbers with the units of BIND's and Knot's manuals.
use Rattle.std.specs.Prelude.{ℕ, ◌+◌, ◌-◌, ◌*◌, Bool, true, false, not, ◌&&◌, ◌||◌, ◌==◌, List, [], ◌∷◌, length, nat_lt, nat_le, if◌then◌else◌, Option, Some, None, unwrap_or, option_and_then, Result, Err, ok_or}
use Rattle.std.specs.Option.{is_some}
use Rattle.std.specs.Char.{is_ascii_digit}
use Rattle.dns_rdata.specs.declared.numbers.Ttl.{Ttl}
use Rattle.record_text.specs.Number.{are_digits, number_of, is_number}
use Rattle.record_text.specs.Reading.{on_ok}
use Rattle.record_text.specs.declared.cause.Cause.{Cause}
use Rattle.record_text.specs.declared.cause.Cause.TheVariants.{Number}
use Rattle.record_text.specs.declared.cause.Cause.TheVariants as cause
use Rattle.wide_text.specs.declared.times.Sum.{Sum}
use Rattle.zone_lexing.specs.Word.{Written}
use Rattle.zone_lexing.specs.Word.Written.{Plain, Quoted, Unclosed}

-- the seconds of a unit, a letter in any case: w is a week, d a day, h an hour, m a minute, s a second
unfoldable pub unit_of : ℕ → Option ℕ
unit_of c =
    if c == 119 || c == 87 then Some 604800
    else if c == 100 || c == 68 then Some 86400
    else if c == 104 || c == 72 then Some 3600
    else if c == 109 || c == 77 then Some 60
    else if c == 115 || c == 83 then Some 1
    else None

-- whether a text is numbers that each have a unit after them, where digits of the first number stand before it or not
abbrev pub has_units_after : Bool → List ℕ → Bool
has_units_after digits [] = not digits
has_units_after digits (c ∷ text) =
    if is_ascii_digit c then has_units_after true text else digits && (is_some (unit_of c) && has_units_after false text)

-- whether a text is a time: seconds in digits, or numbers with units, one or more; `1h30` and `h` are none
abbrev pub is_time_text : List ℕ → Bool
is_time_text text = are_digits text || (nat_lt 0 (length text) && has_units_after false text)

-- whether a word is a time, of whatever length; a quoted string is none
abbrev pub is_time : Written → Bool
is_time (Plain text) = is_time_text text
is_time (Quoted text) = false
is_time Unclosed = false

-- a sum with a digit more of the number that has no unit yet; none where it is over the greatest one given
abbrev pub with_digit : ℕ → Sum → ℕ → Option Sum
with_digit most sum digit =
    let number = unwrap_or sum.number 0 * 10 + digit in
    if nat_le number most then Some (record { number = Some number; total = sum.total }) else None

-- and with a unit after that number, which is added then; none where there is no number, and where the sum is over the greatest one
abbrev pub with_unit : ℕ → Sum → ℕ → Option Sum
with_unit most sum unit =
    option_and_then (λ number. if nat_le (sum.total + number * unit) most then Some (record { number = None; total = sum.total + number * unit }) else None)
    sum.number

-- and with an octet more
unfoldable pub with_octet : ℕ → Sum → ℕ → Option Sum
with_octet most sum c =
    if is_ascii_digit c then with_digit most sum (c - 48) else option_and_then (with_unit most sum) (unit_of c)

-- the seconds of a sum whose numbers all have their units
abbrev pub total_of : Sum → Option ℕ
total_of sum = if is_some sum.number then None else Some sum.total

-- the seconds that the rest of a text makes of a sum
abbrev pub sum_after : ℕ → Sum → List ℕ → Option ℕ
sum_after most sum [] = total_of sum
sum_after most sum (c ∷ text) = option_and_then (λ next. sum_after most next text) (with_octet most sum c)

-- the seconds of numbers with units, in any order, added up, where neither a number nor the sum is over the greatest one given
abbrev pub sum_in : ℕ → List ℕ → Option ℕ
sum_in most text = if length text == 0 then None else sum_after most (record { number = None; total = 0 }) text

-- the seconds of a word that is no number
abbrev pub sum_of : ℕ → Written → Result ℕ Cause
sum_of most (Plain text) = ok_or (sum_in most text) Number
sum_of most (Quoted text) = Err Number
sum_of most Unclosed = Err cause.Unclosed

-- the seconds that a word is
abbrev pub seconds_of : ℕ → Written → Result ℕ Cause
seconds_of most word = if is_number word then number_of most word else sum_of most word

-- the TTL that a word is, at most 2^31 - 1 (RFC 2181, 8)
abbrev pub ttl_of : Written → Result Ttl Cause
ttl_of word = on_ok (λ seconds. record { 0 = seconds }) (seconds_of 2147483647 word)
