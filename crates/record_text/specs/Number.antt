-- Numbers as text (RFC 1035, 5.1).
use Rattle.std.specs.Prelude.{ℕ, ◌+◌, ◌-◌, ◌*◌, Bool, false, ◌&&◌, List, [], ◌∷◌, length, nat_lt, nat_le, if◌then◌else◌, Option, Some, None, Result, Err, ok_or}
use Rattle.std.specs.List.{list_all}
use Rattle.std.specs.Char.{is_ascii_digit}
use Rattle.record_text.specs.declared.cause.Cause.{Cause}
use Rattle.record_text.specs.declared.cause.Cause.TheVariants.{Number}
use Rattle.zone_lexing.specs.Word.{Written}
use Rattle.zone_lexing.specs.Word.Written.{Plain, Quoted, Unclosed}
use Rattle.record_text.specs.declared.cause.Cause.TheVariants as cause

-- the number that decimal digits write after those of n
abbrev pub value_after : ℕ → List ℕ → ℕ
value_after n [] = n
value_after n (digit ∷ digits) = value_after (n * 10 + (digit - 48)) digits

-- the number that decimal digits write; leading zeros change nothing
abbrev pub value_of : List ℕ → ℕ
value_of digits = value_after 0 digits

-- whether a text is decimal digits, one or more
abbrev pub are_digits : List ℕ → Bool
are_digits text = nat_lt 0 (length text) && list_all is_ascii_digit text

-- the number of a text of digits, where it is at most the greatest one given
unfoldable pub decimal_of : ℕ → List ℕ → Option ℕ
decimal_of most text = if are_digits text && nat_le (value_of text) most then Some (value_of text) else None

-- the number that a word is; between quotes no number is written
abbrev pub number_of : ℕ → Written → Result ℕ Cause
number_of most (Plain text) = ok_or (decimal_of most text) Number
number_of most (Quoted text) = Err Number
number_of most Unclosed = Err cause.Unclosed

-- whether a word is a number, of whatever size
abbrev pub is_number : Written → Bool
is_number (Plain text) = are_digits text
is_number (Quoted text) = false
is_number Unclosed = false
