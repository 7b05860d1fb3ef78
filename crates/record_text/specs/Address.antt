-- Addresses as words (RFC 1035, 3.4.1 and 5.1; RFC 3596, 2.4; RFC 4291, 2.2). Which texts they are is told by the
-- grammar that the law `addresses_are_spelt` names.
use Rattle.std.specs.Prelude.{ℕ, List, Option, option_map, Result, Err, ok_or}
use Rattle.std.specs.Net.Addr.{octets_of}
use Rattle.std.specs.Net.Reader.{read_ipv4, read_ipv6, whole_value}
use Rattle.record_text.specs.declared.cause.Cause.{Cause}
use Rattle.record_text.specs.declared.cause.Cause.TheVariants.{BadData}
use Rattle.zone_lexing.specs.Word.{Written}
use Rattle.zone_lexing.specs.Word.Written.{Plain, Quoted, Unclosed}
use Rattle.record_text.specs.declared.cause.Cause.TheVariants as cause

-- the octets of the address that a text writes: four numbers from 0 to 255 without leading zeros, dots between
unfoldable pub dotted : List ℕ → Option (List ℕ)
dotted text = whole_value (read_ipv4 text)

-- and of one of version 6: eight groups of 1 to 4 hexadecimal digits, colons between; one `::` may stand for one or
-- more zero groups, and the last two groups may be written with dots (RFC 4291, 2.2)
unfoldable pub colon_hex : List ℕ → Option (List ℕ)
colon_hex text = option_map octets_of (whole_value (read_ipv6 text))

-- the octets of the address that a word is; a quoted string is none
abbrev pub address_of : Written → Result (List ℕ) Cause
address_of (Plain text) = ok_or (dotted text) BadData
address_of (Quoted text) = Err BadData
address_of Unclosed = Err cause.Unclosed

-- and of version 6
abbrev pub address6_of : Written → Result (List ℕ) Cause
address6_of (Plain text) = ok_or (colon_hex text) BadData
address6_of (Quoted text) = Err BadData
address6_of Unclosed = Err cause.Unclosed
