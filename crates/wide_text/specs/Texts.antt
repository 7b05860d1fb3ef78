-- Texts as words: without a length, and tags (RFC 7553, 4.4; RFC 8659, 4.1).
use Rattle.std.specs.Prelude.{ℕ, Bool, ◌&&◌, List, ◌∷◌, length, nat_lt, nat_le, if◌then◌else◌, Result, Ok, Err, ok_or}
use Rattle.std.specs.List.{list_all}
use Rattle.std.specs.Char.{is_ascii_alphanumeric}
use Rattle.record_text.specs.Strings.{unescaped}
use Rattle.record_text.specs.declared.cause.Cause.{Cause}
use Rattle.record_text.specs.declared.cause.Cause.TheVariants.{BadData}
use Rattle.record_text.specs.declared.cause.Cause.TheVariants as cause
use Rattle.zone_lexing.specs.Word.{Written}
use Rattle.zone_lexing.specs.Word.Written.{Plain, Quoted, Unclosed}

-- the octets of a word, quoted or not, its escapes undone; their number isn't written, since they end the data (RFC 7553, 4.4; RFC 8659, 4.1)
abbrev pub text_of : Written → Result (List ℕ) Cause
text_of (Plain text) = ok_or (unescaped text) BadData
text_of (Quoted text) = ok_or (unescaped text) BadData
text_of Unclosed = Err cause.Unclosed

-- whether octets are a tag: 1 to 15 letters and digits (RFC 8659, 4.1)
abbrev pub is_tag : List ℕ → Bool
is_tag text = nat_lt 0 (length text) && (nat_le (length text) 15 && list_all is_ascii_alphanumeric text)

-- the tag that a word is, after its length; between quotes none is written (RFC 8659, 4.1)
abbrev pub tag_of : Written → Result (List ℕ) Cause
tag_of (Plain text) = if is_tag text then Ok (length text ∷ text) else Err BadData
tag_of (Quoted text) = Err BadData
tag_of Unclosed = Err cause.Unclosed
