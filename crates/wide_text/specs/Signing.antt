-- Records that signers make of the others, and that a zone without signatures is without (RFC 4034, 3 and 4; RFC 5155, 3 and 4).
use Rattle.std.specs.Prelude.{ℕ, Bool, true, false, not, ◌&&◌, ◌||◌, ◌==◌, List, [], ◌∷◌, if◌then◌else◌, Result, Ok, Err}
use Rattle.record_text.specs.Generic.{are_generic}
use Rattle.record_text.specs.declared.cause.Cause.{Cause}
use Rattle.record_text.specs.declared.cause.Cause.TheVariants as cause
use Rattle.wide_text.specs.Mnemonics.{type_RRSIG, type_NSEC, type_NSEC3, type_NSEC3PARAM}
use Rattle.zone_lexing.specs.Word.{Written}
use Rattle.zone_lexing.specs.Word.Written.{Plain, Quoted, Unclosed}

-- whether signers make records of a type
unfoldable pub is_signing : ℕ → Bool
is_signing rtype = rtype == type_RRSIG || (rtype == type_NSEC || (rtype == type_NSEC3 || rtype == type_NSEC3PARAM))

-- that each word stands
abbrev pub all_closed : List Written → Result Bool Cause
all_closed [] = Ok true
all_closed (Plain text ∷ words) = all_closed words
all_closed (Quoted text ∷ words) = all_closed words
all_closed (Unclosed ∷ words) = Err cause.Unclosed

-- whether a record is left out: one of these types, whose data isn't octets after `\#` (own). The fault is a quote or a parenthesis of it without
-- its other one
abbrev pub left_out : ℕ → List Written → Result Bool Cause
left_out rtype words = if is_signing rtype && not (are_generic words) then all_closed words else Ok false
