-- Names as words (RFC 1035, 5.1).
use Rattle.std.specs.Prelude.{ℕ, List, Result, Ok, Err}
use Rattle.dns_name.specs.Name.{Name}
use Rattle.dns_name.specs.Text.{name_of_text}
use Rattle.record_text.specs.declared.cause.Cause.{Cause}
use Rattle.record_text.specs.declared.cause.Cause.TheVariants.{BadName, BadData}
use Rattle.zone_lexing.specs.Word.{Written}
use Rattle.zone_lexing.specs.Word.Written.{Plain, Quoted, Unclosed}
use Rattle.record_text.specs.declared.cause.Cause.TheVariants as cause

-- the name that a text stands for: `@` alone is the origin, and a text that ends in no dot has the origin after it
unfoldable pub name_named : List ℕ → Name → Result Name Cause
name_named text origin = elim (name_of_text text origin) [ Ok name ↦ Ok name | Err fault ↦ Err BadName ]

-- the name that a word of data is; a quoted string is none
abbrev pub name_of : Name → Written → Result Name Cause
name_of origin (Plain text) = name_named text origin
name_of origin (Quoted text) = Err BadData
name_of origin Unclosed = Err cause.Unclosed

-- and one that stands as an owner or after a directive
abbrev pub owner_of : Name → Written → Result Name Cause
owner_of origin (Plain text) = name_named text origin
owner_of origin (Quoted text) = Err BadName
owner_of origin Unclosed = Err cause.Unclosed
