-- The data of a record of any type as words (RFC 1035, 5.1; RFC 3597, 5).
use Rattle.std.specs.Prelude.{ℕ, List, drop, if◌then◌else◌, Option, Some, None, Result}
use Rattle.dns_name.specs.Name.{Name}
use Rattle.record_text.specs.Data.{as_data, data_of_words}
use Rattle.record_text.specs.Generic.{are_generic, generic_of}
use Rattle.record_text.specs.Reading.{and_then}
use Rattle.record_text.specs.declared.cause.Cause.{Cause}
use Rattle.wide_text.specs.Fields.{fields_of}
use Rattle.wide_text.specs.Forms.{Form, form_of}
use Rattle.zone_lexing.specs.Word.{Written}

-- the data of a type that words spell by a form; a type without one is read as ever
abbrev pub data_by : Option Form → ℕ → Name → List Written → Result (List ℕ) Cause
data_by None rtype origin words = data_of_words rtype origin words
data_by (Some form) rtype origin words = and_then (fields_of origin form.fields form.rest words) (as_data rtype)

-- the data of a type that words spell relative to an origin: octets after `\#`, whose names may have capital letters, else by the type's form (RFC
-- 1035, 5.1; RFC 3597, 5)
abbrev pub wide_data : ℕ → Name → List Written → Result (List ℕ) Cause
wide_data rtype origin words =
    if are_generic words then and_then (generic_of (drop 1 words)) (as_data rtype) else data_by (form_of rtype) rtype origin words
