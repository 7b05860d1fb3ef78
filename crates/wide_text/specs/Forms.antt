-- The types that have words beside those of RFC 1035, RFC 2782 and RFC 3596: their numbers and the fields of their data.
use Rattle.std.specs.Prelude.{ℕ, List, [], ◌∷◌, ◌==◌, codes, Option, option_map}
use Rattle.std.specs.Option.{option_or}
use Rattle.std.specs.List.{find}
use Rattle.record_text.specs.Mnemonics.{is_word, type_named}
use Rattle.wide_text.specs.Mnemonics.{number_named, signing_types}
use Rattle.wide_text.specs.declared.forms.Field.{Field}
use Rattle.wide_text.specs.declared.forms.Field.TheVariants as field
use Rattle.wide_text.specs.declared.forms.Rest.{Rest}
use Rattle.wide_text.specs.declared.forms.Rest.TheVariants as rest
use Rattle.wide_text.specs.declared.forms.Form as declared

-- a type's word, its number, the fields that have one word each, and what the words after them are
pub record Form : Type 0 where
  pub word : List ℕ
  pub rtype : ℕ
  pub fields : List Field
  pub rest : Rest

-- a form as contracts see it
abbrev pub form_seen : declared.Form → Form
form_seen form = record { word = form.word.now; rtype = form.rtype; fields = form.fields.now; rest = form.rest }

-- the table of types
unfoldable pub forms : List Form
forms =
    -- its last four numbers are times (RFC 1035, 3.3.13)
    record { word = codes "SOA"; rtype = 6; fields = field.Name ∷ field.Name ∷ field.Long ∷ field.Time ∷ field.Time ∷ field.Time ∷ field.Time ∷ []; rest = rest.Nothing }
    -- RFC 1035, 3.3.2
    ∷ record { word = codes "HINFO"; rtype = 13; fields = field.String ∷ field.String ∷ []; rest = rest.Nothing }
    -- RFC 1183, 2.2 and 1
    ∷ record { word = codes "RP"; rtype = 17; fields = field.Name ∷ field.Name ∷ []; rest = rest.Nothing }
    ∷ record { word = codes "AFSDB"; rtype = 18; fields = field.Short ∷ field.Name ∷ []; rest = rest.Nothing }
    -- RFC 1876, 2 and 3
    ∷ record { word = codes "LOC"; rtype = 29; fields = []; rest = rest.Location }
    -- RFC 3403, 4.1
    ∷ record { word = codes "NAPTR"; rtype = 35; fields = field.Short ∷ field.Short ∷ field.String ∷ field.String ∷ field.String ∷ field.Name ∷ []; rest = rest.Nothing }
    -- RFC 2230, 3.1
    ∷ record { word = codes "KX"; rtype = 36; fields = field.Short ∷ field.Name ∷ []; rest = rest.Nothing }
    -- RFC 4398, 2
    ∷ record { word = codes "CERT"; rtype = 37; fields = field.CertType ∷ field.Short ∷ field.Algorithm ∷ []; rest = rest.Base64 }
    -- RFC 6672, 2.1
    ∷ record { word = codes "DNAME"; rtype = 39; fields = field.Name ∷ []; rest = rest.Nothing }
    -- RFC 4034, 5.3
    ∷ record { word = codes "DS"; rtype = 43; fields = field.Short ∷ field.Algorithm ∷ field.Octet ∷ []; rest = rest.Hex }
    -- RFC 4255, 3.2
    ∷ record { word = codes "SSHFP"; rtype = 44; fields = field.Octet ∷ field.Octet ∷ []; rest = rest.Hex }
    -- RFC 4034, 2.2
    ∷ record { word = codes "DNSKEY"; rtype = 48; fields = field.Short ∷ field.Octet ∷ field.Algorithm ∷ []; rest = rest.Base64 }
    -- RFC 4701, 3.2
    ∷ record { word = codes "DHCID"; rtype = 49; fields = []; rest = rest.Base64 }
    -- RFC 6698, 2.2; RFC 8162, 2
    ∷ record { word = codes "TLSA"; rtype = 52; fields = field.Octet ∷ field.Octet ∷ field.Octet ∷ []; rest = rest.Hex }
    ∷ record { word = codes "SMIMEA"; rtype = 53; fields = field.Octet ∷ field.Octet ∷ field.Octet ∷ []; rest = rest.Hex }
    -- RFC 7344, 3
    ∷ record { word = codes "CDS"; rtype = 59; fields = field.Short ∷ field.Algorithm ∷ field.Octet ∷ []; rest = rest.Hex }
    ∷ record { word = codes "CDNSKEY"; rtype = 60; fields = field.Short ∷ field.Octet ∷ field.Algorithm ∷ []; rest = rest.Base64 }
    -- RFC 7929, 2.3
    ∷ record { word = codes "OPENPGPKEY"; rtype = 61; fields = []; rest = rest.Base64 }
    -- RFC 9460, 2.1 and 9
    ∷ record { word = codes "SVCB"; rtype = 64; fields = field.Short ∷ field.Name ∷ []; rest = rest.Params }
    ∷ record { word = codes "HTTPS"; rtype = 65; fields = field.Short ∷ field.Name ∷ []; rest = rest.Params }
    -- RFC 4408, 3.1.1
    ∷ record { word = codes "SPF"; rtype = 99; fields = []; rest = rest.Strings }
    -- RFC 7043, 3.2 and 4.2
    ∷ record { word = codes "EUI48"; rtype = 108; fields = field.Eui48 ∷ []; rest = rest.Nothing }
    ∷ record { word = codes "EUI64"; rtype = 109; fields = field.Eui64 ∷ []; rest = rest.Nothing }
    -- RFC 7553, 4
    ∷ record { word = codes "URI"; rtype = 256; fields = field.Short ∷ field.Short ∷ field.Text ∷ []; rest = rest.Nothing }
    -- RFC 8659, 4.1
    ∷ record { word = codes "CAA"; rtype = 257; fields = field.Octet ∷ field.Tag ∷ field.Text ∷ []; rest = rest.Nothing }
    ∷ []

-- the form of a type; none of one that isn't in the table
abbrev pub form_of : ℕ → Option Form
form_of rtype = find (λ form. form.rtype == rtype) forms

-- the type that a text names in the table, in any case
abbrev pub type_in_table : List ℕ → Option ℕ
type_in_table text = option_map (λ form. form.rtype) (find (λ form. is_word text form.word) forms)

-- and in the table or among the types of signers' records
abbrev pub other_type_named : List ℕ → Option ℕ
other_type_named text = option_or (type_in_table text) (number_named signing_types text)

-- the type that a text names, in any case: one of the plain words, or one of those
abbrev pub wide_type_named : List ℕ → Option ℕ
wide_type_named text = option_or (type_named text) (other_type_named text)
