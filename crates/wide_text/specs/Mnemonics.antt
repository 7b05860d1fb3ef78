-- Numbers by their words: algorithms of DNSSEC, types of certificates, and types of the records that signers make.
use Rattle.std.specs.Prelude.{ℕ, ◌==◌, List, [], ◌∷◌, codes, if◌then◌else◌, Option, option_map, Result, Err, ok_or}
use Rattle.std.specs.List.{find}
use Rattle.record_text.specs.Mnemonics.{is_word}
use Rattle.record_text.specs.Number.{number_of, is_number}
use Rattle.record_text.specs.declared.cause.Cause.{Cause}
use Rattle.record_text.specs.declared.cause.Cause.TheVariants.{Number}
use Rattle.record_text.specs.declared.cause.Cause.TheVariants as cause
use Rattle.wide_text.specs.declared.mnemonics.Mnemonic as declared
use Rattle.zone_lexing.specs.Word.{Written}
use Rattle.zone_lexing.specs.Word.Written.{Plain, Quoted, Unclosed}

-- a word and its number
pub record Mnemonic : Type 0 where
  pub word : List ℕ
  pub number : ℕ

-- a word and its number as contracts see them
abbrev pub mnemonic_seen : declared.Mnemonic → Mnemonic
mnemonic_seen mnemonic = record { word = mnemonic.word.now; number = mnemonic.number }

-- the algorithms of DNSSEC (RFC 4034, A.1; RFC 5155, 2; RFC 5702, 3; RFC 5933; RFC 6605, 4; RFC 8080, 4)
unfoldable pub algorithms : List Mnemonic
algorithms =
    record { word = codes "RSAMD5"; number = 1 }
    ∷ record { word = codes "DH"; number = 2 }
    ∷ record { word = codes "DSA"; number = 3 }
    ∷ record { word = codes "RSASHA1"; number = 5 }
    ∷ record { word = codes "DSA-NSEC3-SHA1"; number = 6 }
    ∷ record { word = codes "RSASHA1-NSEC3-SHA1"; number = 7 }
    ∷ record { word = codes "NSEC3DSA"; number = 6 }
    ∷ record { word = codes "NSEC3RSASHA1"; number = 7 }
    ∷ record { word = codes "RSASHA256"; number = 8 }
    ∷ record { word = codes "RSASHA512"; number = 10 }
    ∷ record { word = codes "ECC-GOST"; number = 12 }
    ∷ record { word = codes "ECDSAP256SHA256"; number = 13 }
    ∷ record { word = codes "ECDSAP384SHA384"; number = 14 }
    ∷ record { word = codes "ED25519"; number = 15 }
    ∷ record { word = codes "ED448"; number = 16 }
    ∷ record { word = codes "INDIRECT"; number = 252 }
    ∷ record { word = codes "PRIVATEDNS"; number = 253 }
    ∷ record { word = codes "PRIVATEOID"; number = 254 }
    ∷ []

-- the types of certificates (RFC 4398, 2.1)
unfoldable pub certificate_types : List Mnemonic
certificate_types =
    record { word = codes "PKIX"; number = 1 }
    ∷ record { word = codes "SPKI"; number = 2 }
    ∷ record { word = codes "PGP"; number = 3 }
    ∷ record { word = codes "IPKIX"; number = 4 }
    ∷ record { word = codes "ISPKI"; number = 5 }
    ∷ record { word = codes "IPGP"; number = 6 }
    ∷ record { word = codes "ACPKIX"; number = 7 }
    ∷ record { word = codes "IACPKIX"; number = 8 }
    ∷ record { word = codes "URI"; number = 253 }
    ∷ record { word = codes "OID"; number = 254 }
    ∷ []

-- the types of the records that signers make of the others (RFC 4034, 3 and 4; RFC 5155, 3 and 4)
unfoldable pub type_RRSIG : ℕ
type_RRSIG = 46

unfoldable pub type_NSEC : ℕ
type_NSEC = 47

unfoldable pub type_NSEC3 : ℕ
type_NSEC3 = 50

unfoldable pub type_NSEC3PARAM : ℕ
type_NSEC3PARAM = 51

unfoldable pub signing_types : List Mnemonic
signing_types =
    record { word = codes "RRSIG"; number = type_RRSIG }
    ∷ record { word = codes "NSEC"; number = type_NSEC }
    ∷ record { word = codes "NSEC3"; number = type_NSEC3 }
    ∷ record { word = codes "NSEC3PARAM"; number = type_NSEC3PARAM }
    ∷ []

-- the number that a text names, in any case
abbrev pub number_named : List Mnemonic → List ℕ → Option ℕ
number_named mnemonics text = option_map (λ mnemonic. mnemonic.number) (find (λ mnemonic. is_word text mnemonic.word) mnemonics)

-- the word of a number
abbrev pub word_numbered : List Mnemonic → ℕ → Option (List ℕ)
word_numbered mnemonics number = option_map (λ mnemonic. mnemonic.word) (find (λ mnemonic. mnemonic.number == number) mnemonics)

-- the number that a word names
abbrev pub name_of : List Mnemonic → Written → Result ℕ Cause
name_of mnemonics (Plain text) = ok_or (number_named mnemonics text) Number
name_of mnemonics (Quoted text) = Err Number
name_of mnemonics Unclosed = Err cause.Unclosed

-- the number that a word is, at most the greatest one given: in digits, or by its name
abbrev pub named_of : ℕ → List Mnemonic → Written → Result ℕ Cause
named_of most mnemonics word = if is_number word then number_of most word else name_of mnemonics word
