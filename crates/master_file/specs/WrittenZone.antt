-- A zone as text, one record a line (RFC 1035, 5.1).
use Rattle.std.specs.Prelude.{ℕ, ◌+◌, Bool, not, ◌==◌, List, [], ◌∷◌, ◌++◌, codes, decimal, filter, flat_map}
use Rattle.dns_name.specs.Text.{text_of}
use Rattle.dns_rdata.specs.Numbers.{type_SOA}
use Rattle.dns_rdata.specs.Record.{Record}
use Rattle.zone_tree.specs.Zone.{soa_of}
use Rattle.master_file.specs.declared.record_entry.RecordEntry.{RecordEntry}
use Rattle.record_text.specs.Mnemonics.{type_word}
use Rattle.record_text.specs.Text.{words_of, text_of_words}
use Rattle.zone_lexing.specs.Word.{Written}
use Rattle.zone_lexing.specs.Word.Written.{Plain}

-- a record's line: its owner, its TTL in decimal, the class, the type and the data, a space between, and an LF
-- (RFC 1035, 5.1)
abbrev pub record_line : Record → List ℕ
record_line r =
    text_of r.owner ++ 32 ∷ decimal r.ttl ++ 32 ∷ codes "IN" ++ 32 ∷ type_word r.rtype ++ text_of_words (words_of r.rtype r.rdata) ++ 10 ∷ []

-- whether a record is no SOA
abbrev pub is_other : Record → Bool
is_other r = not (r.rtype == type_SOA)

-- a zone's records as they are written: the SOA, and then the others in their order (own)
abbrev pub soa_first : List Record → List Record
soa_first zone = soa_of zone ++ filter is_other zone

-- a zone as text (RFC 1035, 5.1)
abbrev pub zone_text : List Record → List ℕ
zone_text zone = flat_map record_line (soa_first zone)

-- the words of a record's line
abbrev pub line_words : Record → List Written
line_words r = Plain (text_of r.owner) ∷ Plain (decimal r.ttl) ∷ Plain (codes "IN") ∷ Plain (type_word r.rtype) ∷ words_of r.rtype r.rdata

-- a record on a line
abbrev pub rr_at : ℕ → Record → RecordEntry
rr_at line r = record { line = line; owner = r.owner; ttl = record { 0 = r.ttl }; rdata = record { rtype = r.rtype; octets = r.rdata } }

-- records on lines below each other; the number of the first line is given
abbrev pub rrs_from : ℕ → List Record → List RecordEntry
rrs_from line [] = []
rrs_from line (r ∷ rs) = rr_at line r ∷ rrs_from (line + 1) rs
