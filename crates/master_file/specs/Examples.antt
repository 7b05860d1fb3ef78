-- A worked example of a zone's text (RFC 1035, 5.1; RFC 2308, 4).
use Rattle.std.specs.Prelude.{ℕ, List, [], ◌∷◌, ◌++◌, codes}
use Rattle.std.specs.List.{flat_map}
use Rattle.dns_name.specs.Name.{Name, wire_of}
use Rattle.dns_rdata.specs.Numbers.{type_NS, type_MX}
use Rattle.master_file.specs.declared.record_entry.RecordEntry.{RecordEntry}

-- the origin
abbrev pub origin : Name
origin = codes "test" ∷ []

-- lines, an LF after each
abbrev pub lines : List (List ℕ) → List ℕ
lines texts = flat_map (λ text. text ++ 10 ∷ []) texts

-- a text whose records leave out what is in force: the owner, the TTL and the class
abbrev pub text : List ℕ
text = lines (codes "$TTL 60 ; seconds" ∷ codes "@ IN 5 NS a" ∷ codes " NS b." ∷ codes "$ORIGIN C" ∷ codes "d MX (7" ∷ codes "@)" ∷ [])

-- a record of a name server
abbrev pub server : ℕ → Name → ℕ → Name → RecordEntry
server line owner ttl name = record { line = line; owner = owner; ttl = record { 0 = ttl }; rdata = record { rtype = type_NS; octets = wire_of name } }

-- the records of the text
abbrev pub records : List RecordEntry
records =
    server 2 origin 5 (codes "a" ∷ origin) ∷ server 3 origin 60 (codes "b" ∷ [])
    ∷ record { line = 5; owner = codes "d" ∷ codes "c" ∷ origin; ttl = record { 0 = 60 }; rdata = record { rtype = type_MX; octets = 0 ∷ 7 ∷ wire_of (codes "c" ∷ origin) } } ∷ []

-- a text with a quote without its end, after a word that is judged first: a name where one is due
abbrev pub unclosed_text : List ℕ → List ℕ
unclosed_text name = lines (codes "a 5 NS (" ∷ (name ++ 32 ∷ 34 ∷ codes "c") ∷ codes ")" ∷ [])
