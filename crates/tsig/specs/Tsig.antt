-- A TSIG as it stands in a message (RFC 8945, 4.2).
use Rattle.std.specs.Prelude.{ℕ, ◌+◌, List, [], ◌∷◌, ◌++◌, length, take, drop, nat_le, Option, Some, None, option_and_then, if◌then◌else◌}
use Rattle.std.specs.Int.{to_be_bytes, w16}
use Rattle.dns_name.specs.Name.{Name, wire_of, name_in}
use Rattle.dns_message.specs.Message.{Entry, number_at}
use Rattle.dns_message.specs.Reads.{record_at}
use Rattle.dns_message.specs.Tsig.{type_TSIG}
use Rattle.tsig.specs.Fields.{Fields, fields_in, written, with_length}

-- the key's name, the algorithm's name, each as it is spelt, and the fields after these
pub record Tsig : Type 0 where
  pub owner : Name
  pub algorithm : Name
  pub fields : Fields

-- the most octets of both names of a TSIG that is read, so that 512 octets have room for a header and a TSIG of these names without a MAC (own)
abbrev pub names_limit : ℕ
names_limit = 470

-- a TSIG whose fields were read; none of longer names
abbrev pub tsig_with : Name → Name → Option Fields → Option Tsig
tsig_with owner algorithm None = None
tsig_with owner algorithm (Some fields) =
    if nat_le (length (wire_of owner) + length (wire_of algorithm)) names_limit
    then Some (record { owner = owner; algorithm = algorithm; fields = fields })
    else None

-- the TSIG of a key's name and data: the algorithm's name, uncompressed, and then the fields, and nothing after them; none of other data (RFC 8945, 4.2)
abbrev pub tsig_of : Name → List ℕ → Option Tsig
tsig_of owner octets =
    option_and_then (λ algorithm. tsig_with owner algorithm (fields_in (drop (length (wire_of algorithm)) octets))) (name_in octets)

-- the data of a record of a message (RFC 1035, 4.1.3)
abbrev pub data_of : List ℕ → Entry × ℕ → List ℕ
data_of msg r = take r.0.size (drop r.0.at msg)

-- the TSIG at a position of a message; none where its data isn't of that form
abbrev pub tsig_at : List ℕ → ℕ → Option Tsig
tsig_at msg at = option_and_then (λ r. tsig_of r.0.owner (data_of msg r)) (record_at msg at)

-- the octets of a TSIG's record: the key's name in full, type TSIG, class ANY, TTL 0, the data behind their number (RFC 8945, 4.2)
abbrev pub record_octets : Tsig → List ℕ
record_octets tsig =
    wire_of tsig.owner
    ++ (0 ∷ 250 ∷ 0 ∷ 255 ∷ 0 ∷ 0 ∷ 0 ∷ 0 ∷ [] ++ with_length (wire_of tsig.algorithm ++ written tsig.fields))
