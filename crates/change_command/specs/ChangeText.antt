-- What changes from one zone to another, as text (own).
use Rattle.std.specs.Prelude.{ℕ, List, [], ◌∷◌, ◌++◌, codes, flat_map, if◌then◌else◌}
use Rattle.std.specs.Cmp.Lexicographic.{pointwise}
use Rattle.hex.specs.Hex.{encode_lower}
use Rattle.dns_rdata.specs.Record.{Record}
use Rattle.zone_tree.specs.Zone.{soa_of}
use Rattle.zone_tree.specs.Change.{is_same_record, left_out}
use Rattle.master_file.specs.WrittenZone.{record_line}
use Rattle.zone_change.specs.Change.{aimed, change_to}
use Rattle.zone_change.specs.Message.{message_octets}

-- a record's line (RFC 1035, 5.1) after a sign
abbrev pub signed_line : List ℕ → Record → List ℕ
signed_line sign r = sign ++ record_line r

-- what goes from a zone to the one that a change leads to, and what comes, the SOA first in both
abbrev pub differences : List Record → List Record → List ℕ
differences old next =
    flat_map (signed_line (codes "- ")) (soa_of old ++ left_out old next) ++ flat_map (signed_line (codes "+ ")) (soa_of next ++ left_out next old)

-- the same of two zones, where the change leads to the zone that `aimed` tells; nothing where nothing changes
abbrev pub change_text : List Record → List Record → List ℕ
change_text old next = if pointwise is_same_record old (aimed old next) then [] else differences old (aimed old next)

-- the message of the update in hexadecimal, on a line; nothing where nothing changes
abbrev pub change_hex : List Record → List Record → List ℕ
change_hex old next = if pointwise is_same_record old (aimed old next) then [] else encode_lower (message_octets (change_to old next)) ++ 10 ∷ []
