-- What changes make of the zone that they were made of (RFC 1995, 4).
use Rattle.std.specs.Prelude.{Bool, not, List, [], ◌∷◌, filter, if◌then◌else◌}
use Rattle.std.specs.List.{list_any}
use Rattle.std.specs.Ordering.{is_lt}
use Rattle.dns_rdata.specs.Record.{Record, record_cmp}
use Rattle.zone_tree.specs.Change.{is_same_record}
use Rattle.zone_tree.specs.Delta.{other_than_soa}
use Rattle.zone_tree.specs.Version.{Changes}

-- whether a record, its TTL included, is among others
abbrev pub is_among : List Record → Record → Bool
is_among records r = list_any (is_same_record r) records

-- records in canonical order with one more in its place, and with several more (RFC 4034, 6.1 and 6.3)
abbrev pub inserted : Record → List Record → List Record
inserted r [] = r ∷ []
inserted r (s ∷ ss) = if is_lt (record_cmp r s) then r ∷ s ∷ ss else s ∷ inserted r ss

abbrev pub with_all : List Record → List Record → List Record
with_all [] zone = zone
with_all (r ∷ rs) zone = inserted r (with_all rs zone)

-- changes put on a zone: it loses its SOA and the deletions, and gains another SOA and the additions (RFC 1995, 4)
abbrev pub put : List Record → Changes → List Record → List Record
put zone changes soa = with_all changes.additions (with_all soa (filter (λ r. not (is_among changes.deletions r)) (other_than_soa zone)))
