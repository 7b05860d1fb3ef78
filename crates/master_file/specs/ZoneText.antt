-- A zone's text as a zone, or the fault that is told of it (RFC 1035, 5.1 and 5.2; RFC 2181, 5.2 and 10.1).
use Rattle.std.specs.Prelude.{ℕ, Bool, true, false, ◌&&◌, ◌||◌, not, ◌==◌, nat_lt, List, [], ◌∷◌, length, map, if◌then◌else◌, Option, Some, None, Result, Ok, Err}
use Rattle.std.specs.BTreeSet.{insert_key}
use Rattle.std.specs.List.{list_any}
use Rattle.std.specs.Ordering.{is_eq}
use Rattle.dns_rdata.specs.Limits.{max_set}
use Rattle.zone_tree.specs.Limits.{max_records}
use Rattle.dns_name.specs.Name.{Name, is_under, fold_name}
use Rattle.dns_rdata.specs.Numbers.{type_NS, type_CNAME, type_SOA}
use Rattle.dns_rdata.specs.Record.{Record, record_cmp}
use Rattle.zone_tree.specs.Zone.{stands_at, is_of, rrset_of, soa_of, apex_of, is_wild}
use Rattle.record_text.specs.declared.cause.Cause.{Cause}
use Rattle.record_text.specs.declared.cause.Cause.TheVariants.{Outside, Apex, Conflict, Limit}
use Rattle.master_file.specs.declared.fault.FileFault.{FileFault}
use Rattle.master_file.specs.declared.record_entry.RecordEntry.{RecordEntry}
use Rattle.master_file.specs.Records.{Read, records_of}

-- a record of a text, without its line
abbrev pub record_in : RecordEntry → Record
record_in rr = record { owner = rr.owner; rtype = rr.rdata.rtype; ttl = rr.ttl.0; rdata = rr.rdata.octets }

-- records in canonical order with one more; records of equal owner, type and data are one (RFC 2181, 5)
abbrev pub with_one : List Record → RecordEntry → List Record
with_one kept rr = insert_key record_cmp kept (record_in rr)

-- records in canonical order with those of a text
abbrev pub with_all : List Record → List RecordEntry → List Record
with_all kept [] = kept
with_all kept (rr ∷ rest) = with_all (with_one kept rr) rest

-- the line of the first record of a text that a test shows, which sees the records read before it, in canonical order
abbrev pub first_line : (List Record → RecordEntry → Bool) → List Record → List RecordEntry → Option ℕ
first_line test kept [] = None
first_line test kept (rr ∷ rest) = if test kept rr then Some rr.line else first_line test (with_one kept rr) rest

-- whether a record isn't read before
abbrev pub is_new : List Record → RecordEntry → Bool
is_new kept rr = not (list_any (λ r. is_eq (record_cmp (record_in rr) r)) kept)

-- whether a record is one too many: of its owner and type, or in all (own)
abbrev pub is_too_many : List Record → RecordEntry → Bool
is_too_many kept rr = is_new kept rr
    && (length (rrset_of kept rr.owner rr.rdata.rtype) == max_set || length kept == max_records)

-- whether a record is an SOA beside another (RFC 1035, 5.2)
abbrev pub is_second_soa : List Record → RecordEntry → Bool
is_second_soa kept rr = is_new kept rr && (rr.rdata.rtype == type_SOA && nat_lt 0 (length (soa_of kept)))

-- whether a record is an alias beside other data, or other data beside an alias (RFC 1034, 3.6.2; RFC 2181, 10.1)
abbrev pub is_beside_alias : List Record → RecordEntry → Bool
is_beside_alias kept rr = is_new kept rr
    && ((rr.rdata.rtype == type_CNAME && list_any (stands_at rr.owner) kept) || nat_lt 0 (length (rrset_of kept rr.owner type_CNAME)))

-- whether a record is in conflict with those before it, or is an NS at an owner whose first label is `*` (own)
abbrev pub is_conflict : List Record → RecordEntry → Bool
is_conflict kept rr = is_beside_alias kept rr || (is_wild rr.owner && rr.rdata.rtype == type_NS)

-- the line of the first record that isn't at or below the apex (RFC 1035, 5.2)
abbrev pub outside_line : Name → List RecordEntry → Option ℕ
outside_line apex [] = None
outside_line apex (rr ∷ rest) = if is_under rr.owner apex then outside_line apex rest else Some rr.line

-- a record with the TTL of the last record of a text that has its owner and type (RFC 2181, 5.2)
abbrev pub timed : List RecordEntry → Record → Record
timed [] r = r
timed (rr ∷ rest) r = timed rest (if is_of r.owner r.rtype (record_in rr) then record r { ttl = rr.ttl.0 } else r)

-- a record with its owner in lower case (RFC 4343, 3)
abbrev pub in_lower : Record → Record
in_lower r = record r { owner = fold_name r.owner }

-- the records of a text as a zone's: distinct, in canonical order, with one TTL in a set
abbrev pub zone_records : List RecordEntry → List Record
zone_records rrs = map (λ r. in_lower (timed rrs r)) (with_all [] rrs)

-- a fault, at a line that shows it, or else what follows
abbrev pub reported : Cause → Option ℕ → Result (List Record) FileFault → Result (List Record) FileFault
reported cause None next = next
reported cause (Some line) next = Err (record { line = line; cause = cause })

-- and at line 0 where a test shows it
abbrev pub told_whole : Bool → Result (List Record) FileFault → Result (List Record) FileFault
told_whole true next = Err (record { line = 0; cause = Apex })
told_whole false next = next

-- the zone of a text's records: a second SOA, no SOA, no NS at the apex, an owner outside the apex and a conflict are
-- tried in this order (own)
abbrev pub zone_of_all : List RecordEntry → Result (List Record) FileFault
zone_of_all rrs = let kept = with_all [] rrs in
    reported Apex (first_line is_second_soa [] rrs)
    (told_whole (length (soa_of kept) == 0)
    (told_whole (length (rrset_of kept (apex_of kept) type_NS) == 0)
    (reported Outside (outside_line (apex_of kept) rrs)
    (reported Conflict (first_line is_conflict [] rrs)
    (Ok (zone_records rrs))))))

-- the zone of what is read of a text: a record too many stands before a fault of the text
abbrev pub zone_of_read : Read → Result (List Record) FileFault
zone_of_read read = reported Limit (first_line is_too_many [] read.rrs) (elim read.fault [ Some fault ↦ Err fault | None ↦ zone_of_all read.rrs ])

-- the zone of a text, or the fault that is told (RFC 1035, 5)
abbrev pub zone_of_text : Name → List ℕ → Result (List Record) FileFault
zone_of_text origin text = zone_of_read (records_of origin text)
