-- What a holder of a zone holds after a list of records that a transfer sent: a zone, or the fault of the first record that has one
-- (RFC 1995, 4; RFC 5936, 2.2).
use Rattle.std.specs.Prelude.{◌≡◌, ◌++◌, Bool, ◌&&◌, not, ◌==◌, nat_le, List, [], ◌∷◌, length, filter, if◌then◌else◌, Option, Some, None, Result, Ok, Err}
use Rattle.std.specs.Option.{option_map}
use Rattle.std.specs.List.{list_all}
use Rattle.std.specs.Ordering.{nat_cmp, ordering_then, is_lt}
use Rattle.std.specs.declared.cmp.Ordering.{Ordering}
use Rattle.dns_rdata.specs.Limits.{max_data, max_set}
use Rattle.zone_tree.specs.Limits.{max_records}
use Rattle.dns_name.specs.Name.{Name, fold_name, is_under}
use Rattle.dns_rdata.specs.Numbers.{type_NS, type_SOA, class_IN}
use Rattle.dns_rdata.specs.Data.{data_of, serial_of}
use Rattle.dns_rdata.specs.Record.{Record, record_cmp}
use Rattle.dns_rdata.specs.Raw.{RawRecord, ttl_in_zone}
use Rattle.zone_tree.specs.Zone.{apex_of, soa_of, rrset_of, share_ttl, is_alone, is_wild}
use Rattle.zone_tree.specs.Change.{is_same_record}
pub use Rattle.zone_tree.specs.Patch.{is_among}
use Rattle.zone_tree.specs.Version.{zone_serial}
use Rattle.transfer_core.specs.Lists.{beside_soa}
use Rattle.transfer_core.specs.declared.fault.TransferFault.{TransferFault}
use Rattle.transfer_core.specs.declared.fault.TransferFault.TheVariants.{Broken, WrongBase, NotInZone}

-- a sent record as it enters a zone: its owner and the names in its data in lower case; none where it isn't of class IN, its type isn't
-- served or its data haven't that type's form (RFC 1035, 3.3; RFC 4343, 3; own)
abbrev pub entered : RawRecord → Option Record
entered r =
    if r.class == class_IN then option_map (λ octets. record { owner = fold_name r.owner; rtype = r.rtype; ttl = ttl_in_zone r.ttl; rdata = octets }) (data_of r.rtype r.octets)
    else None

-- whether a record is an SOA
abbrev pub is_soa : Record → Bool
is_soa r = r.rtype == type_SOA

-- the order in which a holder keeps records: canonical order, and those that differ in their TTL alone by that (RFC 4034, 6.1 and 6.3;
-- own)
abbrev pub held_cmp : Record → Record → Ordering
held_cmp r s = ordering_then (record_cmp r s) (nat_cmp r.ttl s.ttl)

-- records in this order with one more in its place
abbrev pub inserted : Record → List Record → List Record
inserted r [] = r ∷ []
inserted r (s ∷ ss) = if is_lt (held_cmp r s) then r ∷ s ∷ ss else s ∷ inserted r ss

-- records in canonical order with one more, where equal records are one
abbrev pub joined : Record → List Record → List Record
joined r records = if is_among records r then records else inserted r records

-- records without one
abbrev pub removed : Record → List Record → List Record
removed r records = filter (λ s. not (is_same_record r s)) records

-- where a holder stands in a list
pub data Stage : Type 0 where
  -- after the first SOA
  opened : Stage
  -- among the records of a full list
  gathering : Stage
  -- after an old SOA: records go
  deleting : Stage
  -- after a next SOA: records come
  adding : Stage
  -- after the SOA that closes the list
  closed : Stage

-- how far a holder has read: where it stands, and the records that it holds there
pub record Reading : Type 0 where
  pub stage : Stage
  pub records : List Record

-- a record that was read, with the records that are held then: a fault where its owner is outside, or where a limit is passed: 4,096
-- octets of data, 256 records a set, 1,000,000 records (own)
abbrev pub held : Name → Stage → Record → List Record → Result Reading TransferFault
held apex stage r records =
    if is_under r.owner apex && nat_le (length r.rdata) max_data && nat_le (length (rrset_of records r.owner r.rtype)) max_set && nat_le (length records) max_records
    then Ok (record { stage = stage; records = records })
    else Err NotInZone

-- the closing SOA, which changes nothing
abbrev pub closing : List Record → Result Reading TransferFault
closing records = Ok (record { stage = closed; records = records })

-- an old SOA, which is compared by its serial alone: with it the SOA goes (RFC 1995, 4; own)
abbrev pub old_soa : Name → List Record → Record → Result Reading TransferFault
old_soa apex records r = if serial_of r.rdata == zone_serial records then held apex deleting r (beside_soa records) else Err WrongBase

-- what one record makes of what is held, by the list's first SOA and where the holder stands. After the first SOA, an SOA makes the list
-- incremental, any other record a full one (RFC 1995, 4)
abbrev pub step : Name → Record → Stage → List Record → Record → Result Reading TransferFault
step apex first opened records r =
    if not (is_soa r) then held apex gathering r (joined r (first ∷ []))
    else if is_same_record first r then Err Broken
    else old_soa apex records r
step apex first gathering records r =
    if not (is_soa r) then held apex gathering r (joined r records)
    else if is_same_record first r then closing records
    else Err Broken
step apex first deleting records r =
    if is_soa r then held apex adding r (inserted r records)
    else if is_among records r then held apex deleting r (removed r records)
    else Err WrongBase
step apex first adding records r =
    if is_soa r && is_same_record first r && is_among records r then closing records
    else if is_soa r && is_same_record first r then Err Broken
    else if is_soa r then old_soa apex records r
    else if is_among records r then Err WrongBase
    else held apex adding r (inserted r records)
step apex first closed records r = Err Broken

-- what records in order make of what is held; the fault of the first that has one
abbrev pub steps_through : Name → Record → Reading → List RawRecord → Result Reading TransferFault
steps_through apex first reading [] = Ok reading
steps_through apex first reading (sent ∷ list) =
    elim (entered sent) [
      | None ↦ Err Broken
      | Some r ↦ elim (step apex first reading.stage reading.records r) [
        | Err fault ↦ Err fault
        | Ok next ↦ steps_through apex first next list
      ]
    ]

-- the fault of a sent record, where it has one
abbrev pub fault_of : Name → Record → Reading → RawRecord → Option TransferFault
fault_of apex first reading sent =
    elim (entered sent) [
      | None ↦ Some Broken
      | Some r ↦ elim (step apex first reading.stage reading.records r) [ Err fault ↦ Some fault | Ok next ↦ None ]
    ]

-- a list has a first record with a fault, and this is it: those in front are read, and it isn't
pub record HasFirstFault (apex : Name) (first : Record) (reading : Reading) (list : List RawRecord) (fault : TransferFault) : Type 0 where
  pub front : List RawRecord
  pub sent : RawRecord
  pub back : List RawRecord
  pub behind_front : Reading
  pub parts : list ≡ front ++ sent ∷ back
  pub reads : steps_through apex first reading front ≡ Ok behind_front
  pub refuses : fault_of apex first behind_front sent ≡ Some fault

-- whether records, each of which was held, are a zone of this apex: one TTL in a set; one SOA, and that at the apex; an NS at the apex; an
-- alias alone at its owner; no NS at an owner whose first label is `*` (RFC 1034, 3.6.2 and 4.2.1; RFC 2181, 5.2 and 10.1; RFC 4592, 4.2)
abbrev pub is_zone : Name → List Record → Bool
is_zone apex records =
    list_all (λ r. list_all (share_ttl r) records) records
    && length (soa_of records) == 1 && length (rrset_of records apex type_SOA) == 1
    && not (length (rrset_of records apex type_NS) == 0)
    && list_all (is_alone records) records
    && list_all (λ r. not (is_wild r.owner && r.rtype == type_NS)) records

-- the end of a list: it is closed, and what is held is a zone
abbrev pub ended : Name → Stage → List Record → Result (List Record) TransferFault
ended apex closed records = if is_zone apex records then Ok records else Err NotInZone
ended apex opened records = Err Broken
ended apex gathering records = Err Broken
ended apex deleting records = Err Broken
ended apex adding records = Err Broken

-- what is held after a list that an SOA opens. An SOA alone says that the zone has its serial (RFC 1995, 2)
abbrev pub behind_first : List Record → Record → List RawRecord → Result (List Record) TransferFault
behind_first zone first [] =
    if not (serial_of first.rdata == zone_serial zone) then Err WrongBase
    else if not (is_under first.owner (apex_of zone)) then Err NotInZone
    else Ok zone
behind_first zone first (sent ∷ list) =
    if not (is_under first.owner (apex_of zone)) then Err NotInZone
    else elim (steps_through (apex_of zone) first (record { stage = opened; records = zone }) (sent ∷ list)) [
      | Err fault ↦ Err fault
      | Ok reading ↦ ended (apex_of zone) reading.stage reading.records
    ]

-- what a holder of a zone holds after a list of records: the records of a zone, or the fault of the first record that has one, at one
-- record `Broken` before `WrongBase` before `NotInZone`. That a list isn't closed, or that the records are no zone, is told after its
-- last record (RFC 1995, 4; RFC 5936, 2.2; own)
abbrev pub take : List Record → List RawRecord → Result (List Record) TransferFault
take zone [] = Err Broken
take zone (sent ∷ list) =
    elim (entered sent) [
      | None ↦ Err Broken
      | Some first ↦ if is_soa first then behind_first zone first list else Err Broken
    ]
