-- Whether an update is taken: the first rule that gives a code ends it, in the order of the zone section, the
-- prerequisites, the permission and the prescan (RFC 2136, 3.1 to 3.4.1).
use Rattle.std.specs.Prelude.{ℕ, Bool, ◌&&◌, ◌||◌, not, ◌==◌, List, [], ◌∷◌, length, filter, bytes_eq, if◌then◌else◌, Option, None, Some}
use Rattle.std.specs.Option.{option_or, is_some}
use Rattle.std.specs.List.{list_any, list_all}
use Rattle.dns_name.specs.Name.{Name, is_same, is_under}
use Rattle.dns_rdata.specs.declared.numbers.Rcode.{Rcode}
use Rattle.dns_rdata.specs.declared.numbers.Rcode.TheVariants.{FormErr, NxDomain, Refused, YXDomain, YXRRSet, NXRRSet, NotAuth, NotZone}
use Rattle.dns_rdata.specs.Numbers.{type_NS, type_SOA, type_ANY, class_IN, class_NONE, class_ANY}
use Rattle.dns_rdata.specs.Layout.{layout_of}
use Rattle.dns_rdata.specs.Data.{data_of}
use Rattle.dns_rdata.specs.Record.{Record, has_data}
use Rattle.dns_rdata.specs.Raw.{RawRecord}
use Rattle.dns_message.specs.declared.update.Update.{Update}
use Rattle.dns_message.specs.declared.update.ZoneEntry.{ZoneEntry}
use Rattle.zone_tree.specs.Zone.{apex_of, rrset_of, rrsets_of, is_wild}

-- whether a name is in use: it owns a record. An empty non-terminal isn't (RFC 2136, 2.4.4)
abbrev pub is_in_use : List Record → Name → Bool
is_in_use zone name = not (length (rrsets_of zone name) == 0)

-- whether a set exists (RFC 2136, 2.4.1)
abbrev pub has_rrset : List Record → Name → ℕ → Bool
has_rrset zone name rtype = not (length (rrset_of zone name rtype) == 0)

-- whether there is data
abbrev pub is_empty : RawRecord → Bool
is_empty r = length r.octets == 0

-- the first code that a test gives of records in order
abbrev pub first_code : (RawRecord → Option Rcode) → List RawRecord → Option Rcode
first_code test [] = None
first_code test (r ∷ rs) = option_or (test r) (first_code test rs)

-- the zone section: one entry of type SOA, which names the zone's apex and class IN (RFC 2136, 3.1.1 and 3.1.2)
abbrev pub zone_section : List Record → ZoneEntry → Option Rcode
zone_section zone entry =
    if not (entry.rtype.0 == type_SOA) then Some FormErr
    else if not (is_same entry.name (apex_of zone)) then Some NotAuth
    else if not (entry.class.0 == class_IN) then Some NotAuth
    else None

-- one prerequisite by itself (RFC 2136, 3.2.1, 3.2.2 and 3.2.5)
abbrev pub prerequisite : List Record → RawRecord → Option Rcode
prerequisite zone r =
    if not (r.ttl == 0) then Some FormErr
    else if not (is_under r.owner (apex_of zone)) then Some NotZone
    else if r.class == class_ANY && not (is_empty r) then Some FormErr
    else if r.class == class_ANY && r.rtype == type_ANY && not (is_in_use zone r.owner) then Some NxDomain
    else if r.class == class_ANY && not (r.rtype == type_ANY) && not (has_rrset zone r.owner r.rtype) then Some NXRRSet
    else if r.class == class_NONE && not (is_empty r) then Some FormErr
    else if r.class == class_NONE && r.rtype == type_ANY && is_in_use zone r.owner then Some YXDomain
    else if r.class == class_NONE && not (r.rtype == type_ANY) && has_rrset zone r.owner r.rtype then Some YXRRSet
    else if not (r.class == class_ANY || r.class == class_NONE || r.class == class_IN) then Some FormErr
    else None

-- whether a prerequisite is one of those of class IN that are gathered under an owner and type (RFC 2136, 3.2.3)
abbrev pub is_gathered : Name → ℕ → RawRecord → Bool
is_gathered name rtype r = r.class == class_IN && is_same r.owner name && r.rtype == rtype

-- whether sent records and a set have the same data, TTLs apart (RFC 2136, 2.4.2)
abbrev pub have_same_data : List RawRecord → List Record → Bool
have_same_data sent set = list_all (λ r. has_data set r.octets) sent && list_all (λ s. list_any (λ r. bytes_eq r.octets s.rdata) sent) set

-- whether the prerequisites gathered under a record's owner and type are the zone's set (RFC 2136, 3.2.3)
abbrev pub is_met : List Record → List RawRecord → RawRecord → Bool
is_met zone sent r = have_same_data (filter (is_gathered r.owner r.rtype) sent) (rrset_of zone r.owner r.rtype)

-- whether each set that is gathered is the zone's
abbrev pub are_met : List Record → List RawRecord → Bool
are_met zone sent = list_all (λ r. not (r.class == class_IN) || is_met zone sent r) sent

-- the prerequisites: each by itself in order, and then the gathered sets (RFC 2136, 3.2)
abbrev pub prerequisites : List Record → List RawRecord → Option Rcode
prerequisites zone sent = option_or (first_code (prerequisite zone) sent) (if are_met zone sent then None else Some NXRRSet)

-- the permission (RFC 2136, 3.3)
abbrev pub permission : Bool → Option Rcode
permission may = if may then None else Some Refused

-- whether a type is one that records of a zone can have: any but a metatype (RFC 2136, 3.4.1.2; RFC 3597, 3)
abbrev pub is_recognised : ℕ → Bool
is_recognised rtype = is_some (layout_of rtype)

-- whether records of a zone can have a record's type, and its data have that type's form, as those of each update that is read have (own)
abbrev pub has_form : RawRecord → Bool
has_form r = is_some (data_of r.rtype r.octets)

-- one record of the prescan (RFC 2136, 3.4.1; which code each test gives is a choice of ours)
abbrev pub prescan_of : List Record → RawRecord → Option Rcode
prescan_of zone r =
    if not (is_under r.owner (apex_of zone)) then Some NotZone
    else if r.class == class_IN && not (has_form r) then Some FormErr
    else if r.class == class_IN && r.rtype == type_NS && is_wild r.owner then Some Refused
    else if r.class == class_ANY && (not (r.ttl == 0) || not (is_empty r) || not (r.rtype == type_ANY || is_recognised r.rtype)) then Some FormErr
    else if r.class == class_NONE && (not (r.ttl == 0) || not (has_form r)) then Some FormErr
    else if not (r.class == class_IN || r.class == class_ANY || r.class == class_NONE) then Some FormErr
    else None

-- the prescan: each record of the update section in order (RFC 2136, 3.4.1)
abbrev pub prescan : List Record → List RawRecord → Option Rcode
prescan zone sent = first_code (prescan_of zone) sent

-- what is asked of an update before its peer's permission: its zone section and its prerequisites (RFC 2136, 3.1 and 3.2)
abbrev pub check : List Record → Update → Option Rcode
check zone update = option_or (zone_section zone update.zone) (prerequisites zone update.prerequisites)

-- the code that an update gets before it changes anything: that of the first rule that gives one; None where each rule lets
-- it through (RFC 2136, 3)
abbrev pub verdict : List Record → Update → Bool → Option Rcode
verdict zone update may = option_or (check zone update) (option_or (permission may) (prescan zone update.updates))
