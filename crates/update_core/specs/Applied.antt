-- How an update is carried out: the changes of a zone that its records make, one record after another, and what is told of it
-- (RFC 2136, 3.4 and 3.6).
use Rattle.std.specs.Prelude.{◌≡◌, ◌≢◌, ℕ, ◌+◌, Bool, ◌&&◌, ◌||◌, not, ◌==◌, nat_lt, List, [], ◌∷◌, length, map, if◌then◌else◌, Option, None, Some, Result, Ok, Err}
use Rattle.std.specs.Option.{option_or, is_some}
use Rattle.zone_tree.specs.Limits.{max_records}
use Rattle.dns_name.specs.Name.{Name}
use Rattle.dns_rdata.specs.Numbers.{type_CNAME, type_SOA}
use Rattle.dns_rdata.specs.declared.numbers.Rcode.{Rcode}
use Rattle.dns_rdata.specs.declared.numbers.Rcode.TheVariants.{NoError, ServFail}
use Rattle.dns_rdata.specs.Record.{Record, with_record, owner_of, rtype_of}
use Rattle.dns_rdata.specs.Raw.{RawRecord, ttl_in_zone}
use Rattle.dns_message.specs.declared.update.Update.{Update}
use Rattle.zone_tree.specs.Zone.{KeepsRules, apex_of, rrset_of}
use Rattle.zone_tree.specs.Change.{edited}
use Rattle.zone_tree.specs.Version.{Version, KnowsChanges}
use Rattle.zone_tree.specs.declared.change.Change.{Change}
use Rattle.zone_tree.specs.declared.change.Change.TheVariants.{Remove}
use Rattle.update_core.specs.declared.outcome.Made.{Made}
use Rattle.update_core.specs.declared.outcome.Outcome.{Outcome}
use Rattle.update_core.specs.declared.outcome.Outcome.TheVariants.{Refused, Unchanged, Next, NoMemory}
use Rattle.update_core.specs.declared.rows.ActFault.{ActFault}
use Rattle.update_core.specs.declared.rows.ActFault.TheVariants.{Limit, NoMemory as Starved}
use Rattle.update_core.specs.Verdict.{has_rrset, verdict}
use Rattle.update_core.specs.Act.{entered, has_other_than_alias, is_apex_set, effect, act}

-- a zone of at most 1,000,000 records; none of more (own)
abbrev pub held : List Record → Option (List Record)
held zone = if nat_lt max_records (length zone) then None else Some zone

-- changes of a zone are what one record of an update makes of it
pub record AreOf (zone : List Record) (r : RawRecord) (changes : List Change) : Type 0 where
  pub rules : KeepsRules (edited zone changes)
  pub apex : apex_of (edited zone changes) ≡ apex_of zone
  pub effect : effect zone r ≡ held (edited zone changes)

-- whether an added record would put an alias beside other data, or other data beside an alias (RFC 2136, 3.4.2.2)
abbrev pub is_beside_alias : List Record → RawRecord → Bool
is_beside_alias zone r = (r.rtype == type_CNAME && has_other_than_alias zone r.owner) || (not (r.rtype == type_CNAME) && has_rrset zone r.owner type_CNAME)

-- a set with one more record, of these data octets, each of its records with this TTL (RFC 2181, 5.2)
abbrev pub joined : List Record → ℕ → List ℕ → List Record
joined set ttl octets =
    with_record (record { owner = owner_of set; rtype = rtype_of set; ttl = ttl; rdata = octets }) (map (λ (s : Record). record s { ttl = ttl }) set)

-- the set that stands after an added record: an alias or an SOA alone, and any other record in its set (RFC 2136, 3.4.2.2)
abbrev pub set_behind : List Record → RawRecord → List Record
set_behind zone r =
    if r.rtype == type_CNAME || r.rtype == type_SOA then entered r ∷ []
    else with_record (entered r) (map (λ (s : Record). record s { ttl = ttl_in_zone r.ttl }) (rrset_of zone r.owner r.rtype))

-- whether a set of an owner may be deleted: the apex keeps its SOA and NS (RFC 2136, 3.4.2.3)
abbrev pub may_go : List Record → Name → List Record → Bool
may_go zone owner set = not (is_apex_set zone owner (rtype_of set))

-- the removals of sets of an owner
abbrev pub removals : Name → List (List Record) → List Change
removals owner sets = map (λ set. Remove owner (record { 0 = rtype_of set })) sets

-- the code that an update gets: that of the first rule that it breaks, or SERVFAIL where it passes a limit; None where it is taken
-- (RFC 2136, 3; own)
abbrev pub code_of : List Record → Update → Bool → Option Rcode
code_of zone update may = option_or (verdict zone update may) (if is_some (act zone update) then None else Some ServFail)

-- what is told of an update is so: its code, that it changes nothing, or the version after the one it was sent to, which knows what
-- it changed; where a growth was refused, that it breaks no rule (RFC 2136, 3; RFC 1995, 4)
abbrev pub IsTold : Version → Update → Bool → Outcome → Type 0
IsTold version update may (Refused code) = code_of version.zone update may ≡ Some code
IsTold version update may Unchanged = (verdict version.zone update may ≡ None) × (act version.zone update ≡ Some version.zone)
IsTold version update may (Next next) =
    (verdict version.zone update may ≡ None) × (act version.zone update ≡ Some next.zone) × (next.zone ≢ version.zone) × (next.number ≡ version.number + 1) × KnowsChanges version.zone next
IsTold version update may NoMemory = verdict version.zone update may ≡ None

-- the code that is told of what becomes of an update: a rule's, or SERVFAIL where a limit is passed or memory is wanted; else NOERROR
-- (RFC 2136, 3; own)
abbrev pub code_told : Outcome → Rcode
code_told (Refused code) = code
code_told Unchanged = NoError
code_told (Next next) = NoError
code_told NoMemory = ServFail

-- the version that an update makes, of what becomes of it; none where it makes none
abbrev pub next_of : Outcome → Option Version
next_of (Refused code) = None
next_of Unchanged = None
next_of (Next next) = Some next
next_of NoMemory = None

-- what becomes of an update that breaks no rule, by what its records make: the version of the next number, which knows what it changed; or
-- the version that there is, where they change nothing; SERVFAIL where one passes a limit (RFC 2136, 3.4.2 and 3.6; own)
abbrev pub outcome_of : Version → Result (Option Made) ActFault → Outcome
outcome_of version (Ok (Some made)) = Next (record { number = version.number + 1; zone = made.zone; changes = Some made.delta })
outcome_of version (Ok None) = Unchanged
outcome_of version (Err Limit) = Refused ServFail
outcome_of version (Err Starved) = NoMemory
