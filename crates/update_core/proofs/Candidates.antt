-- The zones that the rows of an update make, and the conditions of those that add.
use Rattle.std.proofs.Common.{◌≡◌, true, false, not, ◌&&◌, ◌||◌, ◌==◌, List, filter, bytes_eq}
use Rattle.dns_rdata.specs.Numbers.{type_CNAME, type_SOA, class_IN}
use Rattle.dns_rdata.specs.Record.{Record}
use Rattle.dns_rdata.specs.Raw.{RawRecord, ttl_in_zone}
use Rattle.zone_tree.specs.Zone.{KeepsRules, is_of, stands_at, apex_of}
use Rattle.zone_tree.specs.Change.{without_rrset}
use Rattle.update_core.specs.Verdict.{has_rrset}
use Rattle.update_core.specs.Act.{entered, with_one, with_ttl, has_other_than_alias, has_lesser_soa, is_apex_set, is_last_apex_record}

-- a record in the place of those of its owner and type
abbrev pub put_in : List Record → RawRecord → List Record
put_in zone r = with_one (entered r) (without_rrset zone r.owner r.rtype)

-- a record among those of its owner and type
abbrev pub added_to : List Record → RawRecord → List Record
added_to zone r = with_one (entered r) (with_ttl zone r.owner r.rtype (ttl_in_zone r.ttl))

-- no records of an owner, of an owner and a type, and of an owner, a type and data, but for those that the apex keeps
abbrev pub without_all : List Record → RawRecord → List Record
without_all zone r = filter (λ s. not (stands_at r.owner s) || is_apex_set zone s.owner s.rtype) zone

abbrev pub without_set : List Record → RawRecord → List Record
without_set zone r = filter (λ s. not (is_of r.owner r.rtype s) || is_apex_set zone s.owner s.rtype) zone

abbrev pub without_record : List Record → RawRecord → List Record
without_record zone r = filter (λ s. not (is_of r.owner r.rtype s && bytes_eq r.octets s.rdata) || is_last_apex_record zone s.owner s.rtype) zone

-- the rules of a zone are kept, and its apex
pub record Keeps (zone next : List Record) : Type 0 where
  pub rules : KeepsRules next
  pub apex : apex_of next ≡ apex_of zone

-- an alias or an SOA takes the place of those that are there
pub record IsPut (zone : List Record) (r : RawRecord) : Type 0 where
  pub class : (r.class == class_IN) ≡ true
  pub one : r.rtype == type_CNAME || r.rtype == type_SOA ≡ true
  pub no_other : r.rtype == type_CNAME && has_other_than_alias zone r.owner ≡ false
  pub no_alias : not (r.rtype == type_CNAME) && has_rrset zone r.owner type_CNAME ≡ false
  pub lesser : r.rtype == type_SOA && not (has_lesser_soa zone r) ≡ false

-- any other record is added
pub record IsAdded (zone : List Record) (r : RawRecord) : Type 0 where
  pub class : (r.class == class_IN) ≡ true
  pub many : r.rtype == type_CNAME || r.rtype == type_SOA ≡ false
  pub no_alias : has_rrset zone r.owner type_CNAME ≡ false
