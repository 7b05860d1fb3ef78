-- The records of a change pass the prescan, and are records as they are read (RFC 2136, 3.4.1).
use Rattle.std.proofs.Common.{◌≡◌, refl, sym, ap, ◌∙◌, Bool, true, false, ◌&&◌, ◌==◌, List, [], ◌∷◌, map, All, None}
use Rattle.std.specs.List.{AllByRecursion}
use Rattle.std.proofs.lemmas.List.Elements.{All-from_recursion, recursion_from_All}
use Rattle.dns_name.specs.Name.{is_under}
use Rattle.dns_rdata.specs.Numbers.{type_NS}
use Rattle.dns_rdata.specs.Record.{Record, IsLawful}
use Rattle.dns_rdata.specs.Raw.{RawRecord}
use Rattle.zone_tree.specs.Zone.{IsZone, apex_of, is_wild}
use Rattle.zone_tree.proofs.Rising.{each_weaker, each_map}
use Rattle.update_core.specs.Verdict.{prescan_of, prescan}
use Rattle.update_core.specs.Act.{IsSent}
use Rattle.zone_change.specs.Change.{put_in, taken_out}
use Rattle.zone_change.proofs.Lists.{IsIn, each_in}

-- what an update's record of a zone of this apex has
pub record IsHomely (zone : List Record) (r : Record) : Type 0 where
  pub lawful : IsLawful r
  pub under : is_under r.owner (apex_of zone) ≡ true
  pub tame : is_wild r.owner && r.rtype == type_NS ≡ false

pub homely : (zone other : List Record) → IsZone other → apex_of other ≡ apex_of zone → (r : Record) → IsIn r other → IsHomely zone r
homely zone other h apex r k = record {
  lawful = each_in IsLawful other r (recursion_from_All IsLawful other h.rules.lawful) k;
  under = ap (is_under r.owner) (sym apex) ∙ each_in (λ s. is_under s.owner (apex_of other) ≡ true) other r (recursion_from_All (λ s. is_under s.owner (apex_of other) ≡ true) other h.rules.under_apex) k;
  tame = each_in (λ s. is_wild s.owner && s.rtype == type_NS ≡ false) other r (recursion_from_All (λ s. is_wild s.owner && s.rtype == type_NS ≡ false) other h.rules.no_wild_cuts) k;
}

swapped : (a b : Bool) → (a && b) ≡ false → (b && a) ≡ false
swapped true true e = e
swapped true false e = refl
swapped false true e = refl
swapped false false e = refl

pub added_passes : (zone : List Record) (r : Record) → IsHomely zone r → prescan_of zone (put_in r) ≡ None
added_passes zone r h = rw (h.under, h.lawful.form, swapped (is_wild r.owner) (r.rtype == type_NS) h.tame) refl

pub deleted_passes : (zone : List Record) (r : Record) → IsHomely zone r → prescan_of zone (taken_out r) ≡ None
deleted_passes zone r h = rw (h.under, h.lawful.form) refl

pub added_sent : (r : Record) → IsLawful r → IsSent (put_in r)
added_sent r h = record { name = h.name; owner_octets = h.owner_octets; octets = h.octets }

pub deleted_sent : (r : Record) → IsLawful r → IsSent (taken_out r)
deleted_sent r h = record { name = h.name; owner_octets = h.owner_octets; octets = h.octets }

-- records that each pass
abbrev pub Passes : List Record → RawRecord → Type 0
Passes zone r = (prescan_of zone r ≡ None) × IsSent r

pub all_pass : (zone : List Record) (rs : List RawRecord) → AllByRecursion (Passes zone) rs → prescan zone rs ≡ None
all_pass zone [] h = refl
all_pass zone (r ∷ rs) h = rw (h.0.0) (all_pass zone rs h.1)

pub all_sent : (zone : List Record) (rs : List RawRecord) → AllByRecursion (Passes zone) rs → All IsSent rs
all_sent zone rs h = All-from_recursion IsSent rs (each_weaker (Passes zone) IsSent (λ r p. p.1) rs h)

pub added_all : (zone : List Record) (rs : List Record) → AllByRecursion (IsHomely zone) rs → AllByRecursion (Passes zone) (map put_in rs)
added_all zone rs h = each_map (Passes zone) put_in rs (each_weaker (IsHomely zone) (λ r. Passes zone (put_in r)) (λ r k. (added_passes zone r k, added_sent r k.lawful)) rs h)

pub deleted_all : (zone : List Record) (rs : List Record) → AllByRecursion (IsHomely zone) rs → AllByRecursion (Passes zone) (map taken_out rs)
deleted_all zone rs h = each_map (Passes zone) taken_out rs (each_weaker (IsHomely zone) (λ r. Passes zone (taken_out r)) (λ r k. (deleted_passes zone r k, deleted_sent r k.lawful)) rs h)
