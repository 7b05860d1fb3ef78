-- What holds of each answer.
use Rattle.std.specs.Prelude.{◌≡◌, ◌≤◌, Bool, false, ◌&&◌, not, ◌⊎◌, List, [], ◌∷◌, length, None, Some, Any, Contains}
use Rattle.std.specs.List.{list_any}
use Rattle.dns_name.specs.Name.{Name}
use Rattle.dns_rdata.specs.Numbers.{type_A, type_AAAA, type_CNAME}
use Rattle.dns_rdata.specs.Record.{Record}
use Rattle.zone_tree.specs.Zone.{is_of, rrset_of, exists}
use Rattle.lookup_core.specs.Place.{source_of}
use Rattle.lookup_core.specs.Chain.{target}

-- whether a name doesn't exist and the source of synthesis does (RFC 4592, 3.3)
abbrev pub is_synthesized : List Record → Name → Bool
is_synthesized zone name =
    not (exists zone name) && elim (source_of zone name) [ None ↦ false | Some source ↦ exists zone source ]

-- no owner has two aliases (RFC 2181, 10.1)
abbrev pub HasSingleAliases : List Record → Type 0
HasSingleAliases zone = (owner : Name) → length (rrset_of zone owner type_CNAME) ≤ 1

-- a record stands at the name asked, or at the target of one of the aliases
abbrev pub IsReached : Name → List Record → Record → Type 0
IsReached name aliases r = (r.owner ≡ name) ⊎ Any (λ alias. target (alias ∷ []) ≡ r.owner) aliases

-- a record of the zone: an address whose owner and type don't stand in the answer
pub record IsAddition (zone answer : List Record) (r : Record) : Type 0 where
  pub is_present : Contains zone r
  pub address : (r.rtype ≡ type_A) ⊎ (r.rtype ≡ type_AAAA)
  pub apart : list_any (is_of r.owner r.rtype) answer ≡ false
