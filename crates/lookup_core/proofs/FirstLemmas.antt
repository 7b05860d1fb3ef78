-- What a first look tells of an answer that has one section alone.
use Rattle.std.proofs.Common.{◌≡◌, refl, ap, subst, ◌∙◌, ℕ, Bool, true, false, ◌&&◌, ◌||◌, ◌==◌, not, cond, if◌then◌else◌, List, [], ◌∷◌, ◌++◌, map, take, Option, None, Some, append-nil, eqb-true}
use Rattle.std.specs.List.{flat_map}
use Rattle.dns_rdata.specs.declared.numbers.Rcode.TheVariants.{NoError, NxDomain}
use Rattle.dns_rdata.specs.Numbers.{type_SOA, type_ANY, type_CNAME}
use Rattle.dns_rdata.specs.Record.{Record, shown_as}
use Rattle.zone_tree.specs.Zone.{exists, is_of, rrset_of, rrsets_of, soa_of}
use Rattle.lookup_core.specs.declared.matched.Place.TheVariants as place
use Rattle.lookup_core.specs.Additional.{has_hosts, hosts_in, hosts_of, wanted_sets, each_once, most_sets, additional_of}
use Rattle.lookup_core.specs.Chain.{Found, chain}
use Rattle.lookup_core.specs.First.{alone}
use Rattle.lookup_core.specs.Look.{Look, Alias, Data, NoData, NoName, look, found_at, follows_aliases, owned_by, data_at}
use Rattle.lookup_core.specs.Place.{is_none_of, cut_of, source_of}
use Rattle.lookup_core.specs.Sections.{sections, sections_of, negative_soa, with_negative_ttl}
use Rattle.lookup_core.proofs.AliasLemmas.{begins, ends, is_alias}
use Rattle.lookup_core.proofs.LawLemmas.{and_right, by_name, by_source, by_test, look_by}

-- a chain without aliases
chain_found : (zone : List Record) (name : List (List ℕ)) (rtype : ℕ) (found : Look) → look zone name rtype ≡ found → is_alias found ≡ false → chain zone name rtype ≡ record { aliases = []; end = Found found }
chain_found zone name rtype found is other = (ends zone name rtype [] 15 name found (Found found) (begins zone name rtype 16 refl) is other refl).chain

-- records of a type whose data name no hosts
pub no_host : (r : Record) → has_hosts r.rtype ≡ false → hosts_in r.rtype r.rdata ≡ []
no_host r none = rw none refl

no_hosts_by : (at name : List (List ℕ)) (rtype : ℕ) (r : Record) (rs : List Record) (b : Bool) → is_of at rtype r ≡ b → has_hosts rtype ≡ false → hosts_of (owned_by name rs) ≡ []
    → hosts_of (owned_by name (cond b (r ∷ rs) rs)) ≡ []
no_hosts_by at name rtype r rs true is none rest =
    let same : r.rtype ≡ rtype = eqb-true r.rtype rtype (and_right _ (r.rtype == rtype) is) in
    ap (λ hosts. hosts ++ hosts_of (owned_by name rs)) (no_host (shown_as name None r) (ap has_hosts same ∙ none)) ∙ rest
no_hosts_by at name rtype r rs false is none rest = rest

no_hosts_at : (zone : List Record) (at name : List (List ℕ)) (rtype : ℕ) → has_hosts rtype ≡ false → hosts_of (owned_by name (rrset_of zone at rtype)) ≡ []
no_hosts_at [] at name rtype none = refl
no_hosts_at (r ∷ rs) at name rtype none = no_hosts_by at name rtype r (rrset_of rs at rtype) (is_of at rtype r) refl none (no_hosts_at rs at name rtype none)

soa_hosts_by : (r : Record) (rs : List Record) (b : Bool) → (r.rtype == type_SOA) ≡ b → hosts_of (map with_negative_ttl rs) ≡ [] → hosts_of (map with_negative_ttl (cond b (r ∷ rs) rs)) ≡ []
soa_hosts_by r rs true is rest =
    let same : r.rtype ≡ type_SOA = eqb-true r.rtype type_SOA is in
    ap (λ hosts. hosts ++ hosts_of (map with_negative_ttl rs)) (no_host (with_negative_ttl r) (ap has_hosts same)) ∙ rest
soa_hosts_by r rs false is rest = rest

soa_hosts : (zone : List Record) → hosts_of (negative_soa zone) ≡ []
soa_hosts [] = refl
soa_hosts (r ∷ rs) = soa_hosts_by r (soa_of rs) (r.rtype == type_SOA) refl (soa_hosts rs)

-- no address comes along where no host is named
pub no_additional : (zone answer authority : List Record) → hosts_of (answer ++ authority) ≡ [] → additional_of zone answer authority ≡ []
no_additional zone answer authority none = ap (λ hosts. flat_map (λ set. set) (take most_sets (each_once [] (wanted_sets zone answer hosts)))) none

-- data of such a type
abbrev IsPlain : Look → Type 0
IsPlain (Data rs) = hosts_of rs ≡ []
IsPlain _ = Unit {0}

module _ (zone : List Record) (name : List (List ℕ)) (rtype : ℕ) (none : has_hosts rtype ≡ false) (one : (rtype == type_ANY) ≡ false) where
  data_plain : (at : List (List ℕ)) → hosts_of (owned_by name (data_at zone at rtype)) ≡ []
  data_plain at = ap (λ b. hosts_of (owned_by name (cond b (rrsets_of zone at) (rrset_of zone at rtype)))) one ∙ no_hosts_at zone at name rtype none

  found_plain : (at : List (List ℕ)) → IsPlain (found_at zone at name rtype)
  found_plain at =
      by_test IsPlain (follows_aliases rtype && not (is_none_of (rrset_of zone at type_CNAME))) (Alias (owned_by name (rrset_of zone at type_CNAME)))
      (if is_none_of (data_at zone at rtype) then NoData else Data (owned_by name (data_at zone at rtype))) (λ _. tt)
      (λ _. by_test IsPlain (is_none_of (data_at zone at rtype)) NoData (Data (owned_by name (data_at zone at rtype))) (λ _. tt) (λ _. data_plain at))

  source_plain : (source : Option (List (List ℕ))) → IsPlain (look_by zone name rtype (by_source zone source))
  source_plain None = tt
  source_plain (Some s) = by_test (λ p. IsPlain (look_by zone name rtype p)) (exists zone s) (place.Wild s) place.Missing (λ _. found_plain s) (λ _. tt)

  look_plain : IsPlain (look zone name rtype)
  look_plain =
      elim (cut_of zone name) as (λ o. IsPlain (look_by zone name rtype (elim o [ Some cut ↦ place.Cut cut | None ↦ by_name zone (exists zone name) (source_of zone name) ]))) [
        | Some cut ↦ tt
        | None ↦
            by_test (λ p. IsPlain (look_by zone name rtype p)) (exists zone name) place.Exact (by_source zone (source_of zone name)) (λ _. found_plain name)
            (λ _. source_plain (source_of zone name))
      ]

-- so data are an answer alone, and the SOA is one where there is no data or no name
or_true : (b : Bool) → (b || true) ≡ true
or_true true = refl
or_true false = refl

pub data_alone : (zone : List Record) (name : List (List ℕ)) (rtype : ℕ) (rs : List Record) → has_hosts rtype ≡ false → (rtype == type_ANY) ≡ false → look zone name rtype ≡ Data rs → sections zone name rtype ≡ alone NoError rs []
data_alone zone name rtype rs none one is =
    let plain : hosts_of rs ≡ [] = subst IsPlain is (look_plain zone name rtype none one) in
    ap (sections_of zone) (chain_found zone name rtype (Data rs) is refl)
    ∙ ap (λ b. record { rcode = NoError; aa = b; answer = rs; authority = []; additional = additional_of zone rs []; below_cut = false }) (or_true (not (is_none_of rs)))
    ∙ ap (λ added. record { rcode = NoError; aa = true; answer = rs; authority = []; additional = added; below_cut = false })
    (no_additional zone rs [] (ap hosts_of (append-nil rs) ∙ plain))

pub no_data_alone : (zone : List Record) (name : List (List ℕ)) (rtype : ℕ) → look zone name rtype ≡ NoData → sections zone name rtype ≡ alone NoError [] (negative_soa zone)
no_data_alone zone name rtype is =
    ap (sections_of zone) (chain_found zone name rtype NoData is refl)
    ∙ ap (λ added. record { rcode = NoError; aa = true; answer = []; authority = negative_soa zone; additional = added; below_cut = false }) (no_additional zone [] (negative_soa zone) (soa_hosts zone))

pub no_name_alone : (zone : List Record) (name : List (List ℕ)) (rtype : ℕ) → look zone name rtype ≡ NoName → sections zone name rtype ≡ alone NxDomain [] (negative_soa zone)
no_name_alone zone name rtype is =
    ap (sections_of zone) (chain_found zone name rtype NoName is refl)
    ∙ ap (λ added. record { rcode = NxDomain; aa = true; answer = []; authority = negative_soa zone; additional = added; below_cut = false }) (no_additional zone [] (negative_soa zone) (soa_hosts zone))

pub neither : (a b : Bool) → (a || b) ≡ false → (a ≡ false) × (b ≡ false)
neither true b e = absurd (cc)
neither false b e = (refl, e)
