-- The SOA of a negative answer.
use Rattle.std.proofs.Common.{◌≡◌, ℕ, min, List, [], ◌∷◌, map, length, All, Some, true, ◌==◌, get_or, refl, sym, ap, subst, ◌∙◌, arith, append-nil}
use Rattle.std.specs.List.{flat_map}
use Rattle.std.proofs.lemmas.Bool.{eqb-true}
use Rattle.std.proofs.lemmas.List.Elements.{All-cons, filter_passes}
use Rattle.dns_rdata.specs.Numbers.{type_SOA}
use Rattle.dns_rdata.specs.Data.{Data, minimum_of}
use Rattle.dns_rdata.specs.Record.{Record, shown_as, owner_of, rtype_of, records_with}
use Rattle.zone_tree.specs.Zone.{soa_of}
use Rattle.lookup_core.specs.Sections.{with_negative_ttl, negative_soa}

-- one record shown with its negative TTL
only_with_negative_ttl : (soa : List Record) (ttl : ℕ) → length soa ≡ 1 → All (λ r. min r.ttl (minimum_of r.rdata) ≡ ttl) soa
    → map (shown_as (owner_of soa) (Some ttl)) soa ≡ map with_negative_ttl soa
only_with_negative_ttl [] ttl one lesser = refl
only_with_negative_ttl (r ∷ []) ttl one lesser = ap (λ t. record r { ttl = t } ∷ []) (sym (lesser 0 r (omega arith)))
only_with_negative_ttl (r ∷ s ∷ rs) ttl one lesser = absurd (omega arith)

-- the zone's SOA, shown with its negative TTL
pub negative_soa-shown : (zone soa : List Record) (sets : List (List Record)) (ttl : ℕ) → soa ≡ soa_of zone → sets ≡ soa ∷ [] → length soa ≡ 1 → All (λ r. min r.ttl (minimum_of r.rdata) ≡ ttl) soa
    → map (shown_as (owner_of soa) (Some ttl)) (flat_map (λ set. set) sets) ≡ negative_soa zone
negative_soa-shown zone soa sets ttl is alone one lesser =
    ap (λ all. map (shown_as (owner_of soa) (Some ttl)) (flat_map (λ set. set) all)) alone
    ∙ ap (map (shown_as (owner_of soa) (Some ttl))) (append-nil soa) ∙ only_with_negative_ttl soa ttl one lesser ∙ ap (map with_negative_ttl) is

-- the type of a set of one record
rtype_of_only : (rs : List Record) → length rs ≡ 1 → All (λ r. (r.rtype == type_SOA) ≡ true) rs → rtype_of rs ≡ type_SOA
rtype_of_only [] one typed = absurd (omega arith)
rtype_of_only (r ∷ rs) one typed = eqb-true r.rtype type_SOA (typed 0 r (omega arith))

-- what the zone's SOA has for a type
pub rtype_of-soa_of : (zone soa : List Record) → soa ≡ soa_of zone → length soa ≡ 1 → rtype_of soa ≡ type_SOA
rtype_of-soa_of zone soa is one = rtype_of_only soa one (subst (All (λ r. (r.rtype == type_SOA) ≡ true)) (sym is) (filter_passes (λ r. r.rtype == type_SOA) zone))

-- the negative TTL of a set of one record, by the record's data
pub lesser_of_only : (soa : List Record) (owner : List (List ℕ)) (rtype ttl : ℕ) (ds : List Data) (d : Data) (lesser : ℕ) → soa ≡ records_with owner rtype ttl ds → length soa ≡ 1 → d ≡ get_or ds 0 d
    → lesser ≡ min ttl (minimum_of d.octets) → All (λ r. min r.ttl (minimum_of r.rdata) ≡ lesser) soa
lesser_of_only soa owner rtype ttl [] d lesser is one first same = absurd (omega (arith, ap length is))
lesser_of_only soa owner rtype ttl (e ∷ []) d lesser is one first same =
    subst (All (λ r. min r.ttl (minimum_of r.rdata) ≡ lesser)) (sym is)
    (All-cons (λ r. min r.ttl (minimum_of r.rdata) ≡ lesser) _ [] (ap (λ c. min ttl (minimum_of c.octets)) (sym first) ∙ sym same) (λ k r below. absurd (omega arith)))
lesser_of_only soa owner rtype ttl (e ∷ f ∷ ds) d lesser is one first same = absurd (omega (arith, ap length is))
