-- The type of a zone's SOA.
use Rattle.std.proofs.Common.{◌≡◌, ◌<◌, ◌==◌, true, All, List, [], ◌∷◌, length, sym, subst, arith}
use Rattle.std.proofs.lemmas.Bool.{eqb-true}
use Rattle.std.proofs.lemmas.List.Elements.{All-head, filter_passes}
use Rattle.dns_rdata.specs.Numbers.{type_SOA}
use Rattle.dns_rdata.specs.Record.{Record, rtype_of}
use Rattle.zone_tree.specs.Zone.{soa_of}

rtype_of_first : (soa : List Record) → 0 < length soa → All (λ r. (r.rtype == type_SOA) ≡ true) soa → rtype_of soa ≡ type_SOA
rtype_of_first [] some h = absurd (omega arith)
rtype_of_first (r ∷ rs) some h = eqb-true r.rtype type_SOA (All-head (λ s. (s.rtype == type_SOA) ≡ true) r rs h)

-- it is an SOA's
pub rtype_of-soa : (zone soa : List Record) → soa ≡ soa_of zone → length soa ≡ 1 → rtype_of soa ≡ type_SOA
rtype_of-soa zone soa is one = rtype_of_first soa (omega arith) (subst (All (λ r. (r.rtype == type_SOA) ≡ true)) (sym is) (filter_passes (λ r. r.rtype == type_SOA) zone))
