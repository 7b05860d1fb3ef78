-- The sets of a zone that aren't the SOA's.
use Rattle.std.proofs.Common.{◌≡◌, ap, ◌∙◌, ℕ, Bool, true, false, not, ◌==◌, cond, List, [], ◌∷◌, ◌++◌, All, subst, suc, arith}
use Rattle.std.proofs.lemmas.List.Elements.{recursion_from_All, filter-append}
use Rattle.dns_rdata.specs.Numbers.{type_SOA}
use Rattle.dns_rdata.specs.Record.{Record}
use Rattle.zone_tree.specs.Sets.{records_in}
use Rattle.zone_tree.proofs.Rising.{filter_alike, each_weaker}
use Rattle.transfer_core.specs.Lists.{beside_soa}

pub by_type : (set : List Record) (rtype : ℕ) (b : Bool) → All (λ r. r.rtype ≡ rtype) set → not (rtype == type_SOA) ≡ b → beside_soa set ≡ cond b set []
by_type set rtype b h e =
    filter_alike (λ r. not (r.rtype == type_SOA)) b set
    (each_weaker (λ r. r.rtype ≡ rtype) (λ r. not (r.rtype == type_SOA) ≡ b) (λ r k. ap (λ t. not (t == type_SOA)) k ∙ e) set (recursion_from_All (λ r. r.rtype ≡ rtype) set h))

pub first_set : (set : List Record) (sets : List (List Record)) → beside_soa (records_in (set ∷ sets)) ≡ beside_soa set ++ beside_soa (records_in sets)
first_set set sets = filter-append (λ r. not (r.rtype == type_SOA)) set (records_in sets)

-- a set of another type is kept, the SOA's isn't
pub kept_set : (set : List Record) (sets : List (List Record)) (rtype : ℕ) → All (λ r. r.rtype ≡ rtype) set → not (rtype == type_SOA) ≡ true → beside_soa (records_in (set ∷ sets)) ≡ set ++ beside_soa (records_in sets)
kept_set set sets rtype h e = first_set set sets ∙ ap (λ l. l ++ beside_soa (records_in sets)) (by_type set rtype true h e)

pub passed_set : (set : List Record) (sets : List (List Record)) (rtype : ℕ) → All (λ r. r.rtype ≡ rtype) set → not (rtype == type_SOA) ≡ false → beside_soa (records_in (set ∷ sets)) ≡ beside_soa (records_in sets)
passed_set set sets rtype h e = first_set set sets ∙ ap (λ l. l ++ beside_soa (records_in sets)) (by_type set rtype false h e)

-- what holds of all holds of the rest
pub rest_each : {X : Type 0} (P : X → Type 0) (x : X) (all xs : List X) → All P all → all ≡ x ∷ xs → All P xs
rest_each P x all xs h e = λ k d l. (subst (All P) e h) (suc k) d (omega (arith, l))
