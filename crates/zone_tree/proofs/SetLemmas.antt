-- Facts on sets and the records in them.
use Rattle.std.proofs.Common.{◌≡◌, refl, sym, ap, ℕ, ◌<◌, Bool, true, List, length, true≢false}
use Rattle.std.specs.declared.cmp.Ordering.{Ordering}
use Rattle.std.specs.declared.cmp.Ordering.TheVariants.{Less, Equal, Greater}
use Rattle.std.specs.List.{filter, list_any, All, AllByRecursion}
use Rattle.std.specs.Ordering.{is_lt}
use Rattle.std.specs.Cmp.{IsTotalOrder}
use Rattle.std.proofs.lemmas.Cmp.{on_total, then_total, nat_cmp_total, nat_list_cmp_total}
use Rattle.std.proofs.lemmas.List.Elements.{recursion_from_All}
use Rattle.dns_rdata.specs.Record.{Record, record_cmp, owner_of, rtype_of}
use Rattle.zone_tree.specs.Sets.{records_in, set_cmp, IsSetBefore, IsOf, IsRRset}
use Rattle.zone_tree.proofs.NameOrder.{canonical_total}
use Rattle.zone_tree.proofs.Rising.{each_weaker, Agree, filter_joined, any_joined}

-- the order of sets is a total order
pub set_total : IsTotalOrder set_cmp
set_total = then_total (on_total owner_of canonical_total) (on_total rtype_of nat_cmp_total)

pub record_total : IsTotalOrder record_cmp
record_total = then_total (on_total (λ r. r.owner) canonical_total) (then_total (on_total (λ r. r.rtype) nat_cmp_total) (on_total (λ r. r.rdata) nat_list_cmp_total))

pub less : (o : Ordering) → is_lt o ≡ true → o ≡ Less
less Less e = refl
less Equal e = absurd (true≢false (sym e))
less Greater e = absurd (true≢false (sym e))

pub before_chains : (s t u : List Record) → IsSetBefore s t → IsSetBefore t u → IsSetBefore s u
before_chains s t u h k = ap is_lt (set_total.trans s t u (less (set_cmp s t) h) (less (set_cmp t u) k))

-- sets, each not empty and of one owner and type
pub some_each : (sets : List (List Record)) → All IsRRset sets → AllByRecursion (λ set. 0 < length set) sets
some_each sets h = each_weaker IsRRset (λ set. 0 < length set) (λ set k. k.some) sets (recursion_from_All IsRRset sets h)

-- a test of owner and type answers alike along each set
pub owners_agree : (q : List (List ℕ) → ℕ → Bool) (sets : List (List Record)) → All IsRRset sets → Agree (λ r. q r.owner r.rtype) (λ set. q (owner_of set) (rtype_of set)) sets
owners_agree q sets h =
    each_weaker IsRRset (λ set. AllByRecursion (λ r. q r.owner r.rtype ≡ q (owner_of set) (rtype_of set)) set)
    (λ set k. each_weaker (IsOf set) (λ r. q r.owner r.rtype ≡ q (owner_of set) (rtype_of set)) (λ r m. λ i. q (m.owner i) (m.rtype i)) set (recursion_from_All (IsOf set) set k.shared))
    sets (recursion_from_All IsRRset sets h)

-- what a test of owner and type keeps of the records, and whether any pass, by the sets
pub filter_by_sets : (q : List (List ℕ) → ℕ → Bool) (sets : List (List Record)) → All IsRRset sets → filter (λ r. q r.owner r.rtype) (records_in sets) ≡ records_in (filter (λ set. q (owner_of set) (rtype_of set)) sets)
filter_by_sets q sets h = filter_joined (λ r. q r.owner r.rtype) (λ set. q (owner_of set) (rtype_of set)) sets (owners_agree q sets h)

pub any_by_sets : (q : List (List ℕ) → ℕ → Bool) (sets : List (List Record)) → All IsRRset sets → list_any (λ r. q r.owner r.rtype) (records_in sets) ≡ list_any (λ set. q (owner_of set) (rtype_of set)) sets
any_by_sets q sets h = any_joined (λ r. q r.owner r.rtype) (λ set. q (owner_of set) (rtype_of set)) sets (some_each sets h) (owners_agree q sets h)
