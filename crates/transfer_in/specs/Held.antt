-- The records that a holder holds, in order, and how many each set of them has.
use Rattle.std.specs.Prelude.{◌≡◌, ℕ, List, length, unwrap_or}
use Rattle.std.specs.BTreeMap.{BTreeMap, get}
use Rattle.std.specs.Cmp.{IsTotalOrder, IsEquivalence, eq_by_cmp_equiv}
use Rattle.std.specs.Ordering.{nat_cmp, ordering_then, eq_by_cmp}
use Rattle.std.specs.declared.cmp.Ordering.{Ordering}
use Rattle.std.proofs.lemmas.Cmp.{on_total, then_total, nat_cmp_total, nat_list_cmp_total}
use Rattle.dns_name.specs.Name.{Name, canonical_cmp}
use Rattle.dns_name.specs.Order.{canonical_total}
use Rattle.dns_rdata.specs.Record.{Record}
use Rattle.zone_tree.specs.Zone.{rrset_of}
use Rattle.transfer_core.specs.Take.{held_cmp}

-- the order of held records is total
pub held_total : IsTotalOrder held_cmp
held_total =
    then_total
    (then_total (on_total (λ (r : Record). r.owner) canonical_total) (then_total (on_total (λ (r : Record). r.rtype) nat_cmp_total) (on_total (λ (r : Record). r.rdata) nat_list_cmp_total)))
    (on_total (λ (r : Record). r.ttl) nat_cmp_total)

pub held_equiv : IsEquivalence (eq_by_cmp held_cmp)
held_equiv = eq_by_cmp_equiv held_total

-- an owner and the number of a type, by which sets are known (RFC 2181, 5)
pub record SetKey : Type 0 where
  pub owner : Name
  pub rtype : ℕ

-- the order of sets (RFC 4034, 6.1)
abbrev pub key_cmp : SetKey → SetKey → Ordering
key_cmp key other = ordering_then (canonical_cmp key.owner other.owner) (nat_cmp key.rtype other.rtype)

pub key_total : IsTotalOrder key_cmp
key_total = then_total (on_total (λ (key : SetKey). key.owner) canonical_total) (on_total (λ (key : SetKey). key.rtype) nat_cmp_total)

pub key_equiv : IsEquivalence (eq_by_cmp key_cmp)
key_equiv = eq_by_cmp_equiv key_total

-- how many records a map has for a set; 0 where it has none
abbrev pub size_in : BTreeMap SetKey ℕ → SetKey → ℕ
size_in sizes key = unwrap_or (get key_cmp sizes key) 0

-- a map has for each set how many records there are of it
abbrev pub AreSizes : BTreeMap SetKey ℕ → List Record → Type 0
AreSizes sizes records = (key : SetKey) → size_in sizes key ≡ length (rrset_of records key.owner key.rtype)
