-- The limits of a zone, kept by filters, by changes of TTLs and by one record more within them.
use Rattle.std.proofs.Common.{◌≡◌, ℕ, ◌≤◌, Bool, true, false, ◌&&◌, ◌||◌, ◌==◌, cond, nat_lt, List, [], ◌∷◌, map, length, filter, All, Option, None, Some, refl, sym, ap, ◌∙◌, arith}
use Rattle.std.specs.Option.{IfSome}
use Rattle.std.proofs.lemmas.Bool.{eqb-true}
use Rattle.std.proofs.lemmas.Bool.Decides.{nat_tests}
use Rattle.std.proofs.lemmas.List.{length-map}
use Rattle.std.proofs.lemmas.List.Elements.{All-map, All-filter, All-weaker}
use Rattle.dns_name.specs.Name.{Name, is_same, fold_name}
use Rattle.dns_name.specs.Order.{is_same_equiv}
use Rattle.dns_rdata.specs.Record.{Record}
use Rattle.dns_rdata.specs.Raw.{RawRecord}
use Rattle.zone_tree.specs.Zone.{KeepsLimits, is_of, rrset_of}
use Rattle.update_core.specs.Act.{entered, with_one, with_ttl, record_with_ttl, within_limits}
use Rattle.update_core.proofs.ListLemmas.{and_left, and_right, by_test, filter_alike}
use Rattle.update_core.proofs.SoaKept.{All-with_one}
use Rattle.update_core.proofs.OneMore.{filter-with_one_not}
use Rattle.update_core.proofs.RulesBeside.{fewer}
use Rattle.update_core.proofs.RulesChanged.{filter-map, of_stays, ttl_owner, ttl_rtype, ttl_rdata}
use Rattle.update_core.proofs.SentLemmas.{of_lower}

-- the limits of sets and of data
pub record KeepsSmall (zone : List Record) : Type 0 where
  pub small_sets : All (λ s. length (rrset_of zone s.owner s.rtype) ≤ 256) zone
  pub short : All (λ s. length s.rdata ≤ 4096) zone

pub small_from : (zone : List Record) → KeepsLimits zone → KeepsSmall zone
small_from zone h = record { small_sets = h.small_sets; short = h.short }

pub limits_from : (zone : List Record) → KeepsSmall zone → length zone ≤ 1000000 → KeepsLimits zone
limits_from zone h few = record { few = few; small_sets = h.small_sets; short = h.short }

-- a filter
pub not_longer : (p : Record → Bool) (zs : List Record) → length (filter p zs) ≤ length zs
not_longer p [] = omega arith
not_longer p (z ∷ zs) = by (p z) (not_longer p zs)
  where
    by : (b : Bool) → length (filter p zs) ≤ length zs → length (cond b (z ∷ filter p zs) (filter p zs)) ≤ length (z ∷ zs)
    by true less = omega arith
    by false less = omega arith

pub filter_small : (p : Record → Bool) (zone : List Record) → KeepsSmall zone → KeepsSmall (filter p zone)
filter_small p zone h = record {
  small_sets = All-weaker (λ s. length (rrset_of zone s.owner s.rtype) ≤ 256) (λ s. length (rrset_of (filter p zone) s.owner s.rtype) ≤ 256) (λ s k. let less = fewer (is_of s.owner s.rtype) p zone in omega arith) (filter p zone)
      (All-filter p (λ s. length (rrset_of zone s.owner s.rtype) ≤ 256) zone h.small_sets);
  short = All-filter p (λ s. length s.rdata ≤ 4096) zone h.short;
}

pub filter_limits : (p : Record → Bool) (zone : List Record) → KeepsLimits zone → KeepsLimits (filter p zone)
filter_limits p zone h = let less = not_longer p zone in limits_from (filter p zone) (filter_small p zone (small_from zone h)) (let few = h.few in omega arith)

-- records whose owners and types stay, and how much data they have
pub map_small : (f : Record → Record) → ((s : Record) → (f s).owner ≡ s.owner) → ((s : Record) → (f s).rtype ≡ s.rtype) → ((s : Record) → length s.rdata ≤ 4096 → length (f s).rdata ≤ 4096) → (zone : List Record) → KeepsSmall zone → KeepsSmall (map f zone)
map_small f owners types short zone h = record {
  small_sets = All-map (λ s. length (rrset_of (map f zone) s.owner s.rtype) ≤ 256) f zone
      (All-weaker (λ s. length (rrset_of zone s.owner s.rtype) ≤ 256) (λ s. length (rrset_of (map f zone) (f s).owner (f s).rtype) ≤ 256) (λ s k. let same = as_many s in omega arith) zone h.small_sets);
  short = All-map (λ s. length s.rdata ≤ 4096) f zone (All-weaker (λ s. length s.rdata ≤ 4096) (λ s. length (f s).rdata ≤ 4096) short zone h.short);
}
  where
    as_many : (s : Record) → length (rrset_of (map f zone) (f s).owner (f s).rtype) ≡ length (rrset_of zone s.owner s.rtype)
    as_many s =
        (λ i. length (rrset_of (map f zone) (owners s i) (types s i)))
        ∙ ap length (filter-map f owners types (is_of s.owner s.rtype) (of_stays f owners types s.owner s.rtype) zone)
        ∙ length-map (rrset_of zone s.owner s.rtype) f

pub ttl_small_sets : (owner : Name) (rtype ttl : ℕ) (zone : List Record) → KeepsSmall zone → KeepsSmall (with_ttl zone owner rtype ttl)
ttl_small_sets owner rtype ttl zone h =
    map_small (record_with_ttl owner rtype ttl) (ttl_owner owner rtype ttl) (ttl_rtype owner rtype ttl) (λ s k. let same = ap length (ttl_rdata owner rtype ttl s) in omega arith) zone h

-- one record more, of a set that is small enough with it
module _ (zone : List Record) (r : Record) (h : KeepsSmall zone) (room : length (rrset_of (with_one r zone) r.owner r.rtype) ≤ 256) (short : length r.rdata ≤ 4096) where
  abbrev grown : List Record
  grown = with_one r zone

  own_set : (s : Record) → is_of s.owner s.rtype r ≡ true → rrset_of grown s.owner s.rtype ≡ rrset_of grown r.owner r.rtype
  own_set s is =
      let same = and_left (is_same r.owner s.owner) (r.rtype == s.rtype) is in
      let types = eqb-true r.rtype s.rtype (and_right (is_same r.owner s.owner) (r.rtype == s.rtype) is) in
      filter_alike (is_of s.owner s.rtype) (is_of r.owner r.rtype)
      (λ x. λ i. (is_same_equiv.symm x.owner s.owner ∙ sym (is_same_equiv.congr r.owner s.owner x.owner same) ∙ is_same_equiv.symm r.owner x.owner) i && x.rtype == sym types i) grown

  small_by : (s : Record) (b : Bool) → is_of s.owner s.rtype r ≡ b → length (rrset_of zone s.owner s.rtype) ≤ 256 → length (rrset_of grown s.owner s.rtype) ≤ 256
  small_by s true is was = let same = ap length (own_set s is) in omega arith
  small_by s false is was = let same = ap length (filter-with_one_not (is_of s.owner s.rtype) r zone is) in omega arith

  pub with_one_small : KeepsSmall (with_one r zone)
  with_one_small = record {
    small_sets = All-with_one (λ s. length (rrset_of grown s.owner s.rtype) ≤ 256) r zone room (All-weaker (λ s. length (rrset_of zone s.owner s.rtype) ≤ 256) (λ s. length (rrset_of grown s.owner s.rtype) ≤ 256) (λ s k. small_by s (is_of s.owner s.rtype r) refl k) zone h.small_sets);
    short = All-with_one (λ s. length s.rdata ≤ 4096) r zone short h.short;
  }

-- what the limits of an add say of the zone that they let through
pub record IsWithin (r : RawRecord) (zone : List Record) : Type 0 where
  pub short : length r.octets ≤ 4096
  pub small_set : length (rrset_of zone r.owner r.rtype) ≤ 256
  pub few : length zone ≤ 1000000

three_tests : (a b c : Bool) → a || b || c ≡ false → (a ≡ false) × (b ≡ false) × (c ≡ false)
three_tests true b c e = cc
three_tests false true c e = cc
three_tests false false c e = (refl, refl, e)

at_most : (m n : ℕ) → nat_lt n m ≡ false → m ≤ n
at_most m n t = grind (arith, nat_tests)

pub within : (r : RawRecord) (zone : List Record) (P : List Record → Type 0) → (IsWithin r zone → P zone) → IfSome (within_limits r zone) P
within r zone P f =
    by_test (λ (o : Option (List Record)). IfSome o P) (nat_lt 4096 (length r.octets) || nat_lt 256 (length (rrset_of zone r.owner r.rtype)) || nat_lt 1000000 (length zone)) None (Some zone) (λ _. tt)
    (λ e.
    let tests = three_tests (nat_lt 4096 (length r.octets)) (nat_lt 256 (length (rrset_of zone r.owner r.rtype))) (nat_lt 1000000 (length zone)) e in
    f (record { short = at_most (length r.octets) 4096 tests.0; small_set = at_most (length (rrset_of zone r.owner r.rtype)) 256 tests.1; few = at_most (length zone) 1000000 tests.2 }))

-- a record that enters among others within the limits
pub entered_limits : (r : RawRecord) (zone : List Record) → KeepsSmall zone → length (entered r).rdata ≡ length r.octets → IsWithin r (with_one (entered r) zone) → KeepsLimits (with_one (entered r) zone)
entered_limits r zone h len is =
    let next = with_one (entered r) zone in
    let same : rrset_of next (fold_name r.owner) r.rtype ≡ rrset_of next r.owner r.rtype = filter_alike (is_of (fold_name r.owner) r.rtype) (is_of r.owner r.rtype) (of_lower r.owner r.rtype) next in
    limits_from next (with_one_small zone (entered r) h (let few = is.small_set in omega (arith, ap length same)) (let short = is.short in omega arith)) is.few
