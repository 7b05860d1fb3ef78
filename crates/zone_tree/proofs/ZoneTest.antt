-- A test of whether records are a zone: where it computes to true, they are one.
use Rattle.std.proofs.Common.{◌≡◌, ◌≢◌, refl, ap, ℕ, ◌<◌, ◌≤◌, ◌^◌, Bool, true, false, ◌&&◌, List, [], ◌∷◌, length, nat_lt, nat_le, Option, Some, None, arith}
use Rattle.std.specs.Prelude.{◌==◌, bytes_eq, not}
use Rattle.std.specs.List.{list_all, All, AllByRecursion}
use Rattle.std.specs.Cmp.Lexicographic.{pointwise}
use Rattle.std.specs.Ordering.{is_lt}
use Rattle.std.proofs.lemmas.Bool.Decides.{Decides-eqb, nat_tests}
use Rattle.std.proofs.lemmas.List.Elements.{All-nil, All-cons}
use Rattle.std.proofs.lemmas.Slice.Eq.{bytes_eq-Decides, slice_eq-Decides}
use Rattle.dns_name.specs.Name.{IsLabel, IsName, wire_of, fold_name, is_under}
use Rattle.dns_rdata.specs.Data.{data_of}
use Rattle.dns_rdata.specs.Numbers.{type_NS}
use Rattle.dns_rdata.specs.Record.{Record, IsLawful, record_cmp}
use Rattle.zone_tree.specs.Zone.{IsZone, IsBefore, soa_of, apex_of, rrset_of, share_ttl, is_alone, is_wild}
use Rattle.zone_tree.proofs.Rising.{Rises, pairs_from_rises}

both : (a b : Bool) → a && b ≡ true → (a ≡ true) × (b ≡ true)
both true b e = (refl, e)
both false b e = cc

is_not : (b : Bool) → not b ≡ true → b ≡ false
is_not true e = cc
is_not false e = refl

below : (m n : ℕ) → nat_lt m n ≡ true → m < n
below m n t = grind (arith, nat_tests)

at_most : (m n : ℕ) → nat_le m n ≡ true → m ≤ n
at_most m n t = grind (arith, nat_tests)

-- what a test that passes along a list says of each
each : {X : Type 0} (p : X → Bool) (P : X → Type 0) → ((x : X) → p x ≡ true → P x) → (xs : List X) → list_all p xs ≡ true → All P xs
each p P says [] e = All-nil P
each p P says (x ∷ xs) e = let all = both (p x) (list_all p xs) e in All-cons P x xs (says x all.0) (each p P says xs all.1)

-- octets below 256
abbrev octets_test : List ℕ → Bool
octets_test octets = list_all (λ octet. nat_lt octet 256) octets

octets_from : (octets : List ℕ) → octets_test octets ≡ true → All (λ octet. octet < 256) octets
octets_from octets e = each (λ octet. nat_lt octet 256) (λ octet. octet < 256) (λ octet t. below octet 256 t) octets e

-- names
abbrev label_test : List ℕ → Bool
label_test label = nat_lt 0 (length label) && nat_lt (length label) 64

label_from : (label : List ℕ) → label_test label ≡ true → IsLabel label
label_from label e = let t = both (nat_lt 0 (length label)) (nat_lt (length label) 64) e in record { some = below 0 (length label) t.0; short = below (length label) 64 t.1 }

abbrev name_test : List (List ℕ) → Bool
name_test name = list_all label_test name && nat_le (length (wire_of name)) 255

name_from : (name : List (List ℕ)) → name_test name ≡ true → IsName name
name_from name e =
    let t = both (list_all label_test name) (nat_le (length (wire_of name)) 255) e in
    record { labels = each label_test IsLabel label_from name t.0; short = at_most (length (wire_of name)) 255 t.1 }

-- data of its type's form
abbrev form_by : Option (List ℕ) → List ℕ → Bool
form_by None octets = false
form_by (Some own) octets = bytes_eq own octets

form_from : (o : Option (List ℕ)) (octets : List ℕ) → form_by o octets ≡ true → o ≡ Some octets
form_from None octets e = cc
form_from (Some own) octets e = ap (λ (os : List ℕ). Some os) ((bytes_eq-Decides own octets).0 e)

-- a record that a zone may have
abbrev lawful_test : Record → Bool
lawful_test r =
    name_test r.owner && (list_all octets_test r.owner && (pointwise bytes_eq r.owner (fold_name r.owner)
    && (nat_lt r.ttl (2 ^ 31) && (form_by (data_of r.rtype r.rdata) r.rdata && octets_test r.rdata))))

lawful_from : (r : Record) → lawful_test r ≡ true → IsLawful r
lawful_from r e =
    let a = both (name_test r.owner) _ e in
    let b = both (list_all octets_test r.owner) _ a.1 in
    let c = both (pointwise bytes_eq r.owner (fold_name r.owner)) _ b.1 in
    let d = both (nat_lt r.ttl (2 ^ 31)) _ c.1 in
    let f = both (form_by (data_of r.rtype r.rdata) r.rdata) (octets_test r.rdata) d.1 in
    record {
      name = name_from r.owner a.0;
      owner_octets = each octets_test (All (λ octet. octet < 256)) octets_from r.owner b.0;
      folded = (slice_eq-Decides bytes_eq-Decides r.owner (fold_name r.owner) (pointwise bytes_eq r.owner (fold_name r.owner)) refl).0 c.0;
      lasts = below r.ttl (2 ^ 31) d.0;
      form = form_from (data_of r.rtype r.rdata) r.rdata f.0;
      octets = octets_from r.rdata f.1;
    }

-- records in ascending order
abbrev rising_test : List Record → Bool
rising_test [] = true
rising_test (r ∷ rs) = list_all (λ s. is_lt (record_cmp r s)) rs && rising_test rs

each_test : {X : Type 0} (p : X → Bool) (xs : List X) → list_all p xs ≡ true → AllByRecursion (λ x. p x ≡ true) xs
each_test p [] e = tt
each_test p (x ∷ xs) e = let all = both (p x) (list_all p xs) e in (all.0, each_test p xs all.1)

rising_from : (rs : List Record) → rising_test rs ≡ true → Rises IsBefore rs
rising_from [] e = tt
rising_from (r ∷ rs) e = let t = both (list_all (λ s. is_lt (record_cmp r s)) rs) (rising_test rs) e in (each_test (λ s. is_lt (record_cmp r s)) rs t.0, rising_from rs t.1)

-- the rules, and the limits
abbrev rules_test : List Record → Bool
rules_test zone =
    list_all lawful_test zone && (rising_test zone && (list_all (λ r. list_all (share_ttl r) zone) zone && (length (soa_of zone) == 1
    && (list_all (λ r. is_under r.owner (apex_of zone)) zone && (nat_lt 0 (length (rrset_of zone (apex_of zone) type_NS))
    && (list_all (is_alone zone) zone && list_all (λ r. not (is_wild r.owner && r.rtype == type_NS)) zone))))))

abbrev limits_test : List Record → Bool
limits_test zone =
    nat_le (length zone) 1000000 && (list_all (λ r. nat_le (length (rrset_of zone r.owner r.rtype)) 256) zone && list_all (λ r. nat_le (length r.rdata) 4096) zone)

-- records that pass are a zone
abbrev pub zone_test : List Record → Bool
zone_test zone = rules_test zone && limits_test zone

some_from : (rs : List Record) → 0 < length rs → rs ≢ []
some_from rs some none = omega (arith, ap length none)

pub zone_from_test : (zone : List Record) → zone_test zone ≡ true → IsZone zone
zone_from_test zone e =
    let t = both (rules_test zone) (limits_test zone) e in
    let a = both (list_all lawful_test zone) _ t.0 in
    let b = both (rising_test zone) _ a.1 in
    let c = both (list_all (λ r. list_all (share_ttl r) zone) zone) _ b.1 in
    let d = both (length (soa_of zone) == 1) _ c.1 in
    let f = both (list_all (λ r. is_under r.owner (apex_of zone)) zone) _ d.1 in
    let g = both (nat_lt 0 (length (rrset_of zone (apex_of zone) type_NS))) _ f.1 in
    let h = both (list_all (is_alone zone) zone) (list_all (λ r. not (is_wild r.owner && r.rtype == type_NS)) zone) g.1 in
    let i = both (nat_le (length zone) 1000000) _ t.1 in
    let j = both (list_all (λ r. nat_le (length (rrset_of zone r.owner r.rtype)) 256) zone) (list_all (λ r. nat_le (length r.rdata) 4096) zone) i.1 in
    record {
      rules = record {
        lawful = each lawful_test IsLawful lawful_from zone a.0;
        ascending = pairs_from_rises IsBefore zone (rising_from zone b.0);
        one_ttl = each (λ r. list_all (share_ttl r) zone) (λ r. All (λ s. share_ttl r s ≡ true) zone) (λ r k. each (share_ttl r) (λ s. share_ttl r s ≡ true) (λ s m. m) zone k) zone c.0;
        one_soa = (Decides-eqb (length (soa_of zone)) 1).0 d.0;
        under_apex = each (λ r. is_under r.owner (apex_of zone)) (λ r. is_under r.owner (apex_of zone) ≡ true) (λ r k. k) zone f.0;
        name_servers = some_from (rrset_of zone (apex_of zone) type_NS) (below 0 (length (rrset_of zone (apex_of zone) type_NS)) g.0);
        aliases_alone = each (is_alone zone) (λ r. is_alone zone r ≡ true) (λ r k. k) zone h.0;
        no_wild_cuts = each (λ r. not (is_wild r.owner && r.rtype == type_NS)) (λ r. is_wild r.owner && r.rtype == type_NS ≡ false) (λ r k. is_not (is_wild r.owner && r.rtype == type_NS) k) zone h.1;
      };
      limits = record {
        few = at_most (length zone) 1000000 i.0;
        small_sets = each (λ r. nat_le (length (rrset_of zone r.owner r.rtype)) 256) (λ r. length (rrset_of zone r.owner r.rtype) ≤ 256) (λ r k. at_most (length (rrset_of zone r.owner r.rtype)) 256 k) zone j.0;
        short = each (λ r. nat_le (length r.rdata) 4096) (λ r. length r.rdata ≤ 4096) (λ r k. at_most (length r.rdata) 4096 k) zone j.1;
      };
    }
