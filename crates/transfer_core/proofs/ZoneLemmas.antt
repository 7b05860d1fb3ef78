-- A zone's records as they are sent, and held again.
use Rattle.std.proofs.Common.{◌≡◌, ◌≢◌, refl, sym, ap, ◌∙◌, ℕ, ◌<◌, ◌≤◌, ◌^◌, nat_lt, nat_le, Bool, true, false, ◌&&◌, not, ◌==◌, cond, List, [], ◌∷◌, length, filter, get_or, Some, Ok, arith}
use Rattle.std.specs.List.{AllByRecursion, list_all}
use Rattle.std.proofs.lemmas.Bool.Decides.{nat_tests}
use Rattle.std.proofs.lemmas.List.Elements.{recursion_from_All}
use Rattle.std.proofs.lemmas.List.Sums.{length-filter, count_by-le-length}
use Rattle.dns_name.specs.Name.{is_under}
use Rattle.dns_rdata.specs.Numbers.{type_NS, type_SOA}
use Rattle.dns_rdata.specs.Record.{Record, IsLawful}
use Rattle.dns_rdata.specs.Raw.{ttl_in_zone}
use Rattle.zone_tree.specs.Zone.{IsZone, IsBefore, apex_of, soa_of, rrset_of, is_of, share_ttl, is_alone, is_wild}
use Rattle.zone_tree.proofs.LawLemmas.{soa_is_at_apex}
use Rattle.zone_tree.proofs.Rising.{Rises, rises_from_pairs}
use Rattle.transfer_core.specs.Lists.{as_sent}
use Rattle.transfer_core.specs.Take.{Stage, held, entered, is_zone}
use Rattle.transfer_core.proofs.RecordLemmas.{IsIn, each_in}

-- a lawful record that is sent enters as it was
lasting : (n : ℕ) → n < 2 ^ 31 → ttl_in_zone n ≡ n
lasting n h = let below : nat_lt n (2 ^ 31) ≡ true = grind (arith, nat_tests) in rw below refl

pub entered_sent : (r : Record) → IsLawful r → entered (as_sent r) ≡ Some r
entered_sent r h = rw (h.form) (λ i. Some (record { owner = sym h.folded i; rtype = r.rtype; ttl = lasting r.ttl h.lasts i; rdata = r.rdata }))

-- a filter keeps no more than there are
fewer : {X : Type 0} (p : X → Bool) (xs : List X) → length (filter p xs) ≤ length xs
fewer p xs = omega (arith, length-filter p xs, count_by-le-length p xs)

-- nor one filter of what another keeps than of all
pub fewer_kept : {X : Type 0} (p q : X → Bool) (xs : List X) → length (filter p (filter q xs)) ≤ length (filter p xs)
fewer_kept p q [] = omega arith
fewer_kept {X} p q (x ∷ xs) = by (q x) (p x) (fewer_kept p q xs)
  where
    first : (c : Bool) → length (filter p (filter q xs)) ≤ length (filter p xs) → length (cond c (x ∷ filter p (filter q xs)) (filter p (filter q xs))) ≤ length (cond c (x ∷ filter p xs) (filter p xs))
    first true h = omega (arith, h)
    first false h = h

    skipped : (c : Bool) → length (filter p (filter q xs)) ≤ length (filter p xs) → length (filter p (filter q xs)) ≤ length (cond c (x ∷ filter p xs) (filter p xs))
    skipped true h = omega (arith, h)
    skipped false h = h

    by : (b c : Bool) → length (filter p (filter q xs)) ≤ length (filter p xs) → length (filter p (cond b (x ∷ filter q xs) (filter q xs))) ≤ length (filter p (x ∷ xs))
    by true c h = first (p x) h
    by false c h = skipped (p x) h

-- a test that passes along a list
pub all_pass : (p : Record → Bool) (zs : List Record) → AllByRecursion (λ r. p r ≡ true) zs → list_all p zs ≡ true
all_pass p [] h = refl
all_pass p (z ∷ zs) h = rw h.0 (all_pass p zs h.1)

at_most : (m n : ℕ) → m ≤ n → nat_le m n ≡ true
at_most m n h = grind (arith, nat_tests)

module _ (zone : List Record) (h : IsZone zone) where
  pub rises : Rises IsBefore zone
  rises = rises_from_pairs IsBefore zone h.rules.ascending

  pub each_lawful : AllByRecursion IsLawful zone
  each_lawful = recursion_from_All IsLawful zone h.rules.lawful

  -- a record of the zone is held among those that a filter keeps of the zone
  pub held_within : (stage : Stage) (q : Record → Bool) (r : Record) → IsIn r zone → held (apex_of zone) stage r (filter q zone) ≡ Ok (record { stage = stage; records = filter q zone })
  held_within stage q r k =
      let under : is_under r.owner (apex_of zone) ≡ true = each_in (λ s. is_under s.owner (apex_of zone) ≡ true) zone r (recursion_from_All (λ s. is_under s.owner (apex_of zone) ≡ true) zone h.rules.under_apex) k in
      let short : length r.rdata ≤ 4096 = each_in (λ s. length s.rdata ≤ 4096) zone r (recursion_from_All (λ s. length s.rdata ≤ 4096) zone h.limits.short) k in
      let small : length (rrset_of zone r.owner r.rtype) ≤ 256 = each_in (λ s. length (rrset_of zone s.owner s.rtype) ≤ 256) zone r (recursion_from_All (λ s. length (rrset_of zone s.owner s.rtype) ≤ 256) zone h.limits.small_sets) k in
      let kept : length (rrset_of (filter q zone) r.owner r.rtype) ≤ length (rrset_of zone r.owner r.rtype) = fewer_kept (is_of r.owner r.rtype) q zone in
      let few : length (filter q zone) ≤ length zone = fewer q zone in
      let all : length zone ≤ 1000000 = h.limits.few in
      let a : nat_le (length r.rdata) 4096 ≡ true = at_most (length r.rdata) 4096 short in
      let b : nat_le (length (rrset_of (filter q zone) r.owner r.rtype)) 256 ≡ true = at_most (length (rrset_of (filter q zone) r.owner r.rtype)) 256 (omega (arith, small, kept)) in
      let c : nat_le (length (filter q zone)) 1000000 ≡ true = at_most (length (filter q zone)) 1000000 (omega (arith, few, all)) in
      rw (under, a, b, c) refl

  one : (n : ℕ) → n ≡ 1 → (n == 1) ≡ true
  one n e = rw e refl

  some : (xs : List Record) → xs ≢ [] → not (length xs == 0) ≡ true
  some [] e = absurd (e refl)
  some (x ∷ xs) e = let there : (length (x ∷ xs) == 0) ≡ false = grind (arith, nat_tests) in rw there refl

  no : (b : Bool) → b ≡ false → not b ≡ true
  no b e = rw e refl

  -- it is a zone by the test
  pub passes : is_zone (apex_of zone) zone ≡ true
  passes =
      let shared : list_all (λ r. list_all (share_ttl r) zone) zone ≡ true =
      all_pass (λ r. list_all (share_ttl r) zone) zone (recursion_from_All (λ r. list_all (share_ttl r) zone ≡ true) zone (λ k d l. all_pass (share_ttl (get_or zone k d)) zone (recursion_from_All (λ s. share_ttl (get_or zone k d) s ≡ true) zone (h.rules.one_ttl k d l)))) in
      let soa : (length (soa_of zone) == 1) ≡ true = one (length (soa_of zone)) h.rules.one_soa in
      let soa_there : (length (rrset_of zone (apex_of zone) type_SOA) == 1) ≡ true = one (length (rrset_of zone (apex_of zone) type_SOA)) (ap length (soa_is_at_apex zone h) ∙ h.rules.one_soa) in
      let ns : not (length (rrset_of zone (apex_of zone) type_NS) == 0) ≡ true = some (rrset_of zone (apex_of zone) type_NS) h.rules.name_servers in
      let alone : list_all (is_alone zone) zone ≡ true = all_pass (is_alone zone) zone (recursion_from_All (λ r. is_alone zone r ≡ true) zone h.rules.aliases_alone) in
      let cuts : list_all (λ r. not (is_wild r.owner && r.rtype == type_NS)) zone ≡ true =
      all_pass (λ r. not (is_wild r.owner && r.rtype == type_NS)) zone (recursion_from_All (λ r. not (is_wild r.owner && r.rtype == type_NS) ≡ true) zone (λ k d l. no (is_wild (get_or zone k d).owner && (get_or zone k d).rtype == type_NS) (h.rules.no_wild_cuts k d l))) in
      rw (shared, soa, soa_there, ns, alone, cuts) refl
