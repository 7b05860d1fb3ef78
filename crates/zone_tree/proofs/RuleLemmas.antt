-- The rules of apex and owners, by the sets; sets that keep all rules are a zone, and those that break one are none.
use Rattle.std.proofs.Common.{◌≡◌, ◌≢◌, refl, sym, ap, ◌∙◌, subst, ℕ, suc, ◌<◌, ◌≤◌, Bool, true, false, ◌&&◌, ◌||◌, List, [], ◌∷◌, length, arith, true≢false, append-nil, get_or, ⊎_elim}
use Rattle.std.specs.Prelude.{◌==◌, not}
use Rattle.std.specs.List.{filter, list_any, All, AllByRecursion}
use Rattle.std.proofs.lemmas.Bool.Decides.{eqb_tells}
use Rattle.std.proofs.lemmas.List.Elements.{All-from_recursion, All-filter}
use Rattle.dns_name.specs.Name.{is_same, is_under}
use Rattle.dns_rdata.specs.Numbers.{type_NS, type_CNAME}
use Rattle.dns_rdata.specs.Record.{Record, owner_of, rtype_of}
use Rattle.zone_tree.specs.Zone.{IsZone, apex_of, soa_of, rrset_of, rrsets_of, is_alone, is_wild}
use Rattle.zone_tree.specs.Sets.{records_in, AreAscending, KeepsApexRules}
use Rattle.zone_tree.proofs.CheckLemmas.{filter_none, some_kept, length-records_each}
use Rattle.zone_tree.proofs.SetLemmas.{filter_by_sets, any_by_sets}
use Rattle.zone_tree.proofs.ZoneLemmas.{records_ascend, records_lawful, records_short, records_share, records_few}

-- where none fails, each passes; where one does, not each
module _ {X : Type 0} (p : X → Bool) where
  pub each_from_none : (xs : List X) → list_any (λ x. not (p x)) xs ≡ false → All (λ x. p x ≡ true) xs
  each_from_none xs h = All-from_recursion (λ x. p x ≡ true) xs (by xs h)
    where
      here : (b c : Bool) → not b || c ≡ false → (b ≡ true) × (c ≡ false)
      here true c e = (refl, e)
      here false c e = absurd (true≢false e)

      by : (ys : List X) → list_any (λ x. not (p x)) ys ≡ false → AllByRecursion (λ x. p x ≡ true) ys
      by [] e = tt
      by (y ∷ ys) e = let both = here (p y) (list_any (λ x. not (p x)) ys) e in (both.0, by ys both.1)

  pub not_each : (xs : List X) → list_any (λ x. not (p x)) xs ≡ true → All (λ x. p x ≡ true) xs → ⊥
  not_each [] h k = true≢false (sym h)
  not_each (x ∷ xs) h k =
      let first : p x ≡ true = k 0 x (omega arith) in
      not_each xs (rw first at h) (λ i d l. k (suc i) d (omega arith))

  pub none_passes : (xs : List X) → list_any p xs ≡ false → All (λ x. p x ≡ false) xs
  none_passes xs h = All-from_recursion (λ x. p x ≡ false) xs (by xs h)
    where
      here : (b c : Bool) → b || c ≡ false → (b ≡ false) × (c ≡ false)
      here true c e = absurd (true≢false e)
      here false c e = (refl, e)

      by : (ys : List X) → list_any p ys ≡ false → AllByRecursion (λ x. p x ≡ false) ys
      by [] e = tt
      by (y ∷ ys) e = let both = here (p y) (list_any p ys) e in (both.0, by ys both.1)

  pub not_none : (xs : List X) → list_any p xs ≡ true → All (λ x. p x ≡ false) xs → ⊥
  not_none [] h k = true≢false (sym h)
  not_none (x ∷ xs) h k =
      let first : p x ≡ false = k 0 x (omega arith) in
      not_none xs (rw first at h) (λ i d l. k (suc i) d (omega arith))

-- a list of one element
pub single : (at : List (List Record)) (only : List Record) → 1 ≤ length at → length at < 2 → only ≡ get_or at 0 only → at ≡ only ∷ []
single [] only l h e = absurd (omega arith)
single (set ∷ []) only l h e = ap (λ s. s ∷ []) (sym e)
single (set ∷ other ∷ at) only l h e = absurd (omega arith)

-- a test for 1 that fails
pub not_one : (n : ℕ) → n ≢ 1 → false ≡ (n == 1)
not_one n h = ⊎_elim (λ yes. absurd (h yes.1)) (λ no. sym no.0) (eqb_tells n 1)

module _ (sets : List (List Record)) (rising : AreAscending sets) where
  -- the tests of the records are those of the sets
  pub wild_by_sets : list_any (λ r. is_wild r.owner && r.rtype == type_NS) (records_in sets) ≡ list_any (λ set. is_wild (owner_of set) && rtype_of set == type_NS) sets
  wild_by_sets = any_by_sets (λ owner t. is_wild owner && t == type_NS) sets rising.each

  not_alone : (a b : Bool) → not (not a || b) ≡ a && not b
  not_alone true b = refl
  not_alone false b = refl

  pub aliases_by_sets : list_any (λ r. not (is_alone (records_in sets) r)) (records_in sets) ≡ list_any (λ set. rtype_of set == type_CNAME && not (length (rrsets_of (records_in sets) (owner_of set)) == 1)) sets
  aliases_by_sets =
      any_by_sets (λ owner t. not (not (t == type_CNAME) || length (rrsets_of (records_in sets) owner) == 1)) sets rising.each ∙
      (λ i. list_any (λ set. not_alone (rtype_of set == type_CNAME) (length (rrsets_of (records_in sets) (owner_of set)) == 1) i) sets)

  module _ (apex : List (List ℕ)) (is : apex ≡ apex_of (records_in sets)) where
    pub outside_by_sets : list_any (λ r. not (is_under r.owner (apex_of (records_in sets)))) (records_in sets) ≡ list_any (λ set. not (is_under (owner_of set) apex)) sets
    outside_by_sets =
        ap (λ a. list_any (λ r. not (is_under r.owner a)) (records_in sets)) (sym is) ∙
        any_by_sets (λ owner _. not (is_under owner apex)) sets rising.each

    servers_by_sets : list_any (λ r. is_same r.owner apex && r.rtype == type_NS) (records_in sets) ≡ list_any (λ set. is_same (owner_of set) apex && rtype_of set == type_NS) sets
    servers_by_sets = any_by_sets (λ owner t. is_same owner apex && t == type_NS) sets rising.each

    pub no_servers : list_any (λ set. is_same (owner_of set) apex && rtype_of set == type_NS) sets ≡ false → rrset_of (records_in sets) (apex_of (records_in sets)) type_NS ≡ []
    no_servers h =
        ap (λ a. rrset_of (records_in sets) a type_NS) (sym is) ∙ filter_none (λ r. is_same r.owner apex && r.rtype == type_NS) (records_in sets) (servers_by_sets ∙ h)

    pub some_servers : list_any (λ set. is_same (owner_of set) apex && rtype_of set == type_NS) sets ≡ true → rrset_of (records_in sets) (apex_of (records_in sets)) type_NS ≢ []
    some_servers h none =
        let some = some_kept (λ r. is_same r.owner apex && r.rtype == type_NS) (records_in sets) (servers_by_sets ∙ h) in
        let empty : filter (λ r. is_same r.owner apex && r.rtype == type_NS) (records_in sets) ≡ [] = ap (λ a. rrset_of (records_in sets) a type_NS) is ∙ none in
        omega (arith, some, ap length empty)

  -- how many records an owner has, by its sets
  pub one_at : (name : List (List ℕ)) (only : List Record) → filter (λ set. is_same (owner_of set) name) sets ≡ only ∷ [] → length (rrsets_of (records_in sets) name) ≡ length only
  one_at name only e = ap length (filter_by_sets (λ owner _. is_same owner name) sets rising.each ∙ ap records_in e ∙ append-nil only)

  pub not_one_at : (name : List (List ℕ)) (at : List (List Record)) → filter (λ set. is_same (owner_of set) name) sets ≡ at → length at ≢ 1 → length (rrsets_of (records_in sets) name) ≢ 1
  not_one_at name [] e many one = omega (arith, ap length (filter_by_sets (λ owner _. is_same owner name) sets rising.each ∙ ap records_in e))
  not_one_at name (set ∷ []) e many one = omega arith
  not_one_at name (set ∷ other ∷ more) e many one =
      let some = All-filter (λ s. is_same (owner_of s) name) (λ s. 0 < length s) sets (λ k d l. (rising.each k d l).some) in
      omega (arith, ap length (filter_by_sets (λ owner _. is_same owner name) sets rising.each ∙ ap records_in e), length-records_each (set ∷ other ∷ more) (subst (All (λ s. 0 < length s)) e some))

  -- sets that keep the rules are a zone
  pub zone_from_rules : length (soa_of (records_in sets)) ≡ 1 → length (records_in sets) ≤ 1000000 → KeepsApexRules (records_in sets) → IsZone (records_in sets)
  zone_from_rules one few kept = record {
    rules = record {
      lawful = records_lawful sets rising;
      ascending = records_ascend sets rising;
      one_ttl = records_share sets rising;
      one_soa = one;
      under_apex = kept.under_apex;
      name_servers = kept.name_servers;
      aliases_alone = kept.aliases_alone;
      no_wild_cuts = kept.no_wild_cuts;
    };
    limits = record { few = few; small_sets = records_few sets rising; short = records_short sets rising };
  }
