-- A zone's apex is its first owner, and owners with their sets are a zone where their records keep its rules.
use Rattle.std.proofs.Common.{◌≡◌, refl, sym, ap, ◌∙◌, ℕ, ◌<◌, ◌≤◌, Bool, true, false, cond, List, [], ◌∷◌, length, arith, true≢false, Some, None, subst}
use Rattle.std.specs.Prelude.{◌==◌}
use Rattle.std.specs.declared.cmp.Ordering.{Ordering}
use Rattle.std.specs.declared.cmp.Ordering.TheVariants.{Less, Equal, Greater}
use Rattle.std.specs.List.{filter, find, AllByRecursion}
use Rattle.std.specs.Option.{option_map}
use Rattle.std.specs.Ordering.{nat_cmp, is_gt, is_eq, ordering_then, ordering_reverse}
use Rattle.std.specs.Cmp.Lexicographic.{slice_cmp}
use Rattle.std.proofs.lemmas.Cmp.{tied_itself}
use Rattle.std.proofs.lemmas.List.Elements.{recursion_from_All}
use Rattle.dns_name.specs.Name.{canonical_cmp, fold_name}
use Rattle.dns_rdata.specs.Numbers.{type_SOA}
use Rattle.dns_rdata.specs.Record.{Record, IsLawful, owner_of}
use Rattle.shared_tree.specs.Pairs.{first_pair, value_at}
use Rattle.zone_tree.specs.Zone.{KeepsRules, IsBefore, apex_of}
use Rattle.zone_tree.specs.Filed.{Filed, sets_under, records_under, items_of, AreFiled, AreKept}
use Rattle.zone_tree.proofs.NameOrder.{canonical_total, folds_from_same, same_from_tie, under_not_before}
use Rattle.zone_tree.proofs.Rising.{each_weaker, each_both, rises_from_pairs}
use Rattle.zone_tree.proofs.SetLemmas.{some_each}
use Rattle.zone_tree.proofs.LookLemmas.{owner_by}
use Rattle.zone_tree.proofs.ZoneLemmas.{records_few, records_short}
use Rattle.zone_tree.proofs.FiledLemmas.{owner_first}

-- the owner of the records that a filter keeps, where it keeps any, is one of them's
kept_owner : (P : List (List ℕ) → Type 0) (p : Record → Bool) (rs : List Record) → AllByRecursion (λ r. P r.owner) rs → 0 < length (filter p rs) → P (owner_of (filter p rs))
kept_owner P p [] h l = absurd (omega arith)
kept_owner P p (r ∷ rs) h l = by (p r) l (kept_owner P p rs h.1)
  where
    by : (b : Bool) → 0 < length (cond b (r ∷ filter p rs) (filter p rs)) → (0 < length (filter p rs) → P (owner_of (filter p rs))) → P (owner_of (cond b (r ∷ filter p rs) (filter p rs)))
    by true m more = h.0
    by false m more = more m

-- names neither of which is behind the other tie
tie_from_both : (a b : List (List ℕ)) → is_gt (canonical_cmp a b) ≡ false → is_gt (canonical_cmp b a) ≡ false → canonical_cmp a b ≡ Equal
tie_from_both a b h k = by (canonical_cmp a b) refl h
  where
    by : (o : Ordering) → canonical_cmp a b ≡ o → is_gt o ≡ false → o ≡ Equal
    by Less e f = absurd (true≢false (ap is_gt (sym (canonical_total.antisymm b a ∙ ap ordering_reverse e)) ∙ k))
    by Equal e f = refl
    by Greater e f = absurd (true≢false f)

-- a name in lower case that the first owner isn't behind, and that isn't under it
record MayBeApex (first name : List (List ℕ)) : Type 0 where
  behind : is_gt (canonical_cmp first name) ≡ false
  folded : name ≡ fold_name name

pub apex_first : (zone : List Record) → KeepsRules zone → apex_of zone ≡ owner_of zone
apex_first [] h = refl
apex_first (r ∷ rs) h =
    let zone = r ∷ rs in
    let rise = rises_from_pairs IsBefore zone h.ascending in
    let lawful = recursion_from_All IsLawful zone h.lawful in
    let behind : AllByRecursion (λ s. is_gt (canonical_cmp r.owner s.owner) ≡ false) zone =
    (ap is_gt (tied_itself canonical_total r.owner), each_weaker (IsBefore r) (λ s. is_gt (canonical_cmp r.owner s.owner) ≡ false) (λ s b. owner_by (canonical_cmp r.owner s.owner) (ordering_then (nat_cmp r.rtype s.rtype) (slice_cmp nat_cmp r.rdata s.rdata)) b) rs rise.0) in
    let each : AllByRecursion (λ s. MayBeApex r.owner s.owner) zone =
    each_weaker (λ s. (is_gt (canonical_cmp r.owner s.owner) ≡ false) × IsLawful s) (λ s. MayBeApex r.owner s.owner) (λ s m. record { behind = m.0; folded = m.1.folded }) zone
    (each_both (λ s. is_gt (canonical_cmp r.owner s.owner) ≡ false) IsLawful zone behind lawful) in
    let apex : MayBeApex r.owner (apex_of zone) = kept_owner (MayBeApex r.owner) (λ s. s.rtype == type_SOA) zone each (omega (arith, h.one_soa)) in
    let tie = tie_from_both (apex_of zone) r.owner (under_not_before r.owner (apex_of zone) (h.under_apex 0 r (omega arith))) apex.behind in
    apex.folded ∙ folds_from_same (apex_of zone) r.owner (same_from_tie (apex_of zone) r.owner tie) ∙ sym lawful.0.folded

-- owners are kept as a zone
module _ (pairs : List Filed) (filed : AreFiled pairs) (rules : KeepsRules (records_under pairs)) where
  pub some_owner : first_pair pairs ≡ None → ⊥
  some_owner = by pairs rules
    where
      by : (ps : List Filed) → KeepsRules (records_under ps) → first_pair ps ≡ None → ⊥
      by [] k e = k.name_servers refl
      by (p ∷ ps) k e = cc

  pub first_is : (first : Filed) → first_pair pairs ≡ Some first → first.0 ≡ owner_of (records_under pairs)
  first_is first = by pairs filed
    where
      by : (ps : List Filed) → AreFiled ps → first_pair ps ≡ Some first → first.0 ≡ owner_of (records_under ps)
      by [] f e = cc
      by (p ∷ ps) f e =
          let same : p ≡ first = cc in
          ap (λ (q : Filed). q.0) (sym same) ∙ sym (owner_first p.1.items (sets_under ps) p.0 f.each.0.some (some_each (sets_under (p ∷ ps)) f.rising.each) f.each.0.own)

  pub kept : (first : Filed) (count : ℕ) → first_pair pairs ≡ Some first → count ≡ length (records_under pairs) → count ≤ 1000000 → AreKept first.0 count pairs
  kept first count e counted few = record {
    filed = filed;
    apex = first_is first e ∙ sym (apex_first (records_under pairs) rules);
    counted = counted;
    lawful = record {
      rules = rules;
      limits = record {
        few = omega arith;
        small_sets = records_few (sets_under pairs) filed.rising;
        short = records_short (sets_under pairs) filed.rising;
      };
    };
  }

-- the sets of the first owner are the apex's
pub apex_sets : (at : List (List ℕ)) (count : ℕ) (pairs : List Filed) → AreKept at count pairs → items_of (option_map (λ pair. pair.1) (first_pair pairs)) ≡ items_of (value_at canonical_cmp at pairs)
apex_sets at count [] k = refl
apex_sets at count (p ∷ ps) k =
    let own : p.0 ≡ at = first_is (p ∷ ps) k.filed k.lawful.rules p refl ∙ sym (apex_first (records_under (p ∷ ps)) k.lawful.rules) ∙ sym k.apex in
    let tie : canonical_cmp at p.0 ≡ Equal = subst (λ name. canonical_cmp name p.0 ≡ Equal) own (tied_itself canonical_total p.0) in
    sym (ap (λ o. items_of (option_map (λ (q : Filed). q.1) (cond (is_eq o) (Some p) (find (λ (q : Filed). is_eq (canonical_cmp at q.0)) ps)))) tie)
