-- Owners with their sets, where all sets of an owner are replaced.
use Rattle.std.proofs.Common.{◌≡◌, refl, sym, ap, ◌∙◌, subst, ℕ, ◌<◌, true, List, [], ◌∷◌, ◌++◌, length, arith, ⊎_elim}
use Rattle.std.specs.declared.cmp.Ordering.{Ordering}
use Rattle.std.specs.declared.cmp.Ordering.TheVariants.{Less, Equal, Greater}
use Rattle.std.specs.List.{filter, AllByRecursion}
use Rattle.std.specs.Ordering.{nat_cmp, is_lt, is_gt, is_ne, ordering_then, ordering_reverse}
use Rattle.std.proofs.lemmas.Bool.{cases_lt}
use Rattle.std.proofs.lemmas.Cmp.{tied_itself}
use Rattle.std.proofs.lemmas.Grind.{flat_map-append}
use Rattle.std.proofs.lemmas.List.Elements.{All-from_recursion, recursion_from_All}
use Rattle.dns_name.specs.Name.{is_same, canonical_cmp, fold_name}
use Rattle.dns_name.proofs.StoredLemmas.{cmp_folded}
use Rattle.dns_rdata.specs.Record.{Record, owner_of, rtype_of}
use Rattle.shared_tree.specs.Pairs.{value_at, pairs_below, pairs_above, pairs_with, pairs_without}
use Rattle.shared_tree.proofs.PairLemmas.{with_ascends, filter_ascends}
use Rattle.zone_tree.specs.Sets.{records_in, IsSetBefore, IsRRset, AreAscending}
use Rattle.zone_tree.specs.Filed.{Own, Filed, Owned, sets_under, records_under, IsFiled, AreFiled, items_of}
use Rattle.zone_tree.specs.Edit.{put_at, with_owner, with_owners, AreOwn}
use Rattle.zone_tree.proofs.NameOrder.{canonical_total, tie_from_same}
use Rattle.zone_tree.proofs.Rising.{each_weaker, each_append, each_filter, rises_from_pairs, pairs_from_rises}
use Rattle.zone_tree.proofs.SetLemmas.{filter_by_sets}
use Rattle.zone_tree.proofs.PutLemmas.{put_each, put_tied, put_between}
use Rattle.zone_tree.proofs.EditLemmas.{turned, value_key, own_sets, under_with, under_without}

-- how names stand that stand beside one
module _ (a b owner : List (List ℕ)) where
  pub name_low : canonical_cmp a owner ≡ Less → canonical_cmp b owner ≡ Equal → canonical_cmp a b ≡ Less
  name_low l e = canonical_total.antisymm a b ∙ ap ordering_reverse (canonical_total.congr b owner a e ∙ canonical_total.antisymm owner a ∙ ap ordering_reverse l)

  pub name_over : canonical_cmp a owner ≡ Less → canonical_cmp b owner ≡ Greater → canonical_cmp a b ≡ Less
  name_over l g = canonical_total.trans a owner b l (canonical_total.antisymm owner b ∙ ap ordering_reverse g)

  pub name_high : canonical_cmp a owner ≡ Equal → canonical_cmp b owner ≡ Greater → canonical_cmp a b ≡ Less
  name_high e g = canonical_total.congr a owner b e ∙ canonical_total.antisymm owner b ∙ ap ordering_reverse g

set_before : (s t : List Record) → canonical_cmp (owner_of s) (owner_of t) ≡ Less → IsSetBefore s t
set_before s t e = ap (λ o. is_lt (ordering_then o (nat_cmp (rtype_of s) (rtype_of t)))) e

module _ (owner : List (List ℕ)) where
  abbrev key : List (List ℕ)
  key = fold_name owner

  abbrev beside : List Record → Ordering
  beside s = canonical_cmp (owner_of s) owner

  own_less : (pair : Filed) → IsFiled pair → canonical_cmp key pair.0 ≡ Greater → AllByRecursion (λ s. beside s ≡ Less) pair.1.items
  own_less pair h e = each_weaker (λ s. owner_of s ≡ pair.0) (λ s. beside s ≡ Less) (λ s f. ap (λ n. canonical_cmp n owner) f ∙ turned owner 0 [] pair.0 Greater e) pair.1.items h.own

  own_greater : (pair : Filed) → IsFiled pair → canonical_cmp key pair.0 ≡ Less → AllByRecursion (λ s. beside s ≡ Greater) pair.1.items
  own_greater pair h e = each_weaker (λ s. owner_of s ≡ pair.0) (λ s. beside s ≡ Greater) (λ s f. ap (λ n. canonical_cmp n owner) f ∙ turned owner 0 [] pair.0 Less e) pair.1.items h.own

  own_ties : (sets : List (List Record)) → AllByRecursion (λ s. owner_of s ≡ key) sets → AllByRecursion (λ s. beside s ≡ Equal) sets
  own_ties sets h = each_weaker (λ s. owner_of s ≡ key) (λ s. beside s ≡ Equal) (λ s f. ap (λ n. canonical_cmp n owner) f ∙ cmp_folded owner owner ∙ tied_itself canonical_total owner) sets h

  -- the records of sets, some of them put in place of an owner's
  pub records_put : (others sets : List (List Record)) → AreAscending sets → records_in (put_at beside others sets) ≡ with_owner owner (records_in others) (records_in sets)
  records_put others sets h =
      let front = filter (λ s. is_lt (beside s)) sets in
      let back = filter (λ s. is_gt (beside s)) sets in
      flat_map-append (λ (s : List Record). s) (front ++ others) back ∙ ap (λ l. l ++ records_in back) (flat_map-append (λ (s : List Record). s) front others)
      ∙ (λ i. sym (filter_by_sets (λ o t. is_lt (canonical_cmp o owner)) sets h.each) i ++ records_in others ++ sym (filter_by_sets (λ o t. is_gt (canonical_cmp o owner)) sets h.each) i)

  module _ (own : Own) (mine : AreOwn owner own.items) (pairs : List Filed) (filed : AreFiled pairs) where
    abbrev sets : List (List Record)
    sets = sets_under pairs

    there_ties : AllByRecursion (λ s. beside s ≡ Equal) (items_of (value_at canonical_cmp key pairs))
    there_ties =
        subst (λ o. AllByRecursion (λ s. beside s ≡ Equal) (items_of o)) (value_key owner 0 [] pairs)
        (each_weaker (λ s. IsRRset s × (is_same (owner_of s) owner ≡ true)) (λ s. beside s ≡ Equal) (λ s h. tie_from_same (owner_of s) owner h.1) (items_of (value_at canonical_cmp owner pairs)) (own_sets owner 0 [] pairs filed))

    there : put_at beside own.items (items_of (value_at canonical_cmp key pairs)) ≡ own.items
    there = put_tied beside own.items (items_of (value_at canonical_cmp key pairs)) there_ties

    rises : AreAscending (put_at beside own.items sets)
    rises = record {
      each = All-from_recursion IsRRset (put_at beside own.items sets) (put_each beside own.items IsRRset sets (recursion_from_All IsRRset sets filed.rising.each) (recursion_from_All IsRRset own.items mine.rising.each));
      ascending = pairs_from_rises IsSetBefore (put_at beside own.items sets)
          (put_between IsSetBefore beside
          (λ s t l e. set_before s t (name_low (owner_of s) (owner_of t) owner l e)) (λ s t l g. set_before s t (name_over (owner_of s) (owner_of t) owner l g)) (λ s t e g. set_before s t (name_high (owner_of s) (owner_of t) owner e g))
          own.items sets (rises_from_pairs IsSetBefore sets filed.rising.ascending) (rises_from_pairs IsSetBefore own.items mine.rising.ascending) (own_ties own.items mine.own));
    }

    sets_with : sets_under (pairs_with canonical_cmp key own pairs) ≡ put_at beside own.items sets
    sets_with = under_with key beside own.items own_less own_greater pairs filed.each filed.ascends own (sym there)

    filed_with : 0 < length own.items → AreFiled (pairs_with canonical_cmp key own pairs)
    filed_with some = record {
      rising = subst AreAscending (sym sets_with) rises;
      each = each_append IsFiled (pairs_below canonical_cmp key pairs) ((key, own) ∷ pairs_above canonical_cmp key pairs)
          (each_filter (λ pair. is_gt (canonical_cmp key pair.0)) IsFiled pairs filed.each)
          (record { some = some; own = mine.own }, each_filter (λ pair. is_lt (canonical_cmp key pair.0)) IsFiled pairs filed.each);
      ascends = with_ascends canonical_cmp canonical_total key own pairs filed.ascends;
    }

    none : length own.items ≡ 0 → own.items ≡ []
    none e = by own.items e
      where
        by : (l : List (List Record)) → length l ≡ 0 → l ≡ []
        by [] f = refl
        by (x ∷ xs) f = absurd (omega arith)

    sets_without : length own.items ≡ 0 → sets_under (pairs_without canonical_cmp key pairs) ≡ put_at beside own.items sets
    sets_without e = under_without key beside own.items own_less own_greater pairs filed.each filed.ascends (there ∙ none e)

    filed_without : length own.items ≡ 0 → AreFiled (pairs_without canonical_cmp key pairs)
    filed_without e = record {
      rising = subst AreAscending (sym (sets_without e)) rises;
      each = each_filter (λ pair. is_ne (canonical_cmp key pair.0)) IsFiled pairs filed.each;
      ascends = filter_ascends canonical_cmp (λ pair. is_ne (canonical_cmp key pair.0)) pairs filed.ascends;
    }

    -- so are the owners in order again, with these sets
    module _ (next : List Filed) (kept : 0 < length own.items → next ≡ pairs_with canonical_cmp key own pairs) (gone : length own.items ≡ 0 → next ≡ pairs_without canonical_cmp key pairs) where
      both : AreFiled next × (sets_under next ≡ put_at beside own.items sets)
      both =
          ⊎_elim
          (λ some. (subst AreFiled (sym (kept some)) (filed_with some), ap sets_under (kept some) ∙ sets_with))
          (λ few. let none : length own.items ≡ 0 = omega arith in (subst AreFiled (sym (gone none)) (filed_without none), ap sets_under (gone none) ∙ sets_without none))
          (cases_lt 0 (length own.items))

      pub next_filed : AreFiled next
      next_filed = both.0

      pub next_records : records_under next ≡ with_owner owner (records_in own.items) (records_under pairs)
      next_records = ap records_in both.1 ∙ records_put own.items sets filed.rising

-- one owner's sets behind those of others
pub with_owners-last : (zone : List Record) (front : List Owned) (last : Owned) → with_owners zone (front ++ last ∷ []) ≡ with_owner last.0 (records_in last.1.items) (with_owners zone front)
with_owners-last zone [] last = refl
with_owners-last zone (own ∷ front) last = with_owners-last (with_owner own.0 (records_in own.1.items) zone) front last
