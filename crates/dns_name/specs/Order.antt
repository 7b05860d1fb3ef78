-- The laws of the two comparisons: whether names are the same, and their canonical order.
use Rattle.std.specs.Prelude.{◌≡◌, ℕ, List, reverse}
use Rattle.std.specs.Bool.{Decides}
use Rattle.std.specs.Cmp.{IsTotalOrder, IsEquivalence}
use Rattle.std.specs.Cmp.Lexicographic.{slice_cmp, pointwise_decides}
use Rattle.std.specs.Ordering.{nat_cmp, eq_by_cmp, is_eq, ordering_then}
use Rattle.std.specs.declared.cmp.Ordering.{Ordering}
use Rattle.std.specs.declared.cmp.Ordering.TheVariants.{Less, Equal, Greater}
use Rattle.std.proofs.Common.{refl, ap, [], ◌∷◌}
use Rattle.std.proofs.lemmas.Bool.Decides.{same_from_decides, Decides-at}
use Rattle.std.proofs.lemmas.Cmp.{on_equiv, on_total, lists_equiv, lists_total, nat_list_cmp_total, nat_list_eq_equiv}
use Rattle.std.proofs.lemmas.List.{reverse-reverse}
use Rattle.std.proofs.lemmas.Map.Text.{is_eq-slice_cmp}
use Rattle.std.proofs.lemmas.Slice.Eq.{bytes_eq-Decides}
use Rattle.dns_name.specs.Name.{Name, is_same, fold_name, canonical_cmp}

-- two names are the same where they are equal once folded
pub is_same_Decides : (name other : Name) → Decides (is_same name other) (fold_name name ≡ fold_name other)
is_same_Decides name other = pointwise_decides bytes_eq-Decides (fold_name name) (fold_name other)

-- to be the same is an equivalence
pub is_same_equiv : IsEquivalence is_same
is_same_equiv = on_equiv fold_name (lists_equiv nat_list_eq_equiv)

-- the canonical order is total
pub canonical_total : IsTotalOrder canonical_cmp
canonical_total = on_total (λ (name : Name). reverse (fold_name name)) (lists_total nat_list_cmp_total)

tied_both : (a b : Ordering) (x y : List ℕ) (xs ys : List (List ℕ)) → Decides (is_eq a) (x ≡ y) → Decides (is_eq b) (xs ≡ ys) → Decides (is_eq (ordering_then a b)) (x ∷ xs ≡ y ∷ ys)
tied_both Less b x y xs ys first rest = (λ e. cc, λ e. let same : x ≡ y = cc in first.1 same)
tied_both Equal b x y xs ys first rest = (λ e. let same = first.0 refl in let more = rest.0 e in cc, λ e. let same : xs ≡ ys = cc in rest.1 same)
tied_both Greater b x y xs ys first rest = (λ e. cc, λ e. let same : x ≡ y = cc in first.1 same)

-- lists of labels tie where they are equal
tied_Decides : (xs ys : List (List ℕ)) → Decides (is_eq (slice_cmp (slice_cmp nat_cmp) xs ys)) (xs ≡ ys)
tied_Decides [] [] = (λ e. refl, λ e. refl)
tied_Decides [] (y ∷ ys) = (λ e. cc, λ e. cc)
tied_Decides (x ∷ xs) [] = (λ e. cc, λ e. cc)
tied_Decides (x ∷ xs) (y ∷ ys) =
    tied_both (slice_cmp nat_cmp x y) (slice_cmp (slice_cmp nat_cmp) xs ys) x y xs ys
    (Decides-at _ _ (is_eq-slice_cmp x y) (bytes_eq-Decides x y)) (tied_Decides xs ys)

-- names tie in it where they are the same
pub is_same_tied : (name other : Name) → is_same name other ≡ eq_by_cmp canonical_cmp name other
is_same_tied name other =
    let tied = tied_Decides (reverse (fold_name name)) (reverse (fold_name other)) in
    let both = is_same_Decides name other in
    let own = reverse-reverse (fold_name name) in
    let others = reverse-reverse (fold_name other) in
    same_from_decides (is_same name other) (eq_by_cmp canonical_cmp name other) both
    (λ e. let same = ap reverse (tied.0 e) in cc, λ e. tied.1 (ap reverse e))
