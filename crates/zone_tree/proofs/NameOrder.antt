-- Facts on the canonical order of names: which names it ties, and that the names under one stand together in it,
-- that name first.
use Rattle.std.proofs.Common.{◌≡◌, refl, sym, ap, ◌∙◌, subst, ℕ, Bool, true, false, ◌&&◌, ◌||◌, List, [], ◌∷◌, ◌++◌, map, reverse, true≢false}
use Rattle.std.specs.declared.cmp.Ordering.{Ordering}
use Rattle.std.specs.declared.cmp.Ordering.TheVariants.{Less, Equal, Greater}
use Rattle.std.specs.Prelude.{bytes_eq}
use Rattle.std.specs.Char.{to_ascii_lowercase}
use Rattle.std.specs.Ordering.{nat_cmp, is_gt, is_eq, ordering_then, ordering_reverse}
use Rattle.std.specs.Cmp.{Equal-is, first_so, second_so}
use Rattle.std.proofs.lemmas.List.{reverse-reverse, reverse-append}
use Rattle.std.specs.Cmp.Lexicographic.{slice_cmp, bytes_decides, texts_ties}
use Rattle.std.proofs.lemmas.Cmp.{nat_list_cmp_total, tied_itself}
use Rattle.dns_name.specs.Name.{fold_name, is_same, is_under, canonical_cmp}
use Rattle.dns_name.specs.Order.{is_same_Decides, is_same_tied}
pub use Rattle.dns_name.specs.Order.{canonical_total}

-- a name's folded labels from the rightmost on
abbrev pub key : List (List ℕ) → List (List ℕ)
key name = reverse (fold_name name)

-- the order of labels, and of keys
abbrev pub label_cmp : List ℕ → List ℕ → Ordering
label_cmp = slice_cmp nat_cmp

abbrev pub keys_cmp : List (List ℕ) → List (List ℕ) → Ordering
keys_cmp = slice_cmp label_cmp

-- names are the same exactly where their labels, folded, are
pub folds_from_same : (a b : List (List ℕ)) → is_same a b ≡ true → fold_name a ≡ fold_name b
folds_from_same a b e = (is_same_Decides a b).0 e

pub same_from_folds : (a b : List (List ℕ)) → fold_name a ≡ fold_name b → is_same a b ≡ true
same_from_folds a b e = (is_same_Decides a b).1 e

-- the order ties exactly the names that are the same
pub same_from_tie : (a b : List (List ℕ)) → canonical_cmp a b ≡ Equal → is_same a b ≡ true
same_from_tie a b e = is_same_tied a b ∙ ap is_eq e

pub tie_from_same : (a b : List (List ℕ)) → is_same a b ≡ true → canonical_cmp a b ≡ Equal
tie_from_same a b e = (Equal-is (canonical_cmp a b)).0 (sym (is_same_tied a b) ∙ e)

-- whether a list of labels begins with another
abbrev pub begins : List (List ℕ) → List (List ℕ) → Bool
begins [] ys = true
begins (x ∷ xs) [] = false
begins (x ∷ xs) (y ∷ ys) = bytes_eq x y && begins xs ys

-- a list that begins with another isn't before it
pub begun_not_before : (ns os : List (List ℕ)) → begins ns os ≡ true → is_gt (keys_cmp ns os) ≡ false
begun_not_before [] [] e = refl
begun_not_before [] (o ∷ os) e = refl
begun_not_before (n ∷ ns) [] e = absurd (true≢false (sym e))
begun_not_before (n ∷ ns) (o ∷ os) e =
    let same : n ≡ o = (bytes_decides n o).0 (first_so (bytes_eq n o) (begins ns os) e) in
    let tied : label_cmp n o ≡ Equal = ap (label_cmp n) (sym same) ∙ tied_itself nat_list_cmp_total n in
    rw tied (begun_not_before ns os (second_so (bytes_eq n o) (begins ns os) e))

-- of the lists between one and a list that begins with it, each begins with it: by cases of how the first label lies
between_by : (n x o : List ℕ) (ns xs os : List (List ℕ)) (c : Ordering) → label_cmp n x ≡ c → n ≡ o → is_gt (ordering_then c (keys_cmp ns xs)) ≡ false → is_gt (ordering_then (label_cmp x o) (keys_cmp xs os)) ≡ false
    → (is_gt (keys_cmp ns xs) ≡ false → is_gt (keys_cmp xs os) ≡ false → begins ns xs ≡ true) → begins (n ∷ ns) (x ∷ xs) ≡ true
between_by n x o ns xs os Less c same low high rest =
    let back : label_cmp x o ≡ Greater = ap (label_cmp x) (sym same) ∙ nat_list_cmp_total.antisymm x n ∙ ap ordering_reverse c in
    absurd (true≢false (rw back at high))
between_by n x o ns xs os Equal c same low high rest =
    let alike : n ≡ x = (bytes_decides n x).0 (texts_ties n x ∙ ap is_eq c) in
    let tied : label_cmp x o ≡ Equal = ap (label_cmp x) (sym same) ∙ ap (label_cmp x) alike ∙ tied_itself nat_list_cmp_total x in
    let first : bytes_eq n x ≡ true = (bytes_decides n x).1 alike in
    rw first (rest low (rw tied at high))
between_by n x o ns xs os Greater c same low high rest = absurd (true≢false low)

pub begins_between : (ns xs os : List (List ℕ)) → begins ns os ≡ true → is_gt (keys_cmp ns xs) ≡ false → is_gt (keys_cmp xs os) ≡ false → begins ns xs ≡ true
begins_between [] xs os e low high = refl
begins_between (n ∷ ns) xs [] e low high = absurd (true≢false (sym e))
begins_between (n ∷ ns) [] (o ∷ os) e low high = absurd (true≢false low)
begins_between (n ∷ ns) (x ∷ xs) (o ∷ os) e low high =
    between_by n x o ns xs os (label_cmp n x) refl ((bytes_decides n o).0 (first_so (bytes_eq n o) (begins ns os) e)) low high
    (begins_between ns xs os (second_so (bytes_eq n o) (begins ns os) e))

-- a list begins with another exactly where it is another with more labels behind it
pub begins_with_rest : (ns os : List (List ℕ)) → begins ns (ns ++ os) ≡ true
begins_with_rest [] os = refl
begins_with_rest (n ∷ ns) os = rw ((bytes_decides n n).1 refl) (begins_with_rest ns os)

pub rest_from_begins : (ns os : List (List ℕ)) → begins ns os ≡ true → (rest : List (List ℕ)) × (os ≡ ns ++ rest)
rest_from_begins [] os e = (os, refl)
rest_from_begins (n ∷ ns) [] e = absurd (true≢false (sym e))
rest_from_begins (n ∷ ns) (o ∷ os) e =
    let more = rest_from_begins ns os (second_so (bytes_eq n o) (begins ns os) e) in
    (more.0, λ i. sym ((bytes_decides n o).0 (first_so (bytes_eq n o) (begins ns os) e)) i ∷ more.1 i)

or_false : (b : Bool) → (b || false) ≡ true → b ≡ true
or_false true e = refl
or_false false e = e

or_right : (b c : Bool) → c ≡ true → (b || c) ≡ true
or_right true c e = refl
or_right false c e = e

front_by : (label : List ℕ) (name other : List (List ℕ)) (b : Bool) → is_same (label ∷ name) other ≡ b → (b || is_under name other) ≡ true
    → (is_under name other ≡ true → (front : List (List ℕ)) × (fold_name name ≡ front ++ fold_name other)) → (front : List (List ℕ)) × (fold_name (label ∷ name) ≡ front ++ fold_name other)
front_by label name other true same e more = ([], folds_from_same (label ∷ name) other same)
front_by label name other false same e more =
    let front = more e in
    (map to_ascii_lowercase label ∷ front.0, ap (λ k. map to_ascii_lowercase label ∷ k) front.1)

-- a name is under another exactly where it has labels in front of it
pub front_from_under : (name other : List (List ℕ)) → is_under name other ≡ true → (front : List (List ℕ)) × (fold_name name ≡ front ++ fold_name other)
front_from_under [] other e = ([], folds_from_same [] other (or_false (is_same [] other) e))
front_from_under (label ∷ name) other e = front_by label name other (is_same (label ∷ name) other) refl e (front_from_under name other)

pub under_from_front : (name other front : List (List ℕ)) → fold_name name ≡ front ++ fold_name other → is_under name other ≡ true
under_from_front [] other [] e = rw (same_from_folds [] other e) refl
under_from_front [] other (f ∷ front) e = cc
under_from_front (label ∷ name) other [] e = rw (same_from_folds (label ∷ name) other e) refl
under_from_front (label ∷ name) other (f ∷ front) e = or_right (is_same (label ∷ name) other) (is_under name other) (under_from_front name other front (cc))

-- a name is under another exactly where its key begins with the other's
pub begins_from_under : (name other : List (List ℕ)) → is_under name other ≡ true → begins (key other) (key name) ≡ true
begins_from_under name other e =
    let front = front_from_under name other e in
    subst (λ k. begins (key other) k ≡ true) (sym (ap reverse front.1 ∙ reverse-append front.0 (fold_name other))) (begins_with_rest (key other) (reverse front.0))

pub under_from_begins : (name other : List (List ℕ)) → begins (key other) (key name) ≡ true → is_under name other ≡ true
under_from_begins name other e =
    let rest = rest_from_begins (key other) (key name) e in
    under_from_front name other (reverse rest.0)
    (sym (reverse-reverse (fold_name name)) ∙ ap reverse rest.1 ∙ reverse-append (key other) rest.0 ∙ ap (λ k. reverse rest.0 ++ k) (reverse-reverse (fold_name other)))

-- a name under another isn't before it
pub under_not_before : (name other : List (List ℕ)) → is_under name other ≡ true → is_gt (canonical_cmp other name) ≡ false
under_not_before name other e = begun_not_before (key other) (key name) (begins_from_under name other e)

-- of the names between one and a name under it, each is under it
pub under_between : (other name far : List (List ℕ)) → is_under far other ≡ true → is_gt (canonical_cmp other name) ≡ false → is_gt (canonical_cmp name far) ≡ false → is_under name other ≡ true
under_between other name far e low high =
    under_from_begins name other (begins_between (key other) (key name) (key far) (begins_from_under far other e) low high)
