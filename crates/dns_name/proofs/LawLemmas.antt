-- What the laws say, proved of the definitions alone.
use Rattle.std.proofs.Common.{◌≡◌, ℕ, ◌≤◌, ◌↔◌, ◌⊎◌, inl, inr, Bool, true, false, ◌||◌, IsTrue, nat_le, List, [], ◌∷◌, ◌++◌, length, drop, map, All, Some, refl, sym, ap, ◌∙◌, arith}
use Rattle.std.specs.Char.{to_ascii_lowercase}
use Rattle.std.specs.Ordering.{is_eq}
use Rattle.std.specs.declared.cmp.Ordering.{Ordering}
use Rattle.std.specs.declared.cmp.Ordering.TheVariants.{Less, Equal, Greater}
use Rattle.std.proofs.lemmas.Bool.Decides.{nat_tests}
use Rattle.std.proofs.lemmas.List.{drop_at, length-map}
use Rattle.std.proofs.lemmas.List.Elements.{All-cons, All-nil, All-weaker}
use Rattle.dns_name.specs.Name.{wire_of, IsName, fold_name, is_same, is_under, self_and_ancestors, canonical_cmp, name_in}
use Rattle.dns_name.specs.Order.{is_same_Decides, is_same_tied}
use Rattle.dns_name.proofs.LabelLemmas.{wire_of-fold, fold_labels}
use Rattle.dns_name.proofs.ReadLemmas.{name_in_read, IsRead-from, labels_read-wire_of}

-- what is read is a name that stands in front
pub name_in-is_present : (octets : List ℕ) (name : List (List ℕ)) → name_in octets ≡ Some name → IsName name × (octets ≡ wire_of name ++ drop (length (wire_of name)) octets)
name_in-is_present octets name e =
    let read = name_in_read octets name e in
    let is = IsRead-from 0 octets (name, read.rest) read.is in
    let rest = drop_at (wire_of name) read.rest (length (wire_of name)) refl in
    let stand = is.stand in
    let behind = ap (drop (length (wire_of name))) stand in
    (record { labels = is.labels; short = read.short }, cc)

at_most : (n : ℕ) → n ≤ 255 → nat_le n 255 ≡ true
at_most n h = grind (arith, nat_tests)

pub name_in-wire_of : (name : List (List ℕ)) (rest : List ℕ) → IsName name → name_in (wire_of name ++ rest) ≡ Some name
name_in-wire_of name rest h =
    let read = labels_read-wire_of name rest h.labels in
    let t : nat_le (length (wire_of name)) 255 ≡ true = at_most _ h.short in
    rw (read, t)

pub fold-IsName : (name : List (List ℕ)) → IsName name → IsName (fold_name name) × (length (wire_of (fold_name name)) ≡ length (wire_of name))
fold-IsName name h =
    let octets = ap length (wire_of-fold name h.labels) in
    let len = length-map (wire_of name) to_ascii_lowercase in
    let short = h.short in
    let same : length (wire_of (fold_name name)) ≡ length (wire_of name) = cc in
    (record { labels = fold_labels name h.labels; short = omega arith }, same)

is_eq_equal : (o : Ordering) → is_eq o ≡ true → o ≡ Equal
is_eq_equal Less e = cc
is_eq_equal Equal e = refl
is_eq_equal Greater e = cc

-- names tie where they are the same
pub ties_same : (name other : List (List ℕ)) → (canonical_cmp name other ≡ Equal) ↔ IsTrue (is_same name other)
ties_same name other =
    let tied = is_same_tied name other in
    (λ e. tied ∙ ap is_eq e, λ same. is_eq_equal (canonical_cmp name other) (sym tied ∙ same))

or_right : (a b : Bool) → b ≡ true → (a || b) ≡ true
or_right true b e = refl
or_right false b e = e

or_left : (a b : Bool) → a ≡ true → (a || b) ≡ true
or_left true b e = refl
or_left false b e = cc

same_under : (name other : List (List ℕ)) → is_same name other ≡ true → is_under name other ≡ true
same_under [] other e = or_left (is_same [] other) false e
same_under (label ∷ name) other e = or_left (is_same (label ∷ name) other) _ e

pub under_each : (name : List (List ℕ)) → All (λ ancestor. IsTrue (is_under name ancestor)) (self_and_ancestors name)
under_each [] =
    let P : List (List ℕ) → Type 0 = λ ancestor. IsTrue (is_under [] ancestor) in
    All-cons P [] [] (same_under [] [] ((is_same_Decides [] []).1 refl)) (All-nil P)
under_each (label ∷ name) =
    All-cons (λ (ancestor : List (List ℕ)). IsTrue (is_under (label ∷ name) ancestor)) (label ∷ name) (self_and_ancestors name)
    (same_under (label ∷ name) (label ∷ name) ((is_same_Decides (label ∷ name) (label ∷ name)).1 refl))
    (All-weaker (λ (ancestor : List (List ℕ)). IsTrue (is_under name ancestor)) (λ (ancestor : List (List ℕ)). IsTrue (is_under (label ∷ name) ancestor))
    (λ (ancestor : List (List ℕ)) under. or_right (is_same (label ∷ name) ancestor) (is_under name ancestor) under) (self_and_ancestors name) (under_each name))

either_true : (a b : Bool) → (a || b) ≡ true → (a ≡ true) ⊎ (b ≡ true)
either_true true b e = inl refl
either_true false b e = inr e

-- the other's labels end those of a name that is under it
pub ending_from_under : (name other : List (List ℕ)) → is_under name other ≡ true → (front : List (List ℕ)) × (fold_name name ≡ front ++ fold_name other)
ending_from_under [] other e =
    elim (either_true (is_same [] other) false e) [
      | inl same ↦ ([], (is_same_Decides [] other).0 same)
      | inr other_one ↦ cc
    ]
ending_from_under (label ∷ name) other e =
    elim (either_true (is_same (label ∷ name) other) (is_under name other) e) [
      | inl same ↦ ([], (is_same_Decides (label ∷ name) other).0 same)
      | inr under ↦ (let rest = ending_from_under name other under in (map to_ascii_lowercase label ∷ rest.0, ap (λ (n : List (List ℕ)). map to_ascii_lowercase label ∷ n) rest.1))
    ]

pub under_from_ending : (name other front : List (List ℕ)) → fold_name name ≡ front ++ fold_name other → is_under name other ≡ true
under_from_ending name other [] e = same_under name other ((is_same_Decides name other).1 e)
under_from_ending [] other (f ∷ front) e = cc
under_from_ending (label ∷ name) other (f ∷ front) e =
    let rest : fold_name name ≡ front ++ fold_name other = cc in
    or_right (is_same (label ∷ name) other) (is_under name other) (under_from_ending name other front rest)
