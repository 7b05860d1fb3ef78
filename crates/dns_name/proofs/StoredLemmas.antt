-- The stored form of names: that its order is the canonical order, and that it is read back.
use Rattle.std.proofs.Common.{◌≡◌, ◌≤◌, ◌<◌, ◌+◌, ℕ, zero, suc, ◌==◌, eqb, nat_lt, List, [], ◌∷◌, ◌++◌, length, map, reverse, take, drop, position, All, Bool, true, false, Some, None, refl, sym, ap, subst, ◌∙◌, append_assoc, arith}
use Rattle.std.specs.Char.{to_ascii_lowercase}
use Rattle.std.specs.Cmp.Lexicographic.{slice_cmp}
use Rattle.std.specs.List.{flat_map, starts_with, position_or_len}
use Rattle.std.specs.Ordering.{nat_cmp, ordering_then, is_eq}
use Rattle.std.specs.Str.{bytes_eq}
use Rattle.std.specs.declared.cmp.Ordering.{Ordering}
use Rattle.std.specs.declared.cmp.Ordering.TheVariants.{Less, Greater}
use Rattle.std.proofs.lemmas.Bool.Decides.{nat_tests, Decides-eqb}
use Rattle.std.proofs.lemmas.Grind.{flat_map-append}
use Rattle.std.proofs.lemmas.List.{reverse-append, reverse-reverse, append-nil, length-append, take_at, drop_at}
use Rattle.std.proofs.lemmas.Map.Text.{is_eq-slice_cmp}
use Rattle.std.proofs.lemmas.Slice.Eq.{starts_is}
use Rattle.std.proofs.lemmas.Str.Ascii.{lowercase-lowercase}
use Rattle.std.proofs.lemmas.List.Elements.{All-head, All-tail, All-same, All-push, All-weaker}
use Rattle.dns_name.specs.Gather.{front_of}
use Rattle.dns_name.specs.Labels.{labels_in, IsWhole}
use Rattle.dns_name.specs.Name.{IsLabel, IsName, canonical_cmp, fold_name, is_same, is_under, wire_of}
use Rattle.dns_name.specs.Order.{is_same_tied}
use Rattle.dns_name.specs.Stored.{stored_octet, stored_label, stored_of, pieces, octets_stored, labels_stored, name_stored, IsStored, IsFirstPiece}
use Rattle.dns_name.specs.Text.{onto_first}
use Rattle.dns_name.proofs.GatherLemmas.{front_last, wire_of-front}
use Rattle.dns_name.proofs.LabelLemmas.{IsWhole-wire_of, labels_in-wire_of}
use Rattle.dns_name.proofs.LawLemmas.{ending_from_under, under_from_ending}
use Rattle.dns_name.proofs.OrderLemmas.{then_assoc}

less_is : (a b : ℕ) → a < b → nat_cmp a b ≡ Less
less_is a b h = grind (arith, nat_tests)

greater_is : (a b : ℕ) → b < a → nat_cmp a b ≡ Greater
greater_is a b h = grind (arith, nat_tests)

-- octets that differ in front
front_less : (a b : ℕ) (r s : List ℕ) → a < b → slice_cmp nat_cmp (a ∷ r) (b ∷ s) ≡ Less
front_less a b r s h = ap (λ (o : Ordering). ordering_then o (slice_cmp nat_cmp r s)) (less_is a b h)

front_greater : (a b : ℕ) (r s : List ℕ) → b < a → slice_cmp nat_cmp (a ∷ r) (b ∷ s) ≡ Greater
front_greater a b r s h = ap (λ (o : Ordering). ordering_then o (slice_cmp nat_cmp r s)) (greater_is a b h)

-- labels that differ in front
label_less : (a b : ℕ) (xs ys : List ℕ) (o : Ordering) → a < b → ordering_then (slice_cmp nat_cmp (a ∷ xs) (b ∷ ys)) o ≡ Less
label_less a b xs ys o h = ap (λ (p : Ordering). ordering_then p o) (front_less a b xs ys h)

label_greater : (a b : ℕ) (xs ys : List ℕ) (o : Ordering) → b < a → ordering_then (slice_cmp nat_cmp (a ∷ xs) (b ∷ ys)) o ≡ Greater
label_greater a b xs ys o h = ap (λ (p : Ordering). ordering_then p o) (front_greater a b xs ys h)

-- a label and what is behind it, against another
stored_cmp : (xs ys r s : List ℕ) → slice_cmp nat_cmp (flat_map stored_octet xs ++ 0 ∷ r) (flat_map stored_octet ys ++ 0 ∷ s) ≡ ordering_then (slice_cmp nat_cmp xs ys) (slice_cmp nat_cmp r s)
stored_cmp [] [] r s = refl
stored_cmp [] (zero ∷ ys) r s = refl
stored_cmp [] (suc zero ∷ ys) r s = refl
stored_cmp [] (suc (suc d) ∷ ys) r s = front_less 0 (suc (suc d)) r (flat_map stored_octet ys ++ 0 ∷ s) (omega arith)
stored_cmp (zero ∷ xs) [] r s = refl
stored_cmp (suc zero ∷ xs) [] r s = refl
stored_cmp (suc (suc c) ∷ xs) [] r s = front_greater (suc (suc c)) 0 (flat_map stored_octet xs ++ 0 ∷ r) s (omega arith)
stored_cmp (zero ∷ xs) (zero ∷ ys) r s = stored_cmp xs ys r s
stored_cmp (zero ∷ xs) (suc zero ∷ ys) r s = refl
stored_cmp (zero ∷ xs) (suc (suc d) ∷ ys) r s =
    front_less 1 (suc (suc d)) (1 ∷ flat_map stored_octet xs ++ 0 ∷ r) (flat_map stored_octet ys ++ 0 ∷ s) (omega arith)
    ∙ sym (label_less 0 (suc (suc d)) xs ys (slice_cmp nat_cmp r s) (omega arith))
stored_cmp (suc zero ∷ xs) (zero ∷ ys) r s = refl
stored_cmp (suc zero ∷ xs) (suc zero ∷ ys) r s = stored_cmp xs ys r s
stored_cmp (suc zero ∷ xs) (suc (suc d) ∷ ys) r s =
    front_less 1 (suc (suc d)) (2 ∷ flat_map stored_octet xs ++ 0 ∷ r) (flat_map stored_octet ys ++ 0 ∷ s) (omega arith)
    ∙ sym (label_less 1 (suc (suc d)) xs ys (slice_cmp nat_cmp r s) (omega arith))
stored_cmp (suc (suc c) ∷ xs) (zero ∷ ys) r s =
    front_greater (suc (suc c)) 1 (flat_map stored_octet xs ++ 0 ∷ r) (1 ∷ flat_map stored_octet ys ++ 0 ∷ s) (omega arith)
    ∙ sym (label_greater (suc (suc c)) 0 xs ys (slice_cmp nat_cmp r s) (omega arith))
stored_cmp (suc (suc c) ∷ xs) (suc zero ∷ ys) r s =
    front_greater (suc (suc c)) 1 (flat_map stored_octet xs ++ 0 ∷ r) (2 ∷ flat_map stored_octet ys ++ 0 ∷ s) (omega arith)
    ∙ sym (label_greater (suc (suc c)) 1 xs ys (slice_cmp nat_cmp r s) (omega arith))
stored_cmp (suc (suc c) ∷ xs) (suc (suc d) ∷ ys) r s =
    ap (ordering_then (nat_cmp (suc (suc c)) (suc (suc d)))) (stored_cmp xs ys r s)
    ∙ sym (then_assoc (nat_cmp (suc (suc c)) (suc (suc d))) (slice_cmp nat_cmp xs ys) (slice_cmp nat_cmp r s))

-- no label is stored as nothing
some_behind : (xs r : List ℕ) → slice_cmp nat_cmp [] (stored_label xs ++ r) ≡ Less
some_behind [] r = refl
some_behind (zero ∷ xs) r = refl
some_behind (suc zero ∷ xs) r = refl
some_behind (suc (suc c) ∷ xs) r = refl

some_before : (xs r : List ℕ) → slice_cmp nat_cmp (stored_label xs ++ r) [] ≡ Greater
some_before [] r = refl
some_before (zero ∷ xs) r = refl
some_before (suc zero ∷ xs) r = refl
some_before (suc (suc c) ∷ xs) r = refl

labels_cmp : (xs ys : List (List ℕ)) → slice_cmp nat_cmp (flat_map stored_label xs) (flat_map stored_label ys) ≡ slice_cmp (slice_cmp nat_cmp) xs ys
labels_cmp [] [] = refl
labels_cmp [] (y ∷ ys) = some_behind y (flat_map stored_label ys)
labels_cmp (x ∷ xs) [] = some_before x (flat_map stored_label xs)
labels_cmp (x ∷ xs) (y ∷ ys) =
    let own = append_assoc (flat_map stored_octet x) (0 ∷ []) (flat_map stored_label xs) in
    let others = append_assoc (flat_map stored_octet y) (0 ∷ []) (flat_map stored_label ys) in
    let first = stored_cmp x y (flat_map stored_label xs) (flat_map stored_label ys) in
    let rest = labels_cmp xs ys in
    cc

-- the order of the stored octets is the canonical order
pub stored_of-cmp : (name other : List (List ℕ)) → slice_cmp nat_cmp (stored_of name) (stored_of other) ≡ canonical_cmp name other
stored_of-cmp name other = labels_cmp (reverse (fold_name name)) (reverse (fold_name other))

-- a label's octets are read back
pub octets_back : (label : List ℕ) → octets_stored (flat_map stored_octet label) ≡ label
octets_back [] = refl
octets_back (zero ∷ label) = ap (λ (ls : List ℕ). 0 ∷ ls) (octets_back label)
octets_back (suc zero ∷ label) = ap (λ (ls : List ℕ). 1 ∷ ls) (octets_back label)
octets_back (suc (suc c) ∷ label) = ap (λ (ls : List ℕ). suc (suc c) ∷ ls) (octets_back label)

-- a label is the first piece of its stored form
first_piece : (label rest : List ℕ) → pieces (flat_map stored_octet label ++ 0 ∷ rest) ≡ flat_map stored_octet label ∷ pieces rest
first_piece [] rest = refl
first_piece (zero ∷ label) rest = ap (λ (ps : List (List ℕ)). onto_first 1 (onto_first 1 ps)) (first_piece label rest)
first_piece (suc zero ∷ label) rest = ap (λ (ps : List (List ℕ)). onto_first 1 (onto_first 2 ps)) (first_piece label rest)
first_piece (suc (suc c) ∷ label) rest = ap (onto_first (suc (suc c))) (first_piece label rest)

-- labels are read back from the front of octets
pub labels_front : (labels : List (List ℕ)) (rest : List ℕ) → labels_stored (flat_map stored_label labels ++ rest) ≡ labels ++ labels_stored rest
labels_front [] rest = refl
labels_front (label ∷ labels) rest =
    let own = flat_map stored_octet label in
    let behind = flat_map stored_label labels in
    let outer = append_assoc (own ++ 0 ∷ []) behind rest in
    let inner = append_assoc own (0 ∷ []) (behind ++ rest) in
    let piece = first_piece label (behind ++ rest) in
    let back = octets_back label in
    let more = labels_front labels rest in
    let whole : flat_map stored_label (label ∷ labels) ++ rest ≡ own ++ 0 ∷ (behind ++ rest) = cc in
    ap labels_stored whole ∙ ap (map octets_stored) piece ∙ ap (λ (l : List ℕ). l ∷ labels_stored (behind ++ rest)) back ∙ ap (λ (ls : List (List ℕ)). label ∷ ls) more

pub labels_back : (labels : List (List ℕ)) → labels_stored (flat_map stored_label labels) ≡ labels
labels_back labels =
    let none = append-nil (flat_map stored_label labels) in
    let nothing = append-nil labels in
    let front = labels_front labels [] in
    ap labels_stored (sym none) ∙ front ∙ nothing

-- a name is read back in lower case
pub name_back : (name : List (List ℕ)) → name_stored (stored_of name) ≡ fold_name name
name_back name = ap reverse (labels_back (reverse (fold_name name))) ∙ reverse-reverse (fold_name name)

-- one label more in front
pub stored_of-cons : (label : List ℕ) (name : List (List ℕ)) → stored_of (label ∷ name) ≡ stored_of name ++ stored_label (map to_ascii_lowercase label)
stored_of-cons label name =
    let own = map to_ascii_lowercase label in
    let order : reverse (own ∷ fold_name name) ≡ reverse (fold_name name) ++ own ∷ [] = reverse-append (own ∷ []) (fold_name name) in
    let both = flat_map-append stored_label (reverse (fold_name name)) (own ∷ []) in
    let none = append-nil (stored_label own) in
    ap (flat_map stored_label) order ∙ both ∙ ap (λ (xs : List ℕ). stored_of name ++ xs) none

-- folding again changes nothing
fold_label-fold_label : (label : List ℕ) → map to_ascii_lowercase (map to_ascii_lowercase label) ≡ map to_ascii_lowercase label
fold_label-fold_label [] = refl
fold_label-fold_label (x ∷ label) =
    let first = lowercase-lowercase x in
    let rest = fold_label-fold_label label in
    cc

pub fold_name-fold_name : (name : List (List ℕ)) → fold_name (fold_name name) ≡ fold_name name
fold_name-fold_name [] = refl
fold_name-fold_name (label ∷ name) =
    let first = fold_label-fold_label label in
    let rest = fold_name-fold_name name in
    cc

-- and neither does it change the stored form
pub stored_of-fold : (name : List (List ℕ)) → stored_of (fold_name name) ≡ stored_of name
stored_of-fold name = ap (λ (n : List (List ℕ)). flat_map stored_label (reverse n)) (fold_name-fold_name name)

-- octets that are stored are the stored form of their name
pub stored_is : (octets : List ℕ) (name : List (List ℕ)) → IsStored octets → name_stored octets ≡ name → octets ≡ stored_of name
stored_is octets name h e = h.is ∙ ap stored_of e

pub stored_folded : (octets : List ℕ) (sought name : List (List ℕ)) → IsStored octets → name_stored octets ≡ sought → sought ≡ fold_name name → octets ≡ stored_of name
stored_folded octets sought name h e f = h.is ∙ ap stored_of (e ∙ f) ∙ stored_of-fold name

-- the stored form of a name is stored
pub IsStored-of : (name : List (List ℕ)) → IsName (fold_name name) → All (All (λ octet. octet < 256)) (fold_name name) → IsStored (stored_of name)
IsStored-of name lawful bytes =
    let back = name_back name in
    let again = stored_of-fold name in
    let twice = fold_name-fold_name name in
    record {
      is = sym again ∙ ap stored_of (sym back);
      name = subst IsName (sym back) lawful;
      folded = back ∙ sym twice ∙ ap fold_name (sym back);
      bytes = subst (All (All (λ octet. octet < 256))) (sym back) bytes;
    }

-- one pass over stored octets gives the canonical order
pub order_at : (own others : List ℕ) (name other : List (List ℕ)) → own ≡ stored_of name → others ≡ stored_of other → slice_cmp nat_cmp own others ≡ canonical_cmp name other
order_at own others name other e f = let law = stored_of-cmp name other in cc

-- a name is under another where its stored form begins with the other's
pub under_from_front : (name other : List (List ℕ)) (rest : List ℕ) → stored_of name ≡ stored_of other ++ rest → is_under name other ≡ true
under_from_front name other rest e =
    let more = labels_stored rest in
    let labels : reverse (fold_name name) ≡ reverse (fold_name other) ++ more =
    sym (labels_back (reverse (fold_name name))) ∙ ap labels_stored e ∙ labels_front (reverse (fold_name other)) rest
    in
    let ends : fold_name name ≡ reverse more ++ fold_name other =
    sym (reverse-reverse (fold_name name)) ∙ ap reverse labels ∙ reverse-append (reverse (fold_name other)) more
    ∙ ap (λ (n : List (List ℕ)). reverse more ++ n) (reverse-reverse (fold_name other))
    in
    under_from_ending name other (reverse more) ends

pub front_from_under : (name other : List (List ℕ)) → is_under name other ≡ true → (rest : List ℕ) × (stored_of name ≡ stored_of other ++ rest)
front_from_under name other h =
    let ending = ending_from_under name other h in
    let front = ending.0 in
    let labels : reverse (fold_name name) ≡ reverse (fold_name other) ++ reverse front =
    ap reverse ending.1 ∙ reverse-append front (fold_name other)
    in
    (flat_map stored_label (reverse front), ap (flat_map stored_label) labels ∙ flat_map-append stored_label (reverse (fold_name other)) (reverse front))

pub either_way : (a b : Bool) → (a ≡ true → b ≡ true) → (b ≡ true → a ≡ true) → a ≡ b
either_way true b f g = sym (f refl)
either_way false true f g = g refl
either_way false false f g = refl

pub under_at : (r : Bool) (own others : List ℕ) (name other : List (List ℕ)) → own ≡ stored_of name → others ≡ stored_of other → r ≡ starts_with eqb own others → r ≡ is_under name other
under_at r own others name other e f test =
    let starts = starts_is Decides-eqb own others r test in
    either_way r (is_under name other)
    (λ t. let front = starts.0 t in under_from_front name other (drop (length others) own) (sym e ∙ front ∙ ap (λ (xs : List ℕ). xs ++ drop (length others) own) f))
    (λ t. let front = front_from_under name other t in starts.1 front.0 (e ∙ front.1 ∙ ap (λ (xs : List ℕ). xs ++ front.0) (sym f)))

-- and equal stored forms are those of names that are the same
pub same_at : (own others : List ℕ) (name other : List (List ℕ)) → own ≡ stored_of name → others ≡ stored_of other → bytes_eq own others ≡ is_same name other
same_at own others name other e f =
    let order = order_at own others name other e f in
    sym (is_eq-slice_cmp own others) ∙ ap is_eq order ∙ sym (is_same_tied name other)

-- the place of the octet that closes the first label
not_closing : (c : ℕ) → (suc c == 0) ≡ false
not_closing c = grind (arith, nat_tests)

abbrev pub closes : ℕ → Bool
closes octet = octet == 0

place_in : (label rest : List ℕ) → position_or_len closes (flat_map stored_octet label ++ 0 ∷ rest) ≡ length (flat_map stored_octet label)
place_in [] rest = refl
place_in (zero ∷ label) rest = let e = place_in label rest in omega arith
place_in (suc zero ∷ label) rest = let e = place_in label rest in omega arith
place_in (suc (suc c) ∷ label) rest = let e = place_in label rest in rw (not_closing (suc c)) (omega arith)

lt_true : (n m : ℕ) → n < m → nat_lt n m ≡ true
lt_true n m h = grind (arith, nat_tests)

pub place_is : (label rest : List ℕ) → position closes (flat_map stored_octet label ++ 0 ∷ rest) ≡ Some (length (flat_map stored_octet label))
place_is label rest =
    let place = place_in label rest in
    let both = length-append (flat_map stored_octet label) (0 ∷ rest) in
    let within = lt_true (length (flat_map stored_octet label)) (length (flat_map stored_octet label ++ 0 ∷ rest)) (omega arith) in
    rw (place, within) refl

-- labels whose stored form octets are, by cases
pub no_piece : (labels : List (List ℕ)) (octets : List ℕ) → octets ≡ flat_map stored_label labels → labels_stored octets ≡ labels → position closes octets ≡ None → labels_stored octets ≡ []
no_piece [] octets e f none = f
no_piece (label ∷ labels) octets e f none =
    let assoc = append_assoc (flat_map stored_octet label) (0 ∷ []) (flat_map stored_label labels) in
    let place = place_is label (flat_map stored_label labels) in
    let found : position closes octets ≡ Some (length (flat_map stored_octet label)) = ap (position closes) (e ∙ assoc) ∙ place in
    absurd (cc)

pub record IsCut (octets : List ℕ) (at : ℕ) : Type 0 where
  pub within : at < length octets
  pub first : IsFirstPiece octets (take at octets) (drop (at + 1) octets)

pub one_piece : (labels : List (List ℕ)) (octets : List ℕ) (at : ℕ) → octets ≡ flat_map stored_label labels → labels_stored octets ≡ labels → position closes octets ≡ Some at → IsCut octets at
one_piece [] octets at e f found =
    let nothing : position closes octets ≡ None = ap (position closes) e in
    absurd (cc)
one_piece (label ∷ labels) octets at e f found =
    let own = flat_map stored_octet label in
    let rest = flat_map stored_label labels in
    let whole : octets ≡ own ++ 0 ∷ rest = e ∙ append_assoc own (0 ∷ []) rest in
    let place : position closes octets ≡ Some (length own) = ap (position closes) whole ∙ place_is label rest in
    let size : length own ≡ at = cc in
    let piece : take at octets ≡ own = ap (take at) whole ∙ take_at own (0 ∷ rest) at size in
    let one = length-append own (0 ∷ []) in
    let more : length (own ++ 0 ∷ []) ≡ at + 1 = omega arith in
    let behind : drop (at + 1) octets ≡ rest = ap (drop (at + 1)) e ∙ drop_at (own ++ 0 ∷ []) rest (at + 1) more in
    let all = ap length whole in
    let both = length-append own (0 ∷ rest) in
    let read : labels_stored (drop (at + 1) octets) ≡ labels = ap labels_stored behind ∙ labels_back labels in
    let left = ap length behind in
    record {
      within = omega arith;
      first = record {
        labels = f ∙ ap (λ (l : List ℕ). l ∷ labels) (sym (octets_back label) ∙ ap octets_stored (sym piece)) ∙ ap (λ (ls : List (List ℕ)). octets_stored (take at octets) ∷ ls) (sym read);
        octets_are = whole ∙ ap (λ (os : List ℕ). os ++ 0 ∷ rest) (sym piece) ∙ ap (λ (os : List ℕ). take at octets ++ 0 ∷ os) (sym behind);
        closed = behind ∙ ap (flat_map stored_label) (sym read);
        shorter = omega arith;
      };
    }

-- the front of a name, from the label in front of the others
pub front_reverse : (label : List ℕ) (labels : List (List ℕ)) → front_of (reverse (label ∷ labels)) ≡ front_of (reverse labels) ++ length label ∷ label
front_reverse label labels =
    let order : reverse (label ∷ labels) ≡ reverse labels ++ label ∷ [] = reverse-append (label ∷ []) labels in
    ap front_of order ∙ front_last (reverse labels) label

-- the front of the labels behind the first piece, and that of all
pub front_at : (octets piece rest : List ℕ) → IsFirstPiece octets piece rest → front_of (reverse (labels_stored octets)) ≡ front_of (reverse (labels_stored rest)) ++ length (octets_stored piece) ∷ octets_stored piece
front_at octets piece rest first = ap (λ (ls : List (List ℕ)). front_of (reverse ls)) first.labels ∙ front_reverse (octets_stored piece) (labels_stored rest)

-- the first of short labels, and the others
pub short_first : (octets piece rest : List ℕ) → IsFirstPiece octets piece rest → All (λ (label : List ℕ). length label < 64) (labels_stored octets) → length (octets_stored piece) < 64
short_first octets piece rest first h =
    let P : List ℕ → Type 0 = λ label. length label < 64 in
    All-head P (octets_stored piece) (labels_stored rest) (All-same P _ _ (sym first.labels) h)

pub short_rest : (octets piece rest : List ℕ) → IsFirstPiece octets piece rest → All (λ (label : List ℕ). length label < 64) (labels_stored octets) → All (λ (label : List ℕ). length label < 64) (labels_stored rest)
short_rest octets piece rest first h =
    let P : List ℕ → Type 0 = λ label. length label < 64 in
    All-tail P (octets_stored piece) (labels_stored rest) (All-same P _ _ (sym first.labels) h)

-- the front and the closing octet are the name on the wire
pub front_wire : (name : List (List ℕ)) → front_of name ++ 0 ∷ [] ≡ wire_of name
front_wire name = sym (wire_of-front name []) ∙ ap wire_of (append-nil name)

All-reversed : {X : Type 0} (P : X → Type 0) (xs : List X) → All P xs → All P (reverse xs)
All-reversed P [] h = h
All-reversed P (x ∷ xs) h =
    let order : reverse (x ∷ xs) ≡ reverse xs ++ x ∷ [] = reverse-append (x ∷ []) xs in
    All-same P (reverse (x ∷ xs)) (reverse xs ++ x ∷ []) order (All-push P (reverse xs) x (All-reversed P xs (All-tail P x xs h)) (All-head P x xs h))

-- the labels of a name are short, whichever comes first
pub short_labels : (labels : List (List ℕ)) → All IsLabel (reverse labels) → All (λ (label : List ℕ). length label < 64) labels
short_labels labels h =
    let P : List ℕ → Type 0 = λ label. length label < 64 in
    let short = All-weaker IsLabel P (λ (label : List ℕ) is. is.short) (reverse labels) h in
    All-same P labels (reverse (reverse labels)) (sym (reverse-reverse labels)) (All-reversed P (reverse labels) short)

-- a name's octets from their front and the closing one
pub record IsWire (octets : List ℕ) (name : List (List ℕ)) : Type 0 where
  pub whole : IsWhole octets
  pub short : length octets ≤ 255
  pub named : labels_in octets ≡ name

pub wire_at : (octets front before : List ℕ) (name : List (List ℕ)) → IsName name → before ≡ [] → front ≡ before ++ front_of name → octets ≡ front ++ 0 ∷ [] → IsWire octets name
wire_at octets front before name h none e f =
    let is : front ≡ front_of name = rw none at e in
    let wire : octets ≡ wire_of name = f ∙ ap (λ (xs : List ℕ). xs ++ 0 ∷ []) is ∙ front_wire name in
    let size = ap length wire in
    let short = h.short in
    record {
      whole = subst IsWhole (sym wire) (IsWhole-wire_of name h.labels);
      short = omega arith;
      named = ap labels_in wire ∙ labels_in-wire_of name h.labels;
    }

pub front_room : (front before : List ℕ) (name : List (List ℕ)) → IsName name → before ≡ [] → front ≡ before ++ front_of name → length front < 255
front_room front before name h none e =
    let is : front ≡ front_of name = rw none at e in
    let same = ap length is in
    let wire = ap length (front_wire name) in
    let both = length-append (front_of name) (0 ∷ []) in
    let short = h.short in
    omega arith

-- what the labels of a name in octets make
pub made : (octets before wire : List ℕ) (folded name : List (List ℕ)) → before ≡ [] → octets ≡ before ++ flat_map stored_label (reverse (labels_in wire)) → labels_in wire ≡ folded → folded ≡ fold_name name → octets ≡ stored_of name
made octets before wire folded name none e is f =
    let own : octets ≡ flat_map stored_label (reverse (labels_in wire)) = rw none at e in
    own ∙ ap (λ (n : List (List ℕ)). flat_map stored_label (reverse n)) (is ∙ f)

-- a label behind the front of the others
pub room_for : (old front label : ℕ) → old + (front + (label + 1)) < 255 → old + front + label + 2 ≤ 255
room_for old front label h = omega arith

-- a name in lower case stands to each name as the name itself does
pub cmp_folded : (name other : List (List ℕ)) → canonical_cmp (fold_name name) other ≡ canonical_cmp name other
cmp_folded name other = ap (λ (n : List (List ℕ)). slice_cmp (slice_cmp nat_cmp) (reverse n) (reverse (fold_name other))) (fold_name-fold_name name)

pub under_folded : (other name : List (List ℕ)) → is_under other (fold_name name) ≡ is_under other name
under_folded other name =
    either_way (is_under other (fold_name name)) (is_under other name)
    (λ t. let front = front_from_under other (fold_name name) t in under_from_front other name front.0 (front.1 ∙ ap (λ (xs : List ℕ). xs ++ front.0) (stored_of-fold name)))
    (λ t. let front = front_from_under other name t in under_from_front other (fold_name name) front.0 (front.1 ∙ ap (λ (xs : List ℕ). xs ++ front.0) (sym (stored_of-fold name))))
