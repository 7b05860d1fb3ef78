-- The ancestors of a stored name are the fronts of its octets that are whole labels.
use Rattle.std.proofs.Common.{◌≡◌, refl, sym, ap, subst, ◌∙◌, inl, inr, ℕ, zero, suc, ◌+◌, ◌-◌, ◌<◌, ◌≤◌, Bool, true, false, List, [], ◌∷◌, ◌++◌, length, map, reverse, take, drop, get_or, max, All, ◌||◌, Option, None, Some, unwrap_or, append_assoc, arith}
use Rattle.std.specs.Char.{to_ascii_lowercase}
use Rattle.std.specs.List.{flat_map, find}
use Rattle.std.proofs.lemmas.Bool.{cases_lt}
use Rattle.std.proofs.lemmas.Grind.{flat_map-append}
use Rattle.std.proofs.lemmas.List.{reverse-append, reverse-reverse, length-append, length-map, length-reverse, length-take-le, map-append, take_at, drop_at, take-append-le, take-append-drop}
use Rattle.std.proofs.lemmas.List.Elements.{All-tail}
use Rattle.dns_name.specs.Name.{IsLabel, IsName, fold_name, is_under, is_one_under, wire_of, self_and_ancestors, parent_of}
use Rattle.dns_name.specs.Sought.{IsCommon, IsCommonWith}
use Rattle.dns_name.specs.Stored.{stored_octet, stored_label, stored_of, name_stored, IsStored}
use Rattle.dns_name.proofs.StoredLemmas.{labels_back, front_from_under, under_from_front}

-- the stored form of labels
abbrev pub octets_of : List (List ℕ) → List ℕ
octets_of labels = flat_map stored_label labels

-- what stands for the octets of a label closes none
open_at : (label : List ℕ) (i : ℕ) → i < length (flat_map stored_octet label) → get_or (flat_map stored_octet label) i 0 ≡ 0 → ⊥
open_at [] i h e = omega arith
open_at (zero ∷ label) zero h e = omega arith
open_at (zero ∷ label) (suc zero) h e = omega arith
open_at (zero ∷ label) (suc (suc i)) h e = open_at label i (omega arith) e
open_at (suc zero ∷ label) zero h e = omega arith
open_at (suc zero ∷ label) (suc zero) h e = omega arith
open_at (suc zero ∷ label) (suc (suc i)) h e = open_at label i (omega arith) e
open_at (suc (suc c) ∷ label) zero h e = omega arith
open_at (suc (suc c) ∷ label) (suc i) h e = open_at label i (omega arith) e

-- the octet that closes one
closing_at : (own rest : List ℕ) → get_or (own ++ 0 ∷ rest) (length own) 0 ≡ 0
closing_at [] rest = refl
closing_at (c ∷ own) rest = closing_at own rest

at_front : (xs ys : List ℕ) (i : ℕ) → i < length xs → get_or (xs ++ ys) i 0 ≡ get_or xs i 0
at_front [] ys i h = absurd (omega arith)
at_front (x ∷ xs) ys zero h = refl
at_front (x ∷ xs) ys (suc i) h = at_front xs ys i (omega arith)

at_behind : (xs ys : List ℕ) (i j : ℕ) → j ≡ length xs + i → get_or (xs ++ ys) j 0 ≡ get_or ys i 0
at_behind [] ys i j e = let same : j ≡ i = omega arith in ap (λ (n : ℕ). get_or ys n 0) same
at_behind (x ∷ xs) ys i zero e = absurd (omega arith)
at_behind (x ∷ xs) ys i (suc j) e = at_behind xs ys i j (omega arith)

-- labels whose first ones take so many octets
record Splits (labels : List (List ℕ)) (k : ℕ) : Type 0 where
  front : List (List ℕ)
  back : List (List ℕ)
  is : labels ≡ front ++ back
  len : length (octets_of front) ≡ k

-- whole labels end at the front, or where a label is closed
splits : (labels : List (List ℕ)) (k : ℕ) → k ≤ length (octets_of labels) → ((j : ℕ) → k ≡ suc j → get_or (octets_of labels) j 0 ≡ 0) → Splits labels k
splits [] k h w = record { front = []; back = []; is = refl; len = omega arith }
splits (x ∷ labels) zero h w = record { front = []; back = x ∷ labels; is = refl; len = refl }
splits (x ∷ labels) (suc j) h w =
    let own = flat_map stored_octet x in
    let rest = octets_of labels in
    let whole = append_assoc own (0 ∷ []) rest in
    let closed : get_or (own ++ 0 ∷ rest) j 0 ≡ 0 = ap (λ (octets : List ℕ). get_or octets j 0) (sym whole) ∙ w j refl in
    let size = ap length whole in
    let both = length-append own (0 ∷ rest) in
    elim (cases_lt j (length own)) [
      | inl lt ↦ absurd (open_at x j lt (sym (at_front own (0 ∷ rest) j lt) ∙ closed))
      | inr ge ↦
          let more = splits labels (j - length own) (omega arith)
          (λ i e.
          sym (at_behind own (0 ∷ rest) (suc i) j (omega arith)) ∙ closed) in
          let one = length-append own (0 ∷ []) in
          let front = length-append (own ++ 0 ∷ []) (octets_of more.front) in
          record {
            front = x ∷ more.front;
            back = more.back;
            is = ap (λ (ls : List (List ℕ)). x ∷ ls) more.is;
            len = omega (arith, more.len);
          }
    ]

-- what is behind labels of a name
behind_all : {X : Type 0} (P : X → Type 0) (xs ys : List X) → All P (xs ++ ys) → All P ys
behind_all P [] ys h = h
behind_all P (x ∷ xs) ys h = behind_all P xs ys (All-tail P x (xs ++ ys) h)

behind_name : (front name : List (List ℕ)) → IsName (front ++ name) → IsName name
behind_name [] name h = h
behind_name (label ∷ front) name h =
    let size = length-append label (wire_of (front ++ name)) in
    let short = h.short in
    behind_name front name (record { labels = All-tail IsLabel label (front ++ name) h.labels; short = omega arith })

behind_folded : (front name : List (List ℕ)) → front ++ name ≡ fold_name (front ++ name) → name ≡ fold_name name
behind_folded front name e =
    let both = map-append (map to_ascii_lowercase) front name in
    let len = length-map front (map to_ascii_lowercase) in
    sym (drop_at front name (length front) refl) ∙ ap (drop (length front)) (e ∙ both) ∙ drop_at (fold_name front) (fold_name name) (length front) len

-- the front of a stored name's octets, up to where whole labels end, is its ancestor with these labels
pub record IsAncestor (octets : List ℕ) (k : ℕ) : Type 0 where
  -- the labels behind it, as they are stored
  pub more : List (List ℕ)
  pub is : name_stored octets ≡ reverse more ++ name_stored (take k octets)
  pub stored : IsStored (take k octets)
  pub octets_are : octets ≡ take k octets ++ octets_of more
  pub len : length (take k octets) ≡ k

pub ancestor_at : (octets : List ℕ) (k : ℕ) → IsStored octets → k ≤ length octets → ((j : ℕ) → k ≡ suc j → get_or octets j 0 ≡ 0) → IsAncestor octets k
ancestor_at octets k h fits closed =
    let name = name_stored octets in
    let labels = reverse (fold_name name) in
    let size = ap length h.is in
    let cut = splits labels k (omega arith) (λ j e. ap (λ (os : List ℕ). get_or os j 0) (sym h.is) ∙ closed j e) in
    let both = flat_map-append stored_label cut.front cut.back in
    let whole : octets ≡ octets_of cut.front ++ octets_of cut.back = h.is ∙ ap octets_of cut.is ∙ both in
    let front : take k octets ≡ octets_of cut.front = ap (take k) whole ∙ take_at (octets_of cut.front) (octets_of cut.back) k cut.len in
    let named : name_stored (take k octets) ≡ reverse cut.front = ap name_stored front ∙ ap reverse (labels_back cut.front) in
    let all : fold_name name ≡ reverse cut.back ++ reverse cut.front = sym (reverse-reverse (fold_name name)) ∙ ap reverse cut.is ∙ reverse-append cut.front cut.back in
    let is : name ≡ reverse cut.back ++ name_stored (take k octets) = h.folded ∙ all ∙ ap (λ (n : List (List ℕ)). reverse cut.back ++ n) (sym named) in
    let folded = behind_folded (reverse cut.back) (name_stored (take k octets)) (sym is ∙ h.folded ∙ ap fold_name is) in
    record {
      more = cut.back;
      is = is;
      stored = record {
        is = front ∙ ap octets_of (sym (reverse-reverse cut.front) ∙ ap reverse (sym named ∙ folded));
        name = behind_name (reverse cut.back) (name_stored (take k octets)) (subst IsName is h.name);
        folded = folded;
        bytes = behind_all (All (λ octet. octet < 256)) (reverse cut.back) (name_stored (take k octets)) (subst (All (All (λ octet. octet < 256))) is h.bytes);
      };
      octets_are = whole ∙ ap (λ (os : List ℕ). os ++ octets_of cut.back) (sym front);
      len = ap length front ∙ cut.len;
    }

-- the front of all octets but the last that is whole labels is the parent
not_two : (octets : List ℕ) (k : ℕ) (x y : List ℕ) (ys : List (List ℕ)) → octets ≡ take k octets ++ octets_of (x ∷ y ∷ ys) → length (take k octets) ≡ k → ((j : ℕ) → k ≤ j → suc j < length octets → get_or octets j 0 ≡ 0 → ⊥) → ⊥
not_two octets k x y ys e len none =
    let own = flat_map stored_octet x in
    let next = flat_map stored_octet y in
    let rest = octets_of (y ∷ ys) in
    let whole : octets ≡ take k octets ++ (own ++ 0 ∷ rest) = e ∙ ap (λ (os : List ℕ). take k octets ++ os) (append_assoc own (0 ∷ []) rest) in
    let size = ap length whole in
    let first = length-append (take k octets) (own ++ 0 ∷ rest) in
    let second = length-append own (0 ∷ rest) in
    let third = length-append (next ++ 0 ∷ []) (octets_of ys) in
    let fourth = length-append next (0 ∷ []) in
    let closed : get_or octets (k + length own) 0 ≡ 0 =
    ap (λ (os : List ℕ). get_or os (k + length own) 0) whole ∙ at_behind (take k octets) (own ++ 0 ∷ rest) (length own) (k + length own) (omega arith) ∙ closing_at own rest in
    none (k + length own) (omega arith) (omega arith) closed

parent_by : (octets : List ℕ) (k : ℕ) (more : List (List ℕ)) → k < length octets → octets ≡ take k octets ++ octets_of more → length (take k octets) ≡ k
    → ((j : ℕ) → k ≤ j → suc j < length octets → get_or octets j 0 ≡ 0 → ⊥) → (name above : List (List ℕ)) → name ≡ reverse more ++ above → parent_of name ≡ Some above
parent_by octets k [] fits e len none name above is = absurd (omega (arith, ap length e, length-append (take k octets) []))
parent_by octets k (x ∷ []) fits e len none name above is = ap parent_of is
parent_by octets k (x ∷ y ∷ more) fits e len none name above is = absurd (not_two octets k x y more e len none)

pub parent_at : (octets : List ℕ) (k : ℕ) → IsStored octets → k < length octets → ((j : ℕ) → k ≡ suc j → get_or octets j 0 ≡ 0) → ((j : ℕ) → k ≤ j → suc j < length octets → get_or octets j 0 ≡ 0 → ⊥)
    → parent_of (name_stored octets) ≡ Some (name_stored (take k octets))
parent_at octets k h fits closed none =
    let at = ancestor_at octets k h (omega arith) closed in
    parent_by octets k at.more fits at.octets_are at.len none (name_stored octets) (name_stored (take k octets)) at.is

-- a search of a name and its ancestors finds the first that passes
pub find_behind : (p : List (List ℕ) → Bool) (front name : List (List ℕ)) → p name ≡ true → ((xs ys : List (List ℕ)) (label : List ℕ) → front ≡ xs ++ label ∷ ys → p (label ∷ ys ++ name) ≡ false)
    → find p (self_and_ancestors (front ++ name)) ≡ Some name
find_behind p [] [] here none = rw here refl
find_behind p [] (label ∷ name) here none = rw here refl
find_behind p (label ∷ front) name here none = rw (none [] front label refl) (find_behind p front name here (λ xs ys l e. none (label ∷ xs) ys l (ap (λ (ls : List (List ℕ)). label ∷ ls) e)))

-- what both begin with isn't longer
common_most : (both r s : List ℕ) (k : ℕ) → IsCommon (both ++ r) (both ++ s) k → length both ≤ k
common_most both r s k h =
    elim (cases_lt k (length both)) [
      | inl lt ↦
          absurd
          (h.apart (omega (arith, length-append both r)) (omega (arith, length-append both s)) (at_front both r k lt ∙ sym (at_front both s k lt)))
      | inr ge ↦ ge
    ]

-- where the octets of a label more are common, that label is closed there
no_more : (octets other front r s : List ℕ) (labels : List (List ℕ)) (most own : ℕ) → 0 < length labels → octets ≡ front ++ (octets_of labels ++ r) → other ≡ front ++ (octets_of labels ++ s) → IsCommon octets other own → own ≤ most
    → ((j : ℕ) → length front ≤ j → j < most → get_or octets j 0 ≡ 0 → ⊥) → ⊥
no_more octets other front r s [] most own some e f common le none = omega arith
no_more octets other front r s (z ∷ labels) most own some e f common le none =
    let w = flat_map stored_octet z in
    let more = octets_of labels in
    let left = append_assoc (w ++ 0 ∷ []) more r in
    let right = append_assoc (w ++ 0 ∷ []) more s in
    let both = front ++ (w ++ 0 ∷ []) in
    let octets_are : octets ≡ both ++ (more ++ r) = e ∙ ap (λ (os : List ℕ). front ++ os) left ∙ sym (append_assoc front (w ++ 0 ∷ []) (more ++ r)) in
    let other_is : other ≡ both ++ (more ++ s) = f ∙ ap (λ (os : List ℕ). front ++ os) right ∙ sym (append_assoc front (w ++ 0 ∷ []) (more ++ s)) in
    let long = common_most both (more ++ r) (more ++ s) own (subst (λ (os : List ℕ). IsCommon (both ++ (more ++ r)) os own) other_is (subst (λ (os : List ℕ). IsCommon os other own) octets_are common)) in
    let size = length-append front (w ++ 0 ∷ []) in
    let last = length-append w (0 ∷ []) in
    let label_closed : octets ≡ front ++ (w ++ 0 ∷ (more ++ r)) = e ∙ ap (λ (os : List ℕ). front ++ os) (left ∙ append_assoc w (0 ∷ []) (more ++ r)) in
    let closed : get_or octets (length front + length w) 0 ≡ 0 =
    ap (λ (os : List ℕ). get_or os (length front + length w) 0) label_closed ∙ at_behind front (w ++ 0 ∷ (more ++ r)) (length w) (length front + length w) refl ∙ closing_at w (more ++ r) in
    none (length front + length w) (omega arith) (omega arith) closed

take_less : (k n : ℕ) (xs : List ℕ) → k ≤ n → n ≤ length xs → take k (take n xs) ≡ take k xs
take_less k n xs h fits = sym (take-append-le k (take n xs) (drop n xs) (omega (arith, length-take-le n xs fits))) ∙ ap (take k) (take-append-drop n xs)

not_true : (b : Bool) → (b ≡ true → ⊥) → b ≡ false
not_true true f = absurd (f refl)
not_true false f = refl

-- a stored name whose octets have so many in common with a sought name's: it is under the ancestor of these labels, and under none that
-- has labels more
module _ (octets : List ℕ) (k most : ℕ) (h : IsStored octets) (at : IsAncestor octets k) (none : (j : ℕ) → k ≤ j → j < most → get_or octets j 0 ≡ 0 → ⊥) where
  abbrev ancestor : List (List ℕ)
  ancestor = name_stored (take k octets)

  pub under_common : (other : List (List ℕ)) (own : ℕ) → IsCommon octets (stored_of other) own → k ≤ own → is_under other ancestor ≡ true
  under_common other own common le =
      let same : take k octets ≡ take k (stored_of other) = sym (take_less k own octets le common.within) ∙ ap (take k) common.same ∙ take_less k own (stored_of other) le common.others in
      under_from_front other ancestor (drop k (stored_of other))
      (sym (take-append-drop k (stored_of other)) ∙ ap (λ (os : List ℕ). os ++ drop k (stored_of other)) (sym same ∙ at.stored.is))

  -- the stored form of a name between
  between : (xs ys : List (List ℕ)) (label : List ℕ) → reverse at.more ≡ xs ++ label ∷ ys → stored_of ((label ∷ ys) ++ ancestor) ≡ take k octets ++ octets_of (reverse (label ∷ ys))
  between xs ys label e =
      let name = (label ∷ ys) ++ ancestor in
      let is : name_stored octets ≡ xs ++ name = at.is ∙ ap (λ (n : List (List ℕ)). n ++ ancestor) e ∙ append_assoc xs (label ∷ ys) ancestor in
      let folded : name ≡ fold_name name = behind_folded xs name (sym is ∙ h.folded ∙ ap fold_name is) in
      let order : reverse name ≡ reverse ancestor ++ reverse (label ∷ ys) = reverse-append (label ∷ ys) ancestor in
      ap (λ (n : List (List ℕ)). octets_of (reverse n)) (sym folded) ∙ ap octets_of order ∙ flat_map-append stored_label (reverse ancestor) (reverse (label ∷ ys))
      ∙ ap (λ (n : List (List ℕ)). octets_of (reverse n) ++ octets_of (reverse (label ∷ ys))) at.stored.folded
      ∙ ap (λ (os : List ℕ). os ++ octets_of (reverse (label ∷ ys))) (sym at.stored.is)

  pub not_under : (other : List (List ℕ)) (own : ℕ) → IsCommon octets (stored_of other) own → own ≤ most → (xs ys : List (List ℕ)) (label : List ℕ) → reverse at.more ≡ xs ++ label ∷ ys → is_under other ((label ∷ ys) ++ ancestor) ≡ false
  not_under other own common le xs ys label e =
      not_true (is_under other ((label ∷ ys) ++ ancestor))
      (λ under.
      let front = front_from_under other ((label ∷ ys) ++ ancestor) under in
      let labels = reverse (label ∷ ys) in
      let more : at.more ≡ labels ++ reverse xs = sym (reverse-reverse at.more) ∙ ap reverse e ∙ reverse-append xs (label ∷ ys) in
      let own_is : octets ≡ take k octets ++ (octets_of labels ++ octets_of (reverse xs)) = at.octets_are ∙ ap (λ (os : List ℕ). take k octets ++ os) (ap octets_of more ∙ flat_map-append stored_label labels (reverse xs)) in
      let other_is : stored_of other ≡ take k octets ++ (octets_of labels ++ front.0) =
      front.1 ∙ ap (λ (os : List ℕ). os ++ front.0) (between xs ys label e) ∙ append_assoc (take k octets) (octets_of labels) front.0 in
      let size : length labels ≡ length ys + 1 = ap length (reverse-append (label ∷ []) ys) ∙ length-append (reverse ys) (label ∷ []) ∙ ap (λ (n : ℕ). n + 1) (length-reverse ys) in
      no_more octets (stored_of other) (take k octets) (octets_of (reverse xs)) front.0 labels most own (omega arith) own_is other_is common le
      (λ j ge lt zero_at. none j (omega (arith, at.len)) lt zero_at))

both_false : (a b : Bool) → a ≡ false → b ≡ false → (a || b) ≡ false
both_false true b e f = e
both_false false b e f = f

or_right : (a b : Bool) → b ≡ true → (a || b) ≡ true
or_right true b e = refl
or_right false b e = e

find_nothing : {X : Type 0} (p : X → Bool) (xs : List X) → ((x : X) → p x ≡ false) → find p xs ≡ None
find_nothing p [] none = refl
find_nothing p (x ∷ xs) none = rw (none x) (find_nothing p xs none)

module _ (octets : List ℕ) (k : ℕ) (h : IsStored octets) (closed : (j : ℕ) → k ≡ suc j → get_or octets j 0 ≡ 0) where
  module _ (most : ℕ) (at : IsAncestor octets k) (none : (j : ℕ) → k ≤ j → j < most → get_or octets j 0 ≡ 0 → ⊥) where
    one_false : (o : Option (List (List ℕ))) (own : ℕ) → IsCommonWith octets o own → own ≤ most → (xs ys : List (List ℕ)) (label : List ℕ) → reverse at.more ≡ xs ++ label ∷ ys
        → is_one_under o ((label ∷ ys) ++ name_stored (take k octets)) ≡ false
    one_false None own common le xs ys label e = refl
    one_false (Some other) own common le xs ys label e = not_under octets k most h at none other own common le xs ys label e

    one_true : (o p : Option (List (List ℕ))) (own others : ℕ) → IsCommonWith octets o own → IsCommonWith octets p others → k ≤ max own others → (o ≡ None → p ≡ None → ⊥)
        → (is_one_under o (name_stored (take k octets)) || is_one_under p (name_stored (take k octets))) ≡ true
    one_true None None own others common more le some = absurd (some refl refl)
    one_true None (Some other) own others common more le some = under_common octets k most h at none other others more (omega arith)
    one_true (Some name) None own others common more le some = rw (under_common octets k most h at none name own common (omega arith)) refl
    one_true (Some name) (Some other) own others common more le some =
        elim (cases_lt own k) [
          | inl lt ↦ or_right (is_under name (name_stored (take k octets))) (is_under other (name_stored (take k octets))) (under_common octets k most h at none other others more (omega arith))
          | inr ge ↦ rw (under_common octets k most h at none name own common ge) refl
        ]

  closest_by : (o p : Option (List (List ℕ))) (own others : ℕ) → IsCommonWith octets o own → IsCommonWith octets p others → k ≤ max own others → max own others ≤ length octets
      → ((j : ℕ) → k ≤ j → j < max own others → get_or octets j 0 ≡ 0 → ⊥) → (o ≡ None → p ≡ None → ⊥)
      → find (λ a. is_one_under o a || is_one_under p a) (self_and_ancestors (name_stored octets)) ≡ Some (name_stored (take k octets))
  closest_by o p own others common more le fits none some =
      let at = ancestor_at octets k h (omega arith) closed in
      let most = max own others in
      ap (λ (n : List (List ℕ)). find (λ a. is_one_under o a || is_one_under p a) (self_and_ancestors n)) at.is
      ∙ find_behind (λ a. is_one_under o a || is_one_under p a) (reverse at.more) (name_stored (take k octets)) (one_true most at none o p own others common more le some)
      (λ xs ys label e.
      both_false (is_one_under o ((label ∷ ys) ++ name_stored (take k octets))) (is_one_under p ((label ∷ ys) ++ name_stored (take k octets)))
      (one_false most at none o own common (omega arith) xs ys label e) (one_false most at none p others more (omega arith) xs ys label e))

  -- of a name and its ancestors, the one with most labels that one of two names is under; the root where there is none of them
  pub closest_at : (o p : Option (List (List ℕ))) (own others : ℕ) → IsCommonWith octets o own → IsCommonWith octets p others → k ≤ max own others → max own others ≤ length octets
      → ((j : ℕ) → k ≤ j → j < max own others → get_or octets j 0 ≡ 0 → ⊥)
      → unwrap_or (find (λ a. is_one_under o a || is_one_under p a) (self_and_ancestors (name_stored octets))) [] ≡ name_stored (take k octets)
  closest_at None None own others common more le fits none =
      let nothing : k ≡ 0 = omega arith in
      ap (λ (o : Option (List (List ℕ))). unwrap_or o []) (find_nothing (λ a. is_one_under None a || is_one_under None a) (self_and_ancestors (name_stored octets)) (λ a. refl))
      ∙ ap (λ (n : ℕ). name_stored (take n octets)) (sym nothing)
  closest_at None (Some other) own others common more le fits none = ap (λ (o : Option (List (List ℕ))). unwrap_or o []) (closest_by None (Some other) own others common more le fits none (λ e f. cc))
  closest_at (Some name) p own others common more le fits none = ap (λ (o : Option (List (List ℕ))). unwrap_or o []) (closest_by (Some name) p own others common more le fits none (λ e f. cc))
