-- What closing and lengthening the label in hand does, and the name of the closed labels.
use Rattle.std.proofs.Common.{◌≡◌, ℕ, min, ◌+◌, ◌<◌, ◌≤◌, ◌↔◌, ◌⊎◌, inl, inr, Bool, true, false, not, cond, ◌||◌, ◌==◌, nat_lt, IsTrue, List, [], ◌∷◌, ◌++◌, length, take, All, Result, Ok, Err, IsOk, OnOk, OnErr, refl, sym, ap, ◌∙◌, arith}
use Rattle.std.specs.Bool.{OnTrue}
use Rattle.std.specs.List.{list_any}
use Rattle.std.proofs.lemmas.Bool.Decides.{nat_tests, Decides-ltb, when_true}
use Rattle.std.proofs.lemmas.List.{append-nil, append_assoc, length-append, length-take, take_all, take-append-le}
use Rattle.std.proofs.lemmas.List.Elements.{All-nil, All-cons, All-append, All-head, All-tail}
use Rattle.std.proofs.lemmas.List.Folds.{list_any-append}
use Rattle.dns_name.specs.Gather.{IsGathered, HasFront, front_of}
use Rattle.dns_name.specs.Labels.{IsWhole, labels_in}
use Rattle.dns_name.specs.Name.{wire_of, IsLabel, IsName}
use Rattle.dns_name.specs.Text.{lawful}
use Rattle.dns_name.specs.declared.text.Gathered.{Gathered}
use Rattle.dns_name.specs.declared.text.NameFault.TheVariants.{LabelTooLong, NameTooLong, EmptyLabel}
use Rattle.dns_name.proofs.LabelLemmas.{IsWhole-wire_of, labels_in-wire_of}
use Rattle.dns_name.proofs.ReadLemmas.{wire_some}

lt_true : (m n : ℕ) → m < n → nat_lt m n ≡ true
lt_true m n h = (Decides-ltb m n).1 h

pub lt_false : (m n : ℕ) → n ≤ m → nat_lt m n ≡ false
lt_false m n h = grind (arith, nat_tests)

lt_is : (m n : ℕ) → nat_lt m n ≡ true → m < n
lt_is m n h = (Decides-ltb m n).0 h

lt_not : (m n : ℕ) → nat_lt m n ≡ false → n ≤ m
lt_not m n h = grind (arith, nat_tests)

or_false : (b : Bool) → (b || false) ≡ b
or_false true = refl
or_false false = refl

neither : (a b : Bool) → (a || b) ≡ false → (a ≡ false) × (b ≡ false)
neither true b e = cc
neither false b e = (refl, e)

-- the label in hand with one octet more
pub pushed : {E V : Type 0} (items : V → List ℕ) (r : Result (Unit {0}) E) (old new : V) (label : List ℕ) (octet : ℕ) → (IsOk r ↔ (length (items old) < 64)) → OnOk r (items new ≡ items old ++ octet ∷ []) → OnErr r (new ≡ old) → items old ≡ take 64 label → items new ≡ take 64 (label ++ octet ∷ [])
pushed items (Ok u) old new label octet room put full e =
    let len = ap length e in
    let min = length-take 64 label in
    let small = room.0 refl in
    let own = take_all 64 label (omega arith) in
    let more = length-append label (octet ∷ []) in
    let all = take_all 64 (label ++ octet ∷ []) (omega arith) in
    let same : items old ≡ label = cc in
    cc
pushed items (Err f) old new label octet room put full e =
    let len = ap length e in
    let min = length-take 64 label in
    let no : length (items old) < 64 → ⊥ = λ lt. let e = room.1 lt in cc in
    let past = take-append-le 64 label (octet ∷ []) (omega arith) in
    cc

-- the tests of the octets that are kept are those of the label
kept_empty : (n l : ℕ) → n ≡ min 64 l → (n == 0) ≡ (l == 0)
kept_empty n l e = grind (arith, nat_tests)

kept_long : (n l : ℕ) → n ≡ min 64 l → nat_lt 63 n ≡ nat_lt 63 l
kept_long n l e = grind (arith, nat_tests)

any_last : (test : List ℕ → Bool) (labels : List (List ℕ)) (label : List ℕ) → list_any test (labels ++ label ∷ []) ≡ (list_any test labels || test label)
any_last test labels label = list_any-append test labels (label ∷ []) ∙ ap (λ b. list_any test labels || b) (or_false (test label))

pub front_of-append : (labels more : List (List ℕ)) → front_of (labels ++ more) ≡ front_of labels ++ front_of more
front_of-append [] more = refl
front_of-append (label ∷ labels) more =
    let rest = front_of-append labels more in
    let assoc = append_assoc label (front_of labels) (front_of more) in
    cc

pub front_last : (labels : List (List ℕ)) (label : List ℕ) → front_of (labels ++ label ∷ []) ≡ front_of labels ++ length label ∷ label
front_last labels label =
    front_of-append labels (label ∷ []) ∙ ap (λ (xs : List ℕ). front_of labels ++ length label ∷ xs) (append-nil label)

past_room : (a b : ℕ) → (IsTrue false ↔ (a + b + 2 ≤ 255)) → 254 < a + (b + 1)
past_room a b h =
    let no : a + b + 2 ≤ 255 → ⊥ = λ le. let e = h.1 le in cc in
    omega arith

crowded_more : (was put : Bool) (a b : ℕ) → was ≡ nat_lt 254 a → (was ≡ false → (IsTrue put ↔ (a + b + 2 ≤ 255))) → (was || not put) ≡ nat_lt 254 (a + (b + 1))
crowded_more true put a b e h = let past = lt_is 254 a (sym e) in sym (lt_true 254 (a + (b + 1)) (omega arith))
crowded_more false true a b e h = let room = (h refl).0 refl in sym (lt_false 254 (a + (b + 1)) (omega arith))
crowded_more false false a b e h = sym (lt_true 254 (a + (b + 1)) (past_room a b (h refl)))

not_false : (b : Bool) → not b ≡ false → b ≡ true
not_false true e = refl
not_false false e = cc

-- the octets of one closed label more
front_closed : (old new : Gathered) (put : Bool) (labels : List (List ℕ)) (label lent : List ℕ) → HasFront old labels → lent ≡ label → new.crowded ≡ (old.crowded || not put) → (IsTrue put ↔ (length old.octets.items + length lent + 2 ≤ 255)) → OnTrue put (new.octets.items ≡ old.octets.items ++ length lent ∷ lent) → HasFront new (labels ++ label ∷ [])
front_closed old new put labels label lent h same e room on =
    let last = front_last labels label in
    let len = ap length last in
    let both = length-append (front_of labels) (length label ∷ label) in
    let kept = ap length same in
    let more = crowded_more old.crowded put (length (front_of labels)) (length lent) h.crowded
    (λ free. let size = ap length (h.octets free) in (λ t. let fits = room.0 t in omega arith, λ le. room.1 (omega arith))) in
    let sum : length (front_of labels) + (length lent + 1) ≡ length (front_of (labels ++ label ∷ [])) = omega arith in
    record {
      crowded = e ∙ more ∙ ap (nat_lt 254) sum;
      octets = λ free.
          let parts = neither old.crowded (not put) (sym e ∙ free) in
          let is = when_true _ _ (not_false put parts.1) on in
          let front = h.octets parts.0 in
          cc;
    }

-- one closed label more
pub closed : (old new : Gathered) (put : Bool) (labels : List (List ℕ)) (label lent : List ℕ) (n : ℕ) → IsGathered old labels label → lent ≡ old.label.items → n ≡ length old.label.items → new.label.items ≡ [] → new.empty ≡ (old.empty || (n == 0)) → new.long ≡ (old.long || nat_lt 63 n) → new.crowded ≡ (old.crowded || not put) → (IsTrue put ↔ (length old.octets.items + length lent + 2 ≤ 255)) → OnTrue put (new.octets.items ≡ old.octets.items ++ length lent ∷ lent) → IsGathered new (labels ++ label ∷ []) []
closed old new put labels label lent n h same len none empty long crowded room on =
    let kept : n ≡ min 64 (length label) = len ∙ ap length h.in_hand ∙ length-take 64 label in
    let was_empty = h.empty in
    let was_long = h.long in
    let same_empty = kept_empty n (length label) kept in
    let same_long = kept_long n (length label) kept in
    let last_empty = any_last (λ (l : List ℕ). length l == 0) labels label in
    let last_long = any_last (λ (l : List ℕ). nat_lt 63 (length l)) labels label in
    record {
      in_hand = none;
      empty = cc;
      long = cc;
      front = λ short.
          let parts = neither old.long (nat_lt 63 n) (sym long ∙ short) in
          let small = lt_not 63 n parts.1 in
          let all = take_all 64 label (omega arith) in
          let in_hand = h.in_hand in
          front_closed old new put labels label lent (h.front parts.0) (cc) crowded room on;
    }

-- the octets of labels and of a name behind them
pub wire_of-front : (labels name : List (List ℕ)) → wire_of (labels ++ name) ≡ front_of labels ++ wire_of name
wire_of-front [] name = refl
wire_of-front (label ∷ labels) name =
    let rest = wire_of-front labels name in
    let assoc = append_assoc label (front_of labels) (wire_of name) in
    cc

pub none_empty : (name : List (List ℕ)) → All IsLabel name → list_any (λ (l : List ℕ). length l == 0) name ≡ false
none_empty [] h = refl
none_empty (label ∷ name) h =
    let first = All-head IsLabel label name h in
    let some = first.some in
    let rest = none_empty name (All-tail IsLabel label name h) in
    let no : (length label == 0) ≡ false = grind (arith, nat_tests) in
    rw no rest

pub none_long : (name : List (List ℕ)) → All IsLabel name → list_any (λ (l : List ℕ). nat_lt 63 (length l)) name ≡ false
none_long [] h = refl
none_long (label ∷ name) h =
    let first = All-head IsLabel label name h in
    let short = first.short in
    let rest = none_long name (All-tail IsLabel label name h) in
    let no : nat_lt 63 (length label) ≡ false = lt_false 63 (length label) (omega arith) in
    rw no rest

some_octet : (n : ℕ) → (n == 0) ≡ false → 0 < n
some_octet n e = grind (arith, nat_tests)

-- labels of which none is empty or long are labels
pub labels_all : (labels : List (List ℕ)) → list_any (λ (l : List ℕ). length l == 0) labels ≡ false → list_any (λ (l : List ℕ). nat_lt 63 (length l)) labels ≡ false → All IsLabel labels
labels_all [] e l = All-nil IsLabel
labels_all (label ∷ labels) e l =
    let empty = neither (length label == 0) _ e in
    let long = neither (nat_lt 63 (length label)) _ l in
    let short = lt_not 63 (length label) long.0 in
    All-cons IsLabel label labels (record { some = some_octet (length label) empty.0; short = omega arith }) (labels_all labels empty.1 long.1)

-- what is lawful of labels with a name behind them, by the labels and the octets
pub lawful-joined : (labels name : List (List ℕ)) → IsName name → lawful (labels ++ name) ≡ cond (list_any (λ (l : List ℕ). length l == 0) labels) (Err EmptyLabel) (cond (list_any (λ (l : List ℕ). nat_lt 63 (length l)) labels) (Err LabelTooLong) (cond (nat_lt 255 (length (front_of labels) + length (wire_of name))) (Err NameTooLong) (Ok (labels ++ name))))
lawful-joined labels name h =
    let empty = list_any-append (λ (l : List ℕ). length l == 0) labels name in
    let long = list_any-append (λ (l : List ℕ). nat_lt 63 (length l)) labels name in
    let no_empty = none_empty name h.labels in
    let no_long = none_long name h.labels in
    let nil = or_false (list_any (λ (l : List ℕ). length l == 0) labels) in
    let nil_long = or_false (list_any (λ (l : List ℕ). nat_lt 63 (length l)) labels) in
    let e : list_any (λ (l : List ℕ). length l == 0) (labels ++ name) ≡ list_any (λ (l : List ℕ). length l == 0) labels = cc in
    let l : list_any (λ (l : List ℕ). nat_lt 63 (length l)) (labels ++ name) ≡ list_any (λ (l : List ℕ). nat_lt 63 (length l)) labels = cc in
    let octets = ap length (wire_of-front labels name) ∙ length-append (front_of labels) (wire_of name) in
    rw (e, l, octets)

-- the name of closed labels, each fault in its turn
pub named_long : (gathered : Gathered) (labels name : List (List ℕ)) → IsName name → IsGathered gathered labels [] → gathered.empty ≡ false → gathered.long ≡ true → Err LabelTooLong ≡ lawful (labels ++ name)
named_long gathered labels name h is empty long =
    let e = sym is.empty ∙ empty in
    let l = sym is.long ∙ long in
    sym (lawful-joined labels name h ∙ rw (e, l))

-- the octets where no label is at fault
pub size_of : (gathered : Gathered) (labels name : List (List ℕ)) (rest : List ℕ) → IsGathered gathered labels [] → gathered.long ≡ false → rest ≡ wire_of name → (gathered.crowded ≡ true) ⊎ ((gathered.crowded ≡ false) × (255 < length gathered.octets.items + length rest)) → 255 < length (front_of labels) + length (wire_of name)
size_of gathered labels name rest is long same past =
    let front = is.front long in
    let len = ap length same in
    let some = wire_some name in
    elim past [
      | inl full ↦ (let lt = lt_is 254 (length (front_of labels)) (sym front.crowded ∙ full) in omega arith)
      | inr more ↦ (let octets = ap length (front.octets more.0) in omega (arith, more.1))
    ]

pub named_crowded : (gathered : Gathered) (labels name : List (List ℕ)) (rest : List ℕ) → IsName name → IsGathered gathered labels [] → gathered.empty ≡ false → gathered.long ≡ false → rest ≡ wire_of name → (gathered.crowded ≡ true) ⊎ ((gathered.crowded ≡ false) × (255 < length gathered.octets.items + length rest)) → Err NameTooLong ≡ lawful (labels ++ name)
named_crowded gathered labels name rest h is empty long same past =
    let e = sym is.empty ∙ empty in
    let l = sym is.long ∙ long in
    let t = lt_true 255 _ (size_of gathered labels name rest is long same past) in
    sym (lawful-joined labels name h ∙ rw (e, l, t))

-- what is put together of labels that have no fault
pub record IsJoined (labels name : List (List ℕ)) (octets : List ℕ) : Type 0 where
  pub whole : IsWhole octets
  pub is : labels_in octets ≡ labels ++ name
  pub lawful_is : Ok (labels_in octets) ≡ lawful (labels ++ name)

pub IsJoined-from : (gathered : Gathered) (labels name : List (List ℕ)) (rest octets : List ℕ) → IsName name → IsGathered gathered labels [] → gathered.empty ≡ false → gathered.long ≡ false → gathered.crowded ≡ false → rest ≡ wire_of name → length gathered.octets.items + length rest ≤ 255 → octets ≡ gathered.octets.items ++ rest → IsJoined labels name octets
IsJoined-from gathered labels name rest octets h is empty long crowded same fits put =
    let e = sym is.empty ∙ empty in
    let l = sym is.long ∙ long in
    let front = (is.front long).octets crowded in
    let join = wire_of-front labels name in
    let octets_are : octets ≡ wire_of (labels ++ name) = cc in
    let each = All-append IsLabel labels name (labels_all labels e l) h.labels in
    let len = ap length front in
    let len_rest = ap length same in
    let t = lt_false 255 (length (front_of labels) + length (wire_of name)) (omega arith) in
    let is_lawful : lawful (labels ++ name) ≡ Ok (labels ++ name) = lawful-joined labels name h ∙ rw (e, l, t) in
    let read = ap labels_in octets_are ∙ labels_in-wire_of (labels ++ name) each in
    record {
      whole = rw octets_are (IsWhole-wire_of (labels ++ name) each);
      is = read;
      lawful_is = ap Ok read ∙ sym is_lawful;
    }
