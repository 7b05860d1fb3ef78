-- What a text names is a name.
use Rattle.std.proofs.Common.{◌≡◌, refl, sym, ap, subst, ℕ, zero, suc, ◌+◌, ◌-◌, ◌*◌, ◌<◌, ◌≤◌, Bool, true, false, cond, ◌&&◌, ◌||◌, ◌==◌, nat_lt, nat_le, bytes_eq, List, [], ◌∷◌, length, All, Option, Some, None, Result, Ok, Err, option_map, option_and_then, arith, true≢false}
use Rattle.std.specs.Char.{is_ascii_digit}
use Rattle.std.specs.List.{list_any, AllByRecursion}
use Rattle.std.proofs.lemmas.Bool.Decides.{nat_tests}
use Rattle.std.proofs.lemmas.List.Elements.{All-nil, All-cons, All-head, All-tail}
use Rattle.dns_name.specs.Name.{wire_of, IsLabel, IsName}
use Rattle.dns_name.specs.Text.{numbered, escaped, mark_at, octet_of, octet_at, marks, onto_first, pieces_of, completed, lawful, labels_of, name_of_text}
use Rattle.dns_name.specs.declared.text.Mark.{Mark}
use Rattle.dns_name.specs.declared.text.Mark.TheVariants.{Dot, Octet}
use Rattle.dns_name.specs.declared.text.NameFault.{NameFault}
use Rattle.dns_name.specs.declared.text.NameFault.TheVariants.{LabelTooLong, NameTooLong, EmptyLabel, BadEscape}

abbrev AreOctets : List ℕ → Type 0
AreOctets octets = All (λ octet. octet < 256) octets

-- a mark stands for an octet
abbrev IsOctet : Option (Mark × ℕ) → Type 0
IsOctet None = Unit {0}
IsOctet (Some m) = octet_of m.0 < 256

small_if : (b : Bool) (n len : ℕ) → (b ≡ true → n < 256) → IsOctet (cond b (Some (Octet n, len)) None)
small_if true n len h = h refl
small_if false n len h = tt

last_true : (a b c d : Bool) → (a && b && c && d) ≡ true → d ≡ true
last_true true true true d e = e
last_true true true false d e = absurd (true≢false (sym e))
last_true true false c d e = absurd (true≢false (sym e))
last_true false b c d e = absurd (true≢false (sym e))

le_true : (n : ℕ) → nat_le n 255 ≡ true → n < 256
le_true n e = grind (arith, nat_tests)

numbered_small : (text : List ℕ) → IsOctet (numbered text)
numbered_small (a ∷ b ∷ c ∷ text) =
    let n = (a - 48) * 100 + (b - 48) * 10 + (c - 48) in
    small_if (is_ascii_digit a && is_ascii_digit b && is_ascii_digit c && nat_le n 255) n 4 (λ e. le_true n (last_true (is_ascii_digit a) (is_ascii_digit b) (is_ascii_digit c) (nat_le n 255) e))
numbered_small [] = tt
numbered_small (a ∷ []) = tt
numbered_small (a ∷ b ∷ []) = tt

pick : (b : Bool) (x y : Option (Mark × ℕ)) → IsOctet x → IsOctet y → IsOctet (cond b x y)
pick true x y h k = h
pick false x y h k = k

escaped_small : (text : List ℕ) → AreOctets text → IsOctet (escaped text)
escaped_small [] h = tt
escaped_small (x ∷ text) h = pick (is_ascii_digit x) (numbered (x ∷ text)) (Some (Octet x, 2)) (numbered_small (x ∷ text)) (All-head (λ c. c < 256) x text h)

mark_small : (text : List ℕ) → AreOctets text → IsOctet (mark_at text)
mark_small [] h = tt
mark_small (c ∷ text) h =
    pick (c == 92) (escaped text) (cond (c == 46) (Some (Dot, 1)) (Some (Octet c, 1))) (escaped_small text (All-tail (λ x. x < 256) c text h))
    (pick (c == 46) (Some (Dot, 1)) (Some (Octet c, 1)) (omega arith) (All-head (λ x. x < 256) c text h))

octet_by : (m : Option (Mark × ℕ)) (c n : ℕ) → IsOctet m → option_map {U = ℕ × ℕ} (λ (x : Mark × ℕ). (octet_of x.0, x.1)) m ≡ Some (c, n) → c < 256
octet_by None c n h e = let no : ⊥ = cc in absurd no
octet_by (Some m) c n h e = let pair : ◌≡◌ {A = ℕ × ℕ} (octet_of m.0, m.1) (c, n) = cc in subst (λ (x : ℕ). x < 256) (ap (λ (p : ℕ × ℕ). p.0) pair) h

-- an octet that a text spells is below 256
pub octet_small : (text : List ℕ) (c n : ℕ) → AreOctets text → octet_at text ≡ Some (c, n) → c < 256
octet_small text c n h e = octet_by (mark_at text) c n (mark_small text h) e

abbrev AreMarks : Option (List Mark) → Type 0
AreMarks None = Unit {0}
AreMarks (Some ms) = AllByRecursion (λ m. octet_of m < 256) ms

marks_by : (m : Option (Mark × ℕ)) (more : ℕ → Option (List Mark)) → IsOctet m → ((n : ℕ) → AreMarks (more n)) → AreMarks (option_and_then (λ (x : Mark × ℕ). option_map (λ ms. x.0 ∷ ms) (more x.1)) m)
marks_by None more h k = tt
marks_by (Some m) more h k = in_front (more m.1) (k m.1)
  where
    in_front : (ms : Option (List Mark)) → AreMarks ms → AreMarks (option_map (λ (l : List Mark). m.0 ∷ l) ms)
    in_front None j = tt
    in_front (Some ms) j = (h, j)

marks_small : (k : ℕ) (text : List ℕ) → AreOctets text → AreMarks (marks k text)
marks_small k [] h = tt
marks_small zero (c ∷ text) h = marks_by (mark_at (c ∷ text)) (λ n. marks (n - 1) text) (mark_small (c ∷ text) h) (λ n. marks_small (n - 1) text (All-tail (λ x. x < 256) c text h))
marks_small (suc k) (c ∷ text) h = marks_small k text (All-tail (λ x. x < 256) c text h)

onto_small : (c : ℕ) (pieces : List (List ℕ)) → c < 256 → All AreOctets pieces → All AreOctets (onto_first c pieces)
onto_small c [] h k = All-cons AreOctets (c ∷ []) [] (All-cons (λ x. x < 256) c [] h (All-nil (λ x. x < 256))) (All-nil AreOctets)
onto_small c (piece ∷ pieces) h k = All-cons AreOctets (c ∷ piece) pieces (All-cons (λ x. x < 256) c piece h (All-head AreOctets piece pieces k)) (All-tail AreOctets piece pieces k)

pieces_small : (ms : List Mark) → AllByRecursion (λ m. octet_of m < 256) ms → All AreOctets (pieces_of ms)
pieces_small [] h = All-cons AreOctets [] [] (All-nil (λ x. x < 256)) (All-nil AreOctets)
pieces_small (Dot ∷ ms) h = All-cons AreOctets [] (pieces_of ms) (All-nil (λ x. x < 256)) (pieces_small ms h.1)
pieces_small (Octet c ∷ ms) h = onto_small c (pieces_of ms) h.0 (pieces_small ms h.1)

last_piece : (b : Bool) (piece : List ℕ) (origin : List (List ℕ)) → AreOctets piece → All AreOctets origin → All AreOctets (cond b [] (piece ∷ origin))
last_piece true piece origin h k = All-nil AreOctets
last_piece false piece origin h k = All-cons AreOctets piece origin h k

completed_small : (origin pieces : List (List ℕ)) → All AreOctets origin → All AreOctets pieces → All AreOctets (completed origin pieces)
completed_small origin [] h k = h
completed_small origin (piece ∷ []) h k = last_piece (length piece == 0) piece origin (All-head AreOctets piece [] k) h
completed_small origin (piece ∷ other ∷ pieces) h k = All-cons AreOctets piece (completed origin (other ∷ pieces)) (All-head AreOctets piece (other ∷ pieces) k) (completed_small origin (other ∷ pieces) h (All-tail AreOctets piece (other ∷ pieces) k))

labels_small : (origin : List (List ℕ)) (ms : List Mark) → All AreOctets origin → AllByRecursion (λ m. octet_of m < 256) ms → All AreOctets (labels_of origin ms)
labels_small origin [] h k = All-cons AreOctets [] [] (All-nil (λ x. x < 256)) (All-nil AreOctets)
labels_small origin (Dot ∷ []) h k = All-nil AreOctets
labels_small origin (Dot ∷ m ∷ ms) h k = completed_small origin (pieces_of (Dot ∷ m ∷ ms)) h (pieces_small (Dot ∷ m ∷ ms) k)
labels_small origin (Octet c ∷ ms) h k = completed_small origin (pieces_of (Octet c ∷ ms)) h (pieces_small (Octet c ∷ ms) k)

-- labels that are lawful are a name's
each_label : (labels : List (List ℕ)) → list_any (λ label. length label == 0) labels ≡ false → list_any (λ label. nat_lt 63 (length label)) labels ≡ false → All IsLabel labels
each_label [] e f = All-nil IsLabel
each_label (label ∷ labels) e f =
    let empty = neither (length label == 0) (list_any (λ l. length l == 0) labels) e in
    let long = neither (nat_lt 63 (length label)) (list_any (λ l. nat_lt 63 (length l)) labels) f in
    All-cons IsLabel label labels (record { some = some (length label) empty.0; short = few (length label) long.0 }) (each_label labels empty.1 long.1)
  where
    neither : (a b : Bool) → (a || b) ≡ false → (a ≡ false) × (b ≡ false)
    neither true b g = absurd (true≢false g)
    neither false b g = (refl, g)

    some : (n : ℕ) → (n == 0) ≡ false → 0 < n
    some n g = grind (arith, nat_tests)

    few : (n : ℕ) → nat_lt 63 n ≡ false → n < 64
    few n g = grind (arith, nat_tests)

lawful_by : (a b c : Bool) (labels name : List (List ℕ)) → cond a (Err EmptyLabel) (cond b (Err LabelTooLong) (cond c (Err NameTooLong) (Ok labels))) ≡ Ok name → (a ≡ false) × (b ≡ false) × (c ≡ false) × (labels ≡ name)
lawful_by true b c labels name e = let no : ⊥ = cc in absurd no
lawful_by false true c labels name e = let no : ⊥ = cc in absurd no
lawful_by false false true labels name e = let no : ⊥ = cc in absurd no
lawful_by false false false labels name e = let same : labels ≡ name = cc in (refl, refl, refl, same)

lawful_name : (labels name : List (List ℕ)) → lawful labels ≡ Ok name → IsName labels × (labels ≡ name)
lawful_name labels name e =
    let parts = lawful_by (list_any (λ label. length label == 0) labels) (list_any (λ label. nat_lt 63 (length label)) labels) (nat_lt 255 (length (wire_of labels))) labels name e in
    let long = parts.2 in
    (record { labels = each_label labels parts.0 parts.1; short = few (length (wire_of labels)) long }, parts.3)
  where
    few : (n : ℕ) → nat_lt 255 n ≡ false → n ≤ 255
    few n g = grind (arith, nat_tests)

-- a name, of octets below 256
pub record IsNamed (name : List (List ℕ)) : Type 0 where
  pub is : IsName name
  pub octets : All (All (λ octet. octet < 256)) name

named_by : (origin name : List (List ℕ)) (ms : Option (List Mark)) → All AreOctets origin → AreMarks ms → (elim ms as (λ _. Result (List (List ℕ)) NameFault) [ None ↦ Err BadEscape | Some l ↦ lawful (labels_of origin l) ]) ≡ Ok name → IsNamed name
named_by origin name None h k e = let no : ⊥ = cc in absurd no
named_by origin name (Some ms) h k e =
    let is = lawful_name (labels_of origin ms) name e in
    subst (λ (n : List (List ℕ)). IsNamed n) is.1 (record { is = is.0; octets = labels_small origin ms h k })

at_or_named : (b : Bool) (origin name : List (List ℕ)) (r : Result (List (List ℕ)) NameFault) → IsNamed origin → (r ≡ Ok name → IsNamed name) → cond b (Ok origin) r ≡ Ok name → IsNamed name
at_or_named true origin name r h k e = let same : origin ≡ name = cc in subst (λ (n : List (List ℕ)). IsNamed n) same h
at_or_named false origin name r h k e = k e

-- what a text names under a name is a name
pub text_is_named : (text : List ℕ) (origin name : List (List ℕ)) → AreOctets text → IsNamed origin → name_of_text text origin ≡ Ok name → IsNamed name
text_is_named text origin name h k e =
    at_or_named (bytes_eq text (64 ∷ [])) origin name (elim (marks 0 text) as (λ _. Result (List (List ℕ)) NameFault) [ None ↦ Err BadEscape | Some l ↦ lawful (labels_of origin l) ]) k
    (λ f. named_by origin name (marks 0 text) k.octets (marks_small 0 text h) f) e
