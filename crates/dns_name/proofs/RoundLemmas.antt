-- A name's text is read as the name.
use Rattle.std.proofs.Common.{◌≡◌, ℕ, ◌+◌, ◌-◌, ◌*◌, ◌/◌, ◌%◌, ◌<◌, ◌≤◌, ◌⊎◌, inl, inr, Bool, true, false, cond, ◌||◌, ◌==◌, nat_lt, nat_le, List, [], ◌∷◌, ◌++◌, length, drop, map, All, Option, Some, None, Ok, option_map, refl, sym, ap, ◌∙◌, arith}
use Rattle.std.specs.List.{flat_map}
use Rattle.std.specs.Char.{is_ascii_digit}
use Rattle.std.specs.Str.{bytes_eq}
use Rattle.std.proofs.lemmas.Bool.Decides.{nat_tests}
use Rattle.std.proofs.lemmas.Iterator.Adapters.{option_map_id}
use Rattle.std.proofs.lemmas.List.{append-nil, append_assoc}
use Rattle.std.proofs.lemmas.List.Elements.{All-head, All-tail}
use Rattle.dns_name.specs.Name.{wire_of, IsLabel, IsName}
use Rattle.dns_name.specs.Text.{marks, mark_at, numbered, pieces_of, onto_first, completed, lawful, name_of_text, digits_of, is_special, octet_text, label_text, text_of}
use Rattle.dns_name.specs.declared.text.Mark.{Mark}
use Rattle.dns_name.specs.declared.text.Mark.TheVariants.{Dot, Octet}
use Rattle.dns_name.proofs.GatherLemmas.{none_empty, none_long, lt_false}
use Rattle.dns_name.proofs.TextLemmas.{marks-step, completed_last}

-- the digits of an octet are digits
a_digit : (d : ℕ) → d < 10 → is_ascii_digit (48 + d) ≡ true
a_digit d h = grind (arith, nat_tests)

-- and stand for it
numbered-digits : (c a b e : ℕ) (rest : List ℕ) → a < 10 → b < 10 → e < 10 → c ≡ a * 100 + b * 10 + e → c ≤ 255 → numbered ((48 + a) ∷ (48 + b) ∷ (48 + e) ∷ rest) ≡ Some (Octet c, 4)
numbered-digits c a b e rest ha hb he is small =
    let da = a_digit a ha in
    let db = a_digit b hb in
    let de = a_digit e he in
    let value : (48 + a - 48) * 100 + (48 + b - 48) * 10 + (48 + e - 48) ≡ c = omega arith in
    let fits : nat_le c 255 ≡ true = grind (arith, nat_tests) in
    rw (da, db, de, value, fits)

digits-value : (c : ℕ) → c ≡ c / 100 * 100 + c / 10 % 10 * 10 + c % 10
digits-value c = omega arith

digits-first : (c : ℕ) → c < 256 → c / 100 < 10
digits-first c h = omega arith

either_true : (a b : Bool) → (a || b) ≡ true → (a ≡ true) ⊎ (b ≡ true)
either_true true b e = inl refl
either_true false b e = inr e

neither : (a b : Bool) → (a || b) ≡ false → (a ≡ false) × (b ≡ false)
neither true b e = cc
neither false b e = (refl, e)

special_no_digit : (c : ℕ) → is_special c ≡ true → is_ascii_digit c ≡ false
special_no_digit c e = grind (arith, nat_tests)

plain_no_dot : (c : ℕ) → is_special c ≡ false → ((c == 46) ≡ false) × ((c == 92) ≡ false)
plain_no_dot c e = (grind (arith, nat_tests), grind (arith, nat_tests))

-- what spells an octet, of how many characters, is read as it
record IsSpelt (c : ℕ) (text rest : List ℕ) : Type 0 where
  len : ℕ
  is : mark_at (text ++ rest) ≡ Some (Octet c, len)
  behind : drop len (text ++ rest) ≡ rest

spelt_by_digits : (c : ℕ) (rest : List ℕ) → c < 256 → IsSpelt c (92 ∷ digits_of c) rest
spelt_by_digits c rest h =
    let value = digits-value c in
    let number = numbered-digits c (c / 100) (c / 10 % 10) (c % 10) rest (digits-first c h) (omega arith) (omega arith) value (omega arith) in
    let digit = a_digit (c / 100) (digits-first c h) in
    let text = (48 + c / 100) ∷ (48 + c / 10 % 10) ∷ (48 + c % 10) ∷ rest in
    record { len = 4; is = ap (λ b. cond b (numbered text) (Some (Octet (48 + c / 100), 2))) digit ∙ number; behind = refl }

spelt_escaped : (c : ℕ) (rest : List ℕ) → is_special c ≡ true → IsSpelt c (92 ∷ c ∷ []) rest
spelt_escaped c rest special =
    let digit = special_no_digit c special in
    record { len = 2; is = rw digit; behind = refl }

spelt_plain : (c : ℕ) (rest : List ℕ) → is_special c ≡ false → IsSpelt c (c ∷ []) rest
spelt_plain c rest special =
    let plain = plain_no_dot c special in
    let no_dot = plain.0 in
    let no_escape = plain.1 in
    record { len = 1; is = rw (no_escape, no_dot); behind = refl }

spelt_if : (outside special : Bool) (c : ℕ) (rest : List ℕ) → c < 256 → is_special c ≡ special → IsSpelt c (cond outside (92 ∷ digits_of c) (cond special (92 ∷ c ∷ []) (c ∷ []))) rest
spelt_if true special c rest h e = spelt_by_digits c rest h
spelt_if false true c rest h e = spelt_escaped c rest e
spelt_if false false c rest h e = spelt_plain c rest e

octet_spelt : (c : ℕ) (rest : List ℕ) → c < 256 → IsSpelt c (octet_text c) rest
octet_spelt c rest h = spelt_if (nat_lt c 33 || nat_lt 126 c) (is_special c) c rest h refl

octet_marks : (c : ℕ) (rest : List ℕ) → c < 256 → marks 0 (octet_text c ++ rest) ≡ option_map (λ (ms : List Mark). Octet c ∷ ms) (marks 0 rest)
octet_marks c rest h =
    let spelt = octet_spelt c rest h in
    marks-step (octet_text c ++ rest) (Octet c) spelt.len spelt.is ∙ ap (λ (xs : List ℕ). option_map (λ (ms : List Mark). Octet c ∷ ms) (marks 0 xs)) spelt.behind

-- the marks of a label and of a name
abbrev label_marks : List ℕ → List Mark
label_marks label = map (λ (c : ℕ). Octet c) label ++ Dot ∷ []

mapped : (f g : List Mark → List Mark) (o : Option (List Mark)) → option_map f (option_map g o) ≡ option_map (λ (ms : List Mark). f (g ms)) o
mapped f g None = refl
mapped f g (Some ms) = refl

marks-octets : (label rest : List ℕ) → All (λ c. c < 256) label → marks 0 (flat_map octet_text label ++ rest) ≡ option_map (λ (ms : List Mark). map (λ (c : ℕ). Octet c) label ++ ms) (marks 0 rest)
marks-octets [] rest h = sym (option_map_id (marks 0 rest))
marks-octets (c ∷ label) rest h =
    let first = All-head (λ (x : ℕ). x < 256) c label h in
    let more = marks-octets label rest (All-tail (λ (x : ℕ). x < 256) c label h) in
    ap (marks 0) (append_assoc (octet_text c) (flat_map octet_text label) rest)
    ∙ octet_marks c (flat_map octet_text label ++ rest) first
    ∙ ap (option_map (λ (ms : List Mark). Octet c ∷ ms)) more
    ∙ mapped (λ (ms : List Mark). Octet c ∷ ms) (λ (ms : List Mark). map (λ (x : ℕ). Octet x) label ++ ms) (marks 0 rest)

marks-dot : (rest : List ℕ) → marks 0 (46 ∷ rest) ≡ option_map (λ (ms : List Mark). Dot ∷ ms) (marks 0 rest)
marks-dot rest = marks-step (46 ∷ rest) Dot 1 refl

marks-label : (label rest : List ℕ) (ms : List Mark) → All (λ c. c < 256) label → marks 0 rest ≡ Some ms → marks 0 (label_text label ++ rest) ≡ Some (map (λ (c : ℕ). Octet c) label ++ Dot ∷ ms)
marks-label label rest ms h e =
    ap (marks 0) (append_assoc (flat_map octet_text label) (46 ∷ []) rest)
    ∙ marks-octets label (46 ∷ rest) h
    ∙ ap (option_map (λ (xs : List Mark). map (λ (c : ℕ). Octet c) label ++ xs)) (marks-dot rest ∙ ap (option_map (λ (xs : List Mark). Dot ∷ xs)) e)

abbrev name_marks : List (List ℕ) → List Mark
name_marks [] = []
name_marks (label ∷ name) = map (λ (c : ℕ). Octet c) label ++ Dot ∷ name_marks name

marks-name : (name : List (List ℕ)) → All (All (λ c. c < 256)) name → marks 0 (flat_map label_text name) ≡ Some (name_marks name)
marks-name [] h = refl
marks-name (label ∷ name) h =
    marks-label label (flat_map label_text name) (name_marks name) (All-head (All (λ (c : ℕ). c < 256)) label name h)
    (marks-name name (All-tail (All (λ (c : ℕ). c < 256)) label name h))

pieces_of-label : (label : List ℕ) (ms : List Mark) → pieces_of (map (λ (c : ℕ). Octet c) label ++ Dot ∷ ms) ≡ label ∷ pieces_of ms
pieces_of-label [] ms = refl
pieces_of-label (c ∷ label) ms = ap (onto_first c) (pieces_of-label label ms)

pieces_of-name : (name : List (List ℕ)) → pieces_of (name_marks name) ≡ name ++ [] ∷ []
pieces_of-name [] = refl
pieces_of-name (label ∷ name) = pieces_of-label label (name_marks name) ∙ ap (λ (ps : List (List ℕ)). label ∷ ps) (pieces_of-name name)

lawful-name : (name : List (List ℕ)) → IsName name → lawful name ≡ Ok name
lawful-name name h =
    let empty = none_empty name h.labels in
    let long = none_long name h.labels in
    let fits = lt_false 255 (length (wire_of name)) h.short in
    rw (empty, long, fits)

-- a name's text isn't `@`: there is a backslash in front of that in a label, and a dot behind a label
at_escaped : (c : ℕ) → is_special c ≡ false → (c == 64) ≡ false
at_escaped c e = grind (arith, nat_tests)

other_if : (outside special : Bool) (c : ℕ) (more : List ℕ) → is_special c ≡ special → bytes_eq (cond outside (92 ∷ digits_of c) (cond special (92 ∷ c ∷ []) (c ∷ [])) ++ more) (64 ∷ []) ≡ false
other_if true special c more e = refl
other_if false true c more e = refl
other_if false false c more e = let no = at_escaped c e in rw no refl

pub text_of-other : (name : List (List ℕ)) → IsName name → bytes_eq (text_of name) (64 ∷ []) ≡ false
text_of-other [] h = refl
text_of-other ([] ∷ name) h = let head = All-head IsLabel [] name h.labels in absurd (omega (arith, head.some))
text_of-other ((x ∷ label) ∷ name) h =
    let more = flat_map octet_text label in
    let rest = flat_map label_text name in
    ap (λ (os : List ℕ). bytes_eq (os ++ rest) (64 ∷ [])) (append_assoc (octet_text x) more (46 ∷ []))
    ∙ ap (λ (os : List ℕ). bytes_eq os (64 ∷ [])) (append_assoc (octet_text x) (more ++ 46 ∷ []) rest)
    ∙ other_if (nat_lt x 33 || nat_lt 126 x) (is_special x) x ((more ++ 46 ∷ []) ++ rest) refl

-- a name's text is read as the name, under any origin
pub name_of_text-text_of : (name origin : List (List ℕ)) → IsName name → All (All (λ c. c < 256)) name → name_of_text (text_of name) origin ≡ Ok name
name_of_text-text_of [] origin h octets = refl
name_of_text-text_of ([] ∷ name) origin h octets = let head = All-head IsLabel [] name h.labels in absurd (omega (arith, head.some))
name_of_text-text_of ((x ∷ label) ∷ name) origin h octets =
    let read = marks-name ((x ∷ label) ∷ name) octets in
    let pieces = pieces_of-name ((x ∷ label) ∷ name) in
    let last = completed_last origin ((x ∷ label) ∷ name) [] in
    let nil = append-nil ((x ∷ label) ∷ name) in
    let labels : completed origin (pieces_of (name_marks ((x ∷ label) ∷ name))) ≡ (x ∷ label) ∷ name = ap (completed origin) pieces ∙ last ∙ nil in
    let other = text_of-other ((x ∷ label) ∷ name) h in
    rw (other, read, name_of_text) (ap lawful labels ∙ lawful-name ((x ∷ label) ∷ name) h)
