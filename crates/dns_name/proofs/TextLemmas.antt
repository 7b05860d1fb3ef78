-- The pieces of a text, from its front on.
use Rattle.std.proofs.Common.{◌≡◌, ℕ, zero, suc, ◌+◌, ◌-◌, ◌*◌, ◌<◌, ◌≤◌, Bool, true, false, cond, ◌&&◌, ◌==◌, nat_le, List, [], ◌∷◌, ◌++◌, length, drop, Option, Some, None, ◌⊎◌, inl, inr, option_map, option_and_then, refl, sym, ap, subst, ◌∙◌, arith}
use Rattle.std.specs.Char.{is_ascii_digit}
use Rattle.std.proofs.lemmas.Bool.Decides.{Decides-eqb, nat_tests}
use Rattle.std.proofs.lemmas.Option.{some_pair_parts, option_and_then_some}
use Rattle.std.proofs.lemmas.List.{append-nil, append_assoc, length-take, nil_from_length}
use Rattle.std.specs.Str.{bytes_eq}
use Rattle.dns_name.specs.Text.{marks, mark_at, escaped, numbered, pieces_of, onto_first, completed, labels_of, lawful, name_of_text}
use Rattle.dns_name.specs.Gather.{IsGathered, IsAllOf}
use Rattle.dns_name.specs.declared.text.Gathered.{Gathered}
use Rattle.dns_name.specs.declared.text.Mark.{Mark}
use Rattle.dns_name.specs.declared.text.Mark.TheVariants.{Dot, Octet}
use Rattle.dns_name.proofs.ReadLemmas.{map_some, cond_is_some}

-- the marks behind the first k characters are those of the characters left
marks-drop : (k : ℕ) (text : List ℕ) → marks k text ≡ marks 0 (drop k text)
marks-drop zero text = refl
marks-drop (suc k) [] = refl
marks-drop (suc k) (x ∷ text) = marks-drop k text

-- octets in front of the first piece
abbrev pub prepended : List ℕ → List (List ℕ) → List (List ℕ)
prepended label [] = label ∷ []
prepended label (piece ∷ pieces) = (label ++ piece) ∷ pieces

nothing_onto : (c : ℕ) (pieces : List (List ℕ)) → prepended [] (onto_first c pieces) ≡ onto_first c pieces
nothing_onto c [] = refl
nothing_onto c (piece ∷ pieces) = refl

prepended-nothing : (ms : List Mark) → prepended [] (pieces_of ms) ≡ pieces_of ms
prepended-nothing [] = refl
prepended-nothing (Dot ∷ ms) = refl
prepended-nothing (Octet c ∷ ms) = nothing_onto c (pieces_of ms)

prepended-onto : (label : List ℕ) (c : ℕ) (pieces : List (List ℕ)) → prepended label (onto_first c pieces) ≡ prepended (label ++ c ∷ []) pieces
prepended-onto label c [] = refl
prepended-onto label c (piece ∷ pieces) = ap (λ (p : List ℕ). p ∷ pieces) (sym (append_assoc label (c ∷ []) piece))

same_pieces : (o : Option (List Mark)) → option_map pieces_of o ≡ option_map (λ (ms : List Mark). prepended [] (pieces_of ms)) o
same_pieces None = refl
same_pieces (Some ms) = ap Some (sym (prepended-nothing ms))

-- what is gathered of the text before the rest, and the rest, make the whole
pub record IsOnTheWay (text rest : List ℕ) (gathered : Gathered) : Type 0 where
  pub labels : List (List ℕ)
  pub label : List ℕ
  pub is : IsGathered gathered labels label
  pub whole : option_map pieces_of (marks 0 text) ≡ option_map (λ ms. labels ++ prepended label (pieces_of ms)) (marks 0 rest)

pub IsOnTheWay-start : (text : List ℕ) (gathered : Gathered) → IsGathered gathered [] [] → IsOnTheWay text text gathered
IsOnTheWay-start text gathered h = record {
  labels = [];
  label = [];
  is = h;
  whole = same_pieces (marks 0 text);
}

cond_parts : {A : Type 0} (b : Bool) (o p : Option A) (y : A) → cond b o p ≡ Some y → ((b ≡ true) × (o ≡ Some y)) ⊎ ((b ≡ false) × (p ≡ Some y))
cond_parts true o p y e = inl (refl, e)
cond_parts false o p y e = inr (refl, e)

-- what a mark of a text that has a character says of it
pub record IsMark (c : ℕ) (rest : List ℕ) (m : Mark) (n : ℕ) : Type 0 where
  pub some : 0 < n
  pub within : n ≤ length rest + 1
  pub dot : m ≡ Dot → (c ≡ 46) × (n ≡ 1)

-- an escape is of an octet
record IsEscape (rest : List ℕ) (m : Mark) (n : ℕ) : Type 0 where
  some : 0 < n
  within : n ≤ length rest + 1
  no_dot : m ≡ Dot → ⊥

IsEscape-pair : (rest : List ℕ) (x k : ℕ) (m : Mark) (n : ℕ) → 0 < k → k ≤ length rest + 1 → ◌≡◌ {A = Option (Mark × ℕ)} (Some (Octet x, k)) (Some (m, n)) → IsEscape rest m n
IsEscape-pair rest x k m n some within e =
    let parts = some_pair_parts (Octet x) m k n e in
    let second = parts.1 in
    record {
      some = omega arith;
      within = omega arith;
      no_dot = λ d. let first = parts.0 in cc;
    }

numbered-IsEscape : (text : List ℕ) (m : Mark) (n : ℕ) → numbered text ≡ Some (m, n) → IsEscape text m n
numbered-IsEscape [] m n e = cc
numbered-IsEscape (a ∷ []) m n e = cc
numbered-IsEscape (a ∷ b ∷ []) m n e = cc
numbered-IsEscape (a ∷ b ∷ c ∷ text) m n e =
    let test = cond_is_some (is_ascii_digit a && is_ascii_digit b && is_ascii_digit c && nat_le ((a - 48) * 100 + (b - 48) * 10 + (c - 48)) 255) _ (m, n) e in
    IsEscape-pair (a ∷ b ∷ c ∷ text) ((a - 48) * 100 + (b - 48) * 10 + (c - 48)) 4 m n (omega arith) (omega arith) test.1

escaped-IsEscape : (text : List ℕ) (m : Mark) (n : ℕ) → escaped text ≡ Some (m, n) → IsEscape text m n
escaped-IsEscape [] m n e = cc
escaped-IsEscape (x ∷ text) m n e =
    elim (cond_parts (is_ascii_digit x) (numbered (x ∷ text)) (Some (Octet x, 2)) (m, n) e) [
      | inl digits ↦ numbered-IsEscape (x ∷ text) m n digits.1
      | inr plain ↦ IsEscape-pair (x ∷ text) x 2 m n (omega arith) (omega arith) plain.1
    ]

IsMark-pair : (c : ℕ) (rest : List ℕ) (x m : Mark) (n : ℕ) → (x ≡ Dot → c ≡ 46) → ◌≡◌ {A = Option (Mark × ℕ)} (Some (x, 1)) (Some (m, n)) → IsMark c rest m n
IsMark-pair c rest x m n dot e =
    let parts = some_pair_parts x m 1 n e in
    let second = parts.1 in
    record {
      some = omega arith;
      within = omega arith;
      dot = λ d. (dot (parts.0 ∙ d), sym second);
    }

pub mark_at-IsMark : (c : ℕ) (rest : List ℕ) (m : Mark) (n : ℕ) → mark_at (c ∷ rest) ≡ Some (m, n) → IsMark c rest m n
mark_at-IsMark c rest m n e =
    elim (cond_parts (c == 92) (escaped rest) _ (m, n) e) [
      | inl escape ↦ (let is = escaped-IsEscape rest m n escape.1 in record { some = is.some; within = is.within; dot = λ d. absurd (is.no_dot d) })
      | inr plain ↦ elim (cond_parts (c == 46) (Some (Dot, 1)) (Some (Octet c, 1)) (m, n) plain.1) [
        | inl dot ↦ IsMark-pair c rest Dot m n (λ _. (Decides-eqb c 46).0 dot.0) dot.1
        | inr octet ↦ IsMark-pair c rest (Octet c) m n (λ d. cc) octet.1
      ]
    ]

drop_less : (n c : ℕ) (rest : List ℕ) → 0 < n → drop n (c ∷ rest) ≡ drop (n - 1) rest
drop_less zero c rest h = absurd (omega arith)
drop_less (suc n) c rest h = let e : suc n - 1 ≡ n = omega arith in rw e

-- a mark, and the marks behind the characters that spell it
pub marks-step : (rest : List ℕ) (m : Mark) (n : ℕ) → mark_at rest ≡ Some (m, n) → marks 0 rest ≡ option_map (λ ms. m ∷ ms) (marks 0 (drop n rest))
marks-step [] m n e = cc
marks-step (c ∷ rest) m n e =
    let is = mark_at-IsMark c rest m n e in
    ap (option_and_then (λ (p : Mark × ℕ). option_map (λ (ms : List Mark). p.0 ∷ ms) (marks (p.1 - 1) rest))) e
    ∙ ap (option_map (λ (ms : List Mark). m ∷ ms)) (marks-drop (n - 1) rest)
    ∙ ap (λ (xs : List ℕ). option_map (λ (ms : List Mark). m ∷ ms) (marks 0 xs)) (sym (drop_less n c rest is.some))

dot_pieces : (labels : List (List ℕ)) (label : List ℕ) (o : Option (List Mark)) → option_map (λ (ms : List Mark). labels ++ prepended label (pieces_of ms)) (option_map (λ (ms : List Mark). Dot ∷ ms) o) ≡ option_map (λ (ms : List Mark). (labels ++ label ∷ []) ++ prepended [] (pieces_of ms)) o
dot_pieces labels label None = refl
dot_pieces labels label (Some ms) =
    let nil = append-nil label in
    let nothing = prepended-nothing ms in
    let assoc = append_assoc labels (label ∷ []) (pieces_of ms) in
    let e : labels ++ ((label ++ []) ∷ pieces_of ms) ≡ (labels ++ label ∷ []) ++ prepended [] (pieces_of ms) = cc in
    ap Some e

octet_pieces : (labels : List (List ℕ)) (label : List ℕ) (c : ℕ) (o : Option (List Mark)) → option_map (λ (ms : List Mark). labels ++ prepended label (pieces_of ms)) (option_map (λ (ms : List Mark). Octet c ∷ ms) o) ≡ option_map (λ (ms : List Mark). labels ++ prepended (label ++ c ∷ []) (pieces_of ms)) o
octet_pieces labels label c None = refl
octet_pieces labels label c (Some ms) = ap (λ (ps : List (List ℕ)). Some (labels ++ ps)) (prepended-onto label c (pieces_of ms))

-- a step at a dot, which closes the label in hand
pub IsOnTheWay-dot : (text rest : List ℕ) (old new : Gathered) (n : ℕ) → mark_at rest ≡ Some (Dot, n) → IsOnTheWay text rest old → ((labels : List (List ℕ)) (label : List ℕ) → IsGathered old labels label → IsGathered new (labels ++ label ∷ []) []) → IsOnTheWay text (drop n rest) new
IsOnTheWay-dot text rest old new n e way close =
    let step = marks-step rest Dot n e in
    record {
      labels = way.labels ++ way.label ∷ [];
      label = [];
      is = close way.labels way.label way.is;
      whole = way.whole ∙ ap (option_map (λ (ms : List Mark). way.labels ++ prepended way.label (pieces_of ms))) step ∙ dot_pieces way.labels way.label (marks 0 (drop n rest));
    }

-- and at an octet, which goes to the label in hand
pub IsOnTheWay-octet : (text rest : List ℕ) (old new : Gathered) (c n : ℕ) → mark_at rest ≡ Some (Octet c, n) → IsOnTheWay text rest old → ((labels : List (List ℕ)) (label : List ℕ) → IsGathered old labels label → IsGathered new labels (label ++ c ∷ [])) → IsOnTheWay text (drop n rest) new
IsOnTheWay-octet text rest old new c n e way push =
    let step = marks-step rest (Octet c) n e in
    record {
      labels = way.labels;
      label = way.label ++ c ∷ [];
      is = push way.labels way.label way.is;
      whole = way.whole ∙ ap (option_map (λ (ms : List Mark). way.labels ++ prepended way.label (pieces_of ms))) step ∙ octet_pieces way.labels way.label c (marks 0 (drop n rest));
    }

-- at the end all is gathered
pub IsOnTheWay-end : (text rest : List ℕ) (gathered : Gathered) → rest ≡ [] → IsOnTheWay text rest gathered → IsAllOf text gathered
IsOnTheWay-end text rest gathered e way =
    let whole = way.whole ∙ ap (λ (xs : List ℕ). option_map (λ (ms : List Mark). way.labels ++ prepended way.label (pieces_of ms)) (marks 0 xs)) e in
    let parts = map_some pieces_of (marks 0 text) _ whole in
    record {
      labels = way.labels;
      label = way.label;
      all = parts.0;
      read = parts.1;
      pieces = parts.2 ∙ ap (λ (l : List ℕ). way.labels ++ l ∷ []) (append-nil way.label);
      is = way.is;
    }

-- the first of the marks of a text, and the others
record HasMarks (c : ℕ) (rest : List ℕ) (ms : List Mark) : Type 0 where
  first : Mark
  len : ℕ
  more : List Mark
  is : mark_at (c ∷ rest) ≡ Some (first, len)
  behind : marks 0 (drop len (c ∷ rest)) ≡ Some more
  all : first ∷ more ≡ ms

HasMarks-from : (c : ℕ) (rest : List ℕ) (ms : List Mark) → marks 0 (c ∷ rest) ≡ Some ms → HasMarks c rest ms
HasMarks-from c rest ms e =
    option_and_then_some _ (mark_at (c ∷ rest)) ms e (λ p is _.
    let step = marks-step (c ∷ rest) p.0 p.1 is in
    let parts = map_some (λ (ms' : List Mark). p.0 ∷ ms') (marks 0 (drop p.1 (c ∷ rest))) ms (sym step ∙ e) in
    record { first = p.0; len = p.1; more = parts.0; is = is; behind = parts.1; all = parts.2 })

no_marks : (text : List ℕ) → marks 0 text ≡ Some [] → text ≡ []
no_marks [] e = refl
no_marks (c ∷ text) e = let has = HasMarks-from c text [] e in let all = has.all in cc

only_dot : (text : List ℕ) → marks 0 text ≡ Some (Dot ∷ []) → text ≡ 46 ∷ []
only_dot [] e = cc
only_dot (c ∷ text) e =
    let has = HasMarks-from c text (Dot ∷ []) e in
    let all = has.all in
    let first : has.first ≡ Dot = cc in
    let more : has.more ≡ [] = cc in
    let is = (mark_at-IsMark c text has.first has.len has.is).dot first in
    let left : marks 0 (drop 1 (c ∷ text)) ≡ Some [] = ap (λ (n : ℕ). marks 0 (drop n (c ∷ text))) (sym is.1) ∙ has.behind ∙ ap Some more in
    let nil = no_marks text left in
    let dot = is.0 in
    cc

-- but for no text and for a dot alone, the labels are those of the pieces
labels_of-plain : (text : List ℕ) (origin : List (List ℕ)) (ms : List Mark) → (text ≡ [] → ⊥) → (text ≡ 46 ∷ [] → ⊥) → marks 0 text ≡ Some ms → labels_of origin ms ≡ completed origin (pieces_of ms)
labels_of-plain text origin [] some more e = absurd (some (no_marks text e))
labels_of-plain text origin (Dot ∷ []) some more e = absurd (more (only_dot text e))
labels_of-plain text origin (Dot ∷ m ∷ ms) some more e = refl
labels_of-plain text origin (Octet c ∷ ms) some more e = refl

-- the last piece decides whether the origin is behind the others
pub completed_last : (origin labels : List (List ℕ)) (label : List ℕ) → completed origin (labels ++ label ∷ []) ≡ labels ++ cond (length label == 0) [] (label ∷ origin)
completed_last origin [] label = refl
completed_last origin (piece ∷ []) label = refl
completed_last origin (piece ∷ next ∷ labels) label = ap (λ (ls : List (List ℕ)). piece ∷ ls) (completed_last origin (next ∷ labels) label)

-- the name of a text, by what is gathered of it
pub name_of_text-gathered : (text : List ℕ) (origin : List (List ℕ)) (gathered : Gathered) → bytes_eq text (64 ∷ []) ≡ false → (text ≡ [] → ⊥) → (text ≡ 46 ∷ [] → ⊥) → (all : IsAllOf text gathered) → name_of_text text origin ≡ lawful (all.labels ++ cond (length all.label == 0) [] (all.label ∷ origin))
name_of_text-gathered text origin gathered other some more all =
    let plain = labels_of-plain text origin all.all some more all.read in
    let pieces = ap (completed origin) all.pieces ∙ completed_last origin all.labels all.label in
    rw (other, all.read, name_of_text) (ap lawful (plain ∙ pieces))

not_zero : (n : ℕ) → (n ≡ 0 → ⊥) → (n == 0) ≡ false
not_zero n h = grind (arith, nat_tests)

-- the text ends in a dot
pub record IsAbsolute (text : List ℕ) (origin : List (List ℕ)) (gathered : Gathered) (labels : List (List ℕ)) : Type 0 where
  pub is : IsGathered gathered labels []
  pub name : name_of_text text origin ≡ lawful (labels ++ [])

pub IsAbsolute-from : (text : List ℕ) (origin : List (List ℕ)) (gathered : Gathered) → bytes_eq text (64 ∷ []) ≡ false → (text ≡ [] → ⊥) → (text ≡ 46 ∷ [] → ⊥) → (all : IsAllOf text gathered) → length gathered.label.items ≡ 0 → IsAbsolute text origin gathered all.labels
IsAbsolute-from text origin gathered other some more all none =
    let kept = ap length all.is.in_hand in
    let min = length-take 64 all.label in
    let nil = nil_from_length all.label (omega arith) in
    record {
      is = subst (λ (l : List ℕ). IsGathered gathered all.labels l) nil all.is;
      name = name_of_text-gathered text origin gathered other some more all ∙ ap (λ (l : List ℕ). lawful (all.labels ++ cond (length l == 0) [] (l ∷ origin))) nil;
    }

-- and ends in none
pub name_of_text-relative : (text : List ℕ) (origin : List (List ℕ)) (gathered : Gathered) → bytes_eq text (64 ∷ []) ≡ false → (text ≡ [] → ⊥) → (text ≡ 46 ∷ [] → ⊥) → (all : IsAllOf text gathered) → (length gathered.label.items ≡ 0 → ⊥) → name_of_text text origin ≡ lawful ((all.labels ++ all.label ∷ []) ++ origin)
name_of_text-relative text origin gathered other some more all ne =
    let kept = ap length all.is.in_hand in
    let min = length-take 64 all.label in
    let no : (length all.label ≡ 0) → ⊥ = λ z. ne (omega arith) in
    let test : (length all.label == 0) ≡ false = not_zero (length all.label) no in
    let assoc = append_assoc all.labels (all.label ∷ []) origin in
    name_of_text-gathered text origin gathered other some more all
    ∙ ap (λ (b : Bool). lawful (all.labels ++ cond b [] (all.label ∷ origin))) test
    ∙ ap lawful (sym assoc)
