-- The entries of items whose lines are other ones, and of items with others behind them.
use Rattle.std.proofs.Common.{◌≡◌, ℕ, ◌+◌, ◌≤◌, Bool, true, false, List, [], ◌∷◌, ◌++◌, map, Option, Some, None, option_map, unwrap_or, refl, sym, ap, subst, ◌∙◌, arith, true≢false}
use Rattle.std.proofs.lemmas.List.{map-append}
use Rattle.zone_lexing.specs.Items.{Item}
use Rattle.zone_lexing.specs.Word.{Written}
use Rattle.zone_lexing.specs.Word.Written.{Plain, Quoted}
use Rattle.zone_lexing.specs.Entries.{Start, Entry, begins_blank, start_of, between_quotes, whole, faulty, closes, nested, entries_from, entries_left}
use Rattle.zone_lexing.specs.Lines.{on_lines}
use Rattle.zone_lexing.specs.Order.{line_ends}
use Rattle.zone_lexing.specs.declared.item.Token.TheVariants.{Bare, InQuotes, Blank, Comment, Open, Close, Unclosed, LineEnd}
use Rattle.zone_lexing.proofs.PlaceLemmas.{inside_behind}

-- from two lines on the one change gives what the other does
abbrev pub AreFollowed : (ℕ → ℕ) → (ℕ → ℕ) → ℕ → ℕ → Type 0
AreFollowed f g n m = (k : ℕ) → g (m + k) ≡ f (n + k)

here : (f g : ℕ → ℕ) (n m : ℕ) → AreFollowed f g n m → g m ≡ f n
here f g n m h = let a : m ≡ m + 0 = omega arith in let b : n + 0 ≡ n = omega arith in ap g a ∙ h 0 ∙ ap f b

below : (f g : ℕ → ℕ) (n m : ℕ) → AreFollowed f g n m → AreFollowed f g (n + 1) (m + 1)
below f g n m h = λ k. let a : m + 1 + k ≡ m + (k + 1) = omega arith in let b : n + (k + 1) ≡ n + 1 + k = omega arith in ap g a ∙ h (k + 1) ∙ ap f b

pub nested-lines : (f g : ℕ → ℕ) (is : List Item) (n m : ℕ) → AreFollowed f g n m → option_map g (nested m is) ≡ option_map f (nested n is)
nested-lines f g [] n m h = refl
nested-lines f g ((Open, octets) ∷ is) n m h = ap Some (here f g n m h)
nested-lines f g ((LineEnd, octets) ∷ is) n m h = nested-lines f g is (n + 1) (m + 1) (below f g n m h)
nested-lines f g ((Bare, octets) ∷ is) n m h = nested-lines f g is n m h
nested-lines f g ((InQuotes, octets) ∷ is) n m h = nested-lines f g is n m h
nested-lines f g ((Blank, octets) ∷ is) n m h = nested-lines f g is n m h
nested-lines f g ((Comment, octets) ∷ is) n m h = nested-lines f g is n m h
nested-lines f g ((Close, octets) ∷ is) n m h = nested-lines f g is n m h
nested-lines f g ((Unclosed, octets) ∷ is) n m h = nested-lines f g is n m h

reported-lines : (f g : ℕ → ℕ) (o p : Option ℕ) (n m : ℕ) → option_map g p ≡ option_map f o → g m ≡ f n → g (unwrap_or p m) ≡ f (unwrap_or o n)
reported-lines f g None None n m e h = h
reported-lines f g (Some x) (Some y) n m e h = cc
reported-lines f g (Some x) None n m e h = let no : ⊥ = cc in absurd no
reported-lines f g None (Some y) n m e h = let no : ⊥ = cc in absurd no

abbrev made : ℕ → Bool → List Written → Option ℕ → List Entry
made line indented words unclosed = record { line = line; indented = indented; words = words; unclosed = unclosed } ∷ []

made-same : (l k : ℕ) (a b : Bool) (words : List Written) (o p : Option ℕ) → l ≡ k → a ≡ b → o ≡ p → made l a words o ≡ made k b words p
made-same l k a b words o p e f g =
    ap (λ (x : ℕ). made x a words o) e ∙ ap (λ (x : Bool). made k x words o) f ∙ ap (λ (x : Option ℕ). made k b words x) g

-- starts alike but for their line
pub record AreSame (f g : ℕ → ℕ) (start other : Start) : Type 0 where
  pub line : g other.line ≡ f start.line
  pub indented : other.indented ≡ start.indented

pub whole-lines : (f g : ℕ → ℕ) (start other : Start) (words : List Written) → AreSame f g start other → map (on_lines g) (whole other words) ≡ map (on_lines f) (whole start words)
whole-lines f g start other [] same = refl
whole-lines f g start other (word ∷ words) same = made-same _ _ _ _ (word ∷ words) None None same.line same.indented refl

faulty-lines : (f g : ℕ → ℕ) (start other : Start) (words : List Written) (n m : ℕ) → AreSame f g start other → g m ≡ f n → map (on_lines g) (faulty other words m) ≡ map (on_lines f) (faulty start words n)
faulty-lines f g start other words n m same e = made-same _ _ _ _ words (Some (g m)) (Some (f n)) same.line same.indented (ap Some e)

pub both-lines : (f g : ℕ → ℕ) (xs ys zs ws : List Entry) → map (on_lines g) xs ≡ map (on_lines f) ys → map (on_lines g) zs ≡ map (on_lines f) ws → map (on_lines g) (xs ++ zs) ≡ map (on_lines f) (ys ++ ws)
both-lines f g xs ys zs ws e h =
    map-append (on_lines g) xs zs ∙ ap (λ (es : List Entry). es ++ map (on_lines g) zs) e ∙ ap (λ (es : List Entry). map (on_lines f) ys ++ es) h ∙ sym (map-append (on_lines f) ys ws)

open-lines : (f g : ℕ → ℕ) (b c : Bool) (xs ys zs ws : List Entry) → c ≡ b → map (on_lines g) xs ≡ map (on_lines f) ys → map (on_lines g) zs ≡ map (on_lines f) ws → map (on_lines g) (elim c as (λ _. List Entry) [ true ↦ xs | false ↦ zs ]) ≡ map (on_lines f) (elim b as (λ _. List Entry) [ true ↦ ys | false ↦ ws ])
open-lines f g true true xs ys zs ws same e h = e
open-lines f g false false xs ys zs ws same e h = h
open-lines f g true false xs ys zs ws same e h = absurd (true≢false (sym same))
open-lines f g false true xs ys zs ws same e h = absurd (true≢false same)

-- entries of the same items on other lines are the same but for their lines
pub entries-lines : (f g : ℕ → ℕ) (is : List Item) (start other : Start) (words : List Written) (inside : Bool) (n m : ℕ) → AreSame f g start other → AreFollowed f g n m → map (on_lines g) (entries_from other words inside m is) ≡ map (on_lines f) (entries_from start words inside n is)
entries-lines f g [] start other words inside n m same h = whole-lines f g start other words same
entries-lines f g ((Bare, octets) ∷ is) start other words inside n m same h = entries-lines f g is start other (words ++ Plain octets ∷ []) inside n m same h
entries-lines f g ((InQuotes, octets) ∷ is) start other words inside n m same h = entries-lines f g is start other (words ++ Quoted (between_quotes octets) ∷ []) inside n m same h
entries-lines f g ((Blank, octets) ∷ is) start other words inside n m same h = entries-lines f g is start other words inside n m same h
entries-lines f g ((Comment, octets) ∷ is) start other words inside n m same h = entries-lines f g is start other words inside n m same h
entries-lines f g ((LineEnd, octets) ∷ is) start other words true n m same h = entries-lines f g is start other words true (n + 1) (m + 1) same (below f g n m h)
entries-lines f g ((LineEnd, octets) ∷ is) start other words false n m same h =
    both-lines f g (whole other words) (whole start words) _ _ (whole-lines f g start other words same)
    (entries-lines f g is (start_of (n + 1) is) (start_of (m + 1) is) [] false (n + 1) (m + 1) (record { line = here f g (n + 1) (m + 1) (below f g n m h); indented = refl }) (below f g n m h))
entries-lines f g ((Open, octets) ∷ is) start other words true n m same h = faulty-lines f g start other words n m same (here f g n m h)
entries-lines f g ((Open, octets) ∷ is) start other words false n m same h =
    open-lines f g (closes is) (closes is) _ _ _ _ refl (entries-lines f g is start other words true n m same h)
    (faulty-lines f g start other words (unwrap_or (nested n is) n) (unwrap_or (nested m is) m) same (reported-lines f g (nested n is) (nested m is) n m (nested-lines f g is n m h) (here f g n m h)))
entries-lines f g ((Close, octets) ∷ is) start other words true n m same h = entries-lines f g is start other words false n m same h
entries-lines f g ((Close, octets) ∷ is) start other words false n m same h = faulty-lines f g start other words n m same (here f g n m h)
entries-lines f g ((Unclosed, octets) ∷ is) start other words inside n m same h = faulty-lines f g start other words n m same (here f g n m h)

-- items behind others, on a line and inside parentheses or not, whose entries are the same but for their lines
pub record AreAlike (f g : ℕ → ℕ) (n : ℕ) (inside : Bool) (xs ys : List Item) : Type 0 where
  pub same : (line : ℕ) → line ≤ n → g line ≡ f line
  pub blank : inside ≡ false → begins_blank ys ≡ begins_blank xs
  pub closing : closes ys ≡ closes xs
  pub nesting : option_map g (nested n ys) ≡ option_map f (nested n xs)
  pub entries : (start : Start) (words : List Written) → start.line ≤ n → map (on_lines g) (entries_from start words inside n ys) ≡ map (on_lines f) (entries_from start words inside n xs)

-- whether what stands behind items stands between parentheses
abbrev pub inside_of : Bool → List Item → Bool
inside_of inside [] = inside
inside_of inside (i ∷ is) = inside_of (inside_behind inside i.0) is

-- how many lines end in items
abbrev pub ends_of : List Item → ℕ
ends_of [] = 0
ends_of (i ∷ is) = line_ends i.0 + ends_of is

closes-front : (is xs ys : List Item) → closes ys ≡ closes xs → closes (is ++ ys) ≡ closes (is ++ xs)
closes-front [] xs ys e = e
closes-front ((Close, octets) ∷ is) xs ys e = refl
closes-front ((Bare, octets) ∷ is) xs ys e = closes-front is xs ys e
closes-front ((InQuotes, octets) ∷ is) xs ys e = closes-front is xs ys e
closes-front ((Blank, octets) ∷ is) xs ys e = closes-front is xs ys e
closes-front ((Comment, octets) ∷ is) xs ys e = closes-front is xs ys e
closes-front ((Open, octets) ∷ is) xs ys e = closes-front is xs ys e
closes-front ((Unclosed, octets) ∷ is) xs ys e = closes-front is xs ys e
closes-front ((LineEnd, octets) ∷ is) xs ys e = closes-front is xs ys e

blank-front : (is xs ys : List Item) (inside : Bool) → inside_of false is ≡ inside → (inside ≡ false → begins_blank ys ≡ begins_blank xs) → begins_blank (is ++ ys) ≡ begins_blank (is ++ xs)
blank-front [] xs ys inside e h = h (sym e)
blank-front ((Close, octets) ∷ is) xs ys inside e h = refl
blank-front ((Bare, octets) ∷ is) xs ys inside e h = refl
blank-front ((InQuotes, octets) ∷ is) xs ys inside e h = refl
blank-front ((Blank, octets) ∷ is) xs ys inside e h = refl
blank-front ((Comment, octets) ∷ is) xs ys inside e h = refl
blank-front ((Open, octets) ∷ is) xs ys inside e h = refl
blank-front ((Unclosed, octets) ∷ is) xs ys inside e h = refl
blank-front ((LineEnd, octets) ∷ is) xs ys inside e h = refl

module _ (f g : ℕ → ℕ) (n : ℕ) (last : Bool) (xs ys : List Item) (alike : AreAlike f g n last xs ys) where
  nested-front : (is : List Item) (line : ℕ) → line + ends_of is ≡ n → option_map g (nested line (is ++ ys)) ≡ option_map f (nested line (is ++ xs))
  nested-front [] line e = let at : line ≡ n = omega arith in subst (λ (l : ℕ). option_map g (nested l ys) ≡ option_map f (nested l xs)) (sym at) alike.nesting
  nested-front ((Open, octets) ∷ is) line e = ap Some (alike.same line (omega arith))
  nested-front ((LineEnd, octets) ∷ is) line e = nested-front is (line + 1) (omega arith)
  nested-front ((Bare, octets) ∷ is) line e = nested-front is line (omega arith)
  nested-front ((InQuotes, octets) ∷ is) line e = nested-front is line (omega arith)
  nested-front ((Blank, octets) ∷ is) line e = nested-front is line (omega arith)
  nested-front ((Comment, octets) ∷ is) line e = nested-front is line (omega arith)
  nested-front ((Close, octets) ∷ is) line e = nested-front is line (omega arith)
  nested-front ((Unclosed, octets) ∷ is) line e = nested-front is line (omega arith)

  start_same : (start : Start) → start.line ≤ n → AreSame f g start start
  start_same start h = record { line = alike.same start.line h; indented = refl }

  -- entries of items in front of such items
  pub entries-front : (is : List Item) (start : Start) (words : List Written) (inside : Bool) (line : ℕ) → line + ends_of is ≡ n → inside_of inside is ≡ last → start.line ≤ line → map (on_lines g) (entries_from start words inside line (is ++ ys)) ≡ map (on_lines f) (entries_from start words inside line (is ++ xs))
  entries-front [] start words inside line e is_last h =
      let at : line ≡ n = omega arith in
      let within : start.line ≤ n = omega arith in
      subst (λ (b : Bool). map (on_lines g) (entries_from start words b line ys) ≡ map (on_lines f) (entries_from start words b line xs)) (sym is_last)
      (subst (λ (l : ℕ). map (on_lines g) (entries_from start words last l ys) ≡ map (on_lines f) (entries_from start words last l xs)) (sym at) (alike.entries start words within))
  entries-front ((Bare, octets) ∷ is) start words inside line e is_last h = entries-front is start (words ++ Plain octets ∷ []) inside line (omega arith) is_last h
  entries-front ((InQuotes, octets) ∷ is) start words inside line e is_last h = entries-front is start (words ++ Quoted (between_quotes octets) ∷ []) inside line (omega arith) is_last h
  entries-front ((Blank, octets) ∷ is) start words inside line e is_last h = entries-front is start words inside line (omega arith) is_last h
  entries-front ((Comment, octets) ∷ is) start words inside line e is_last h = entries-front is start words inside line (omega arith) is_last h
  entries-front ((LineEnd, octets) ∷ is) start words true line e is_last h = entries-front is start words true (line + 1) (omega arith) is_last (omega arith)
  entries-front ((LineEnd, octets) ∷ is) start words false line e is_last h =
      let blank = blank-front is xs ys last is_last alike.blank in
      both-lines f g (whole start words) (whole start words) _ _ (whole-lines f g start start words (start_same start (omega arith)))
      (ap (λ (b : Bool). map (on_lines g) (entries_from (record { line = line + 1; indented = b }) [] false (line + 1) (is ++ ys))) blank
      ∙ entries-front is (start_of (line + 1) (is ++ xs)) [] false (line + 1) (omega arith) is_last (omega arith))
  entries-front ((Open, octets) ∷ is) start words true line e is_last h = faulty-lines f g start start words line line (start_same start (omega arith)) (alike.same line (omega arith))
  entries-front ((Open, octets) ∷ is) start words false line e is_last h =
      open-lines f g (closes (is ++ xs)) (closes (is ++ ys)) _ _ _ _ (closes-front is xs ys alike.closing) (entries-front is start words true line (omega arith) is_last h)
      (faulty-lines f g start start words _ _ (start_same start (omega arith)) (reported-lines f g (nested line (is ++ xs)) (nested line (is ++ ys)) line line (nested-front is line (omega arith)) (alike.same line (omega arith))))
  entries-front ((Close, octets) ∷ is) start words true line e is_last h = entries-front is start words false line (omega arith) is_last h
  entries-front ((Close, octets) ∷ is) start words false line e is_last h = faulty-lines f g start start words line line (start_same start (omega arith)) (alike.same line (omega arith))
  entries-front ((Unclosed, octets) ∷ is) start words inside line e is_last h = faulty-lines f g start start words line line (start_same start (omega arith)) (alike.same line (omega arith))

  -- and so are those of a text's items
  pub entries-seam : (is : List Item) → 1 + ends_of is ≡ n → inside_of false is ≡ last → map (on_lines g) (entries_left 1 (is ++ ys)) ≡ map (on_lines f) (entries_left 1 (is ++ xs))
  entries-seam is e is_last =
      ap (λ (b : Bool). map (on_lines g) (entries_from (record { line = 1; indented = b }) [] false 1 (is ++ ys))) (blank-front is xs ys last is_last alike.blank)
      ∙ entries-front is (start_of 1 (is ++ xs)) [] false 1 e is_last (omega arith)
