-- The items of a text are the text, cut behind each LF at the latest.
use Rattle.std.proofs.Common.{◌≡◌, ℕ, zero, suc, ◌+◌, ◌-◌, ◌<◌, Bool, true, false, cond, ◌&&◌, ◌==◌, List, [], ◌∷◌, ◌++◌, take, drop, nat_lt, All, refl, sym, ap, ◌∙◌, arith}
use Rattle.std.specs.List.{flat_map}
use Rattle.std.proofs.lemmas.List.{take-append-drop}
use Rattle.std.proofs.lemmas.List.Elements.{All-nil, All-cons}
use Rattle.std.proofs.lemmas.Bool.Decides.{Decides-eqb, Decides-ltb}
use Rattle.zone_lexing.specs.Items.{Item, items, token_at, line_end, is_blank, ends, escapes, run_len, begins_with, string_at}
use Rattle.zone_lexing.specs.Order.{EndsAtLf, lfs, line_ends}
use Rattle.zone_lexing.specs.declared.item.Run.{Run}
use Rattle.zone_lexing.specs.declared.item.Run.TheVariants.{OfWord, OfString, OfComment}
use Rattle.zone_lexing.specs.declared.item.Token.{Token}
use Rattle.zone_lexing.specs.declared.item.Token.TheVariants.{Bare, InQuotes, Blank, Comment, Open, Close, Unclosed}
use Rattle.zone_lexing.proofs.SpellingLemmas.{both, run_len-more}

-- a choice, by its test
pub by_test : {A : Type 0} (P : A → Type 0) (b : Bool) (x y : A) → (b ≡ true → P x) → (b ≡ false → P y) → P (cond b x y)
by_test P true x y h k = h refl
by_test P false x y h k = k refl

-- what an item at the front of a text with an octet is
record IsCut (c : ℕ) (text : List ℕ) (found : Token × ℕ) : Type 0 where
  some : 0 < found.1
  lines : lfs (take found.1 (c ∷ text)) ≡ line_ends found.0

tested : (b : Bool) (n : ℕ) → nat_lt 0 (cond b 1 n) ≡ false → b ≡ false
tested true n e = cc
tested false n e = refl

-- an octet at which no line ends is no LF
pub no_lf : (c : ℕ) (text : List ℕ) → nat_lt 0 (line_end (c ∷ text)) ≡ false → (c == 10) ≡ false
no_lf c text line = tested (c == 10) _ line

lfs-other : (c : ℕ) (text : List ℕ) → (c == 10) ≡ false → lfs (c ∷ text) ≡ lfs text
lfs-other c text e = rw e refl

lfs-lf : (c : ℕ) (text : List ℕ) → (c == 10) ≡ true → lfs (c ∷ text) ≡ suc (lfs text)
lfs-lf c text e = rw e refl

-- no LF is in a run
run_len-lfs : (run : Run) (escaped : Bool) (text : List ℕ) → lfs (take (run_len run escaped text) text) ≡ 0
run_len-lfs run escaped [] = refl
run_len-lfs run escaped (c ∷ text) =
    by_test (λ (n : ℕ). lfs (take n (c ∷ text)) ≡ 0) (nat_lt 0 (line_end (c ∷ text))) _ _ (λ _. refl)
    (λ line. by_test (λ (n : ℕ). lfs (take n (c ∷ text)) ≡ 0) (ends run escaped c) _ _ (λ _. refl)
    (λ _. lfs-other c (take (run_len run (escapes escaped c) text) text) (no_lf c text line) ∙ run_len-lfs run (escapes escaped c) text))

-- a line's end has one LF
line_end-lfs : (c : ℕ) (text : List ℕ) → nat_lt 0 (line_end (c ∷ text)) ≡ true → lfs (take (line_end (c ∷ text)) (c ∷ text)) ≡ 1
line_end-lfs c [] =
    by_test (λ (n : ℕ). nat_lt 0 n ≡ true → lfs (take n (c ∷ [])) ≡ 1) (c == 10) _ _
    (λ lf _. lfs-lf c [] lf)
    (λ other. by_test (λ (n : ℕ). nat_lt 0 n ≡ true → lfs (take n (c ∷ [])) ≡ 1) (c == 13 && false) _ _
    (λ pair _. let none = (both (c == 13) false pair).1 in cc) (λ _ e. cc))
line_end-lfs c (d ∷ text) =
    by_test (λ (n : ℕ). nat_lt 0 n ≡ true → lfs (take n (c ∷ d ∷ text)) ≡ 1) (c == 10) _ _
    (λ lf _. lfs-lf c [] lf)
    (λ other. by_test (λ (n : ℕ). nat_lt 0 n ≡ true → lfs (take n (c ∷ d ∷ text)) ≡ 1) (c == 13 && d == 10) _ _
    (λ pair _. lfs-other c (d ∷ []) other ∙ lfs-lf d [] (both (c == 13) (d == 10) pair).1) (λ _ e. cc))

none_more : (b : Bool) (m n : ℕ) → cond b (suc m) m ≡ 0 → (m ≡ 0 → n ≡ 0) → cond b (suc n) n ≡ 0
none_more true m n e h = cc
none_more false m n e h = h e

-- nor is a quote one
quote-lfs : (n : ℕ) (text : List ℕ) → begins_with 34 (drop n text) ≡ true → lfs (take n text) ≡ 0 → lfs (take (suc n) text) ≡ 0
quote-lfs zero [] quote none = cc
quote-lfs zero (c ∷ text) quote none = let is : c ≡ 34 = (Decides-eqb c 34).0 quote in rw is refl
quote-lfs (suc n) [] quote none = cc
quote-lfs (suc n) (c ∷ text) quote none = none_more (c == 10) (lfs (take n text)) (lfs (take (suc n) text)) none (quote-lfs n text quote)

-- an octet that begins a run
IsCut-run : (run : Run) (token : Token) (c : ℕ) (text : List ℕ) → line_ends token ≡ 0 → nat_lt 0 (line_end (c ∷ text)) ≡ false → ends run false c ≡ false → IsCut c text (token, run_len run false (c ∷ text))
IsCut-run run token c text plain line other =
    let len = run_len-more run false c text line other in
    record { some = omega arith; lines = run_len-lfs run false (c ∷ text) ∙ sym plain }

-- an octet alone
IsCut-alone : (token : Token) (c : ℕ) (text : List ℕ) → line_ends token ≡ 0 → (c == 10) ≡ false → IsCut c text (token, 1)
IsCut-alone token c text plain other = record { some = omega arith; lines = lfs-other c [] other ∙ sym plain }

-- a string
IsCut-string : (c : ℕ) (text : List ℕ) → (c == 10) ≡ false → IsCut c text (string_at text)
IsCut-string c text other =
    let n = run_len OfString false text in
    let none = run_len-lfs OfString false text in
    by_test (IsCut c text) (begins_with 34 (drop n text)) (InQuotes, n + 2) (Unclosed, n + 1)
    (λ quote. let e : n + 2 ≡ suc (suc n) = omega arith in record { some = omega arith; lines = rw e (lfs-other c (take (suc n) text) other ∙ quote-lfs n text quote none) })
    (λ _. let e : n + 1 ≡ suc n = omega arith in record { some = omega arith; lines = rw e (lfs-other c (take n text) other ∙ none) })

pub no_end : (c : ℕ) → is_blank c ≡ false → (c == 40) ≡ false → (c == 41) ≡ false → (c == 59) ≡ false → (c == 34) ≡ false → ends OfWord false c ≡ false
no_end c blank opens closes remark quote = rw (blank, opens, closes, remark, quote) refl

IsCut-token_at : (c : ℕ) (text : List ℕ) → IsCut c text (token_at c text)
IsCut-token_at c text =
    by_test (IsCut c text) (nat_lt 0 (line_end (c ∷ text))) _ _
    (λ line. record { some = (Decides-ltb 0 (line_end (c ∷ text))).0 line; lines = line_end-lfs c text line })
    (λ line. let other = no_lf c text line in
    by_test (IsCut c text) (is_blank c) _ _ (λ _. IsCut-alone Blank c text refl other)
    (λ blank. by_test (IsCut c text) (c == 40) _ _ (λ _. IsCut-alone Open c text refl other)
    (λ opens. by_test (IsCut c text) (c == 41) _ _ (λ _. IsCut-alone Close c text refl other)
    (λ closes. by_test (IsCut c text) (c == 59) _ _ (λ _. IsCut-run OfComment Comment c text refl line refl)
    (λ remark. by_test (IsCut c text) (c == 34) _ _ (λ _. IsCut-string c text other)
    (λ quote. IsCut-run OfWord Bare c text refl line (no_end c blank opens closes remark quote)))))))

take_step : (n c : ℕ) (text : List ℕ) → 0 < n → take n (c ∷ text) ≡ c ∷ take (n - 1) text
take_step zero c text h = absurd (omega arith)
take_step (suc n) c text h = let e : suc n - 1 ≡ n = omega arith in rw e refl

-- behind the first k octets
pub items-whole : (k : ℕ) (text : List ℕ) → flat_map (λ (item : Item). item.1) (items k text) ≡ drop k text
items-whole zero [] = refl
items-whole (suc k) [] = refl
items-whole zero (c ∷ text) =
    let n = (token_at c text).1 in
    let some = (IsCut-token_at c text).some in
    ap (λ (xs : List ℕ). take n (c ∷ text) ++ xs) (items-whole (n - 1) text)
    ∙ ap (λ (xs : List ℕ). xs ++ drop (n - 1) text) (take_step n c text some)
    ∙ ap (λ (xs : List ℕ). c ∷ xs) (take-append-drop (n - 1) text)
items-whole (suc k) (c ∷ text) = items-whole k text

pub items-EndsAtLf : (k : ℕ) (text : List ℕ) → All EndsAtLf (items k text)
items-EndsAtLf zero [] = All-nil EndsAtLf
items-EndsAtLf (suc k) [] = All-nil EndsAtLf
items-EndsAtLf zero (c ∷ text) = All-cons EndsAtLf _ _ (IsCut-token_at c text).lines (items-EndsAtLf ((token_at c text).1 - 1) text)
items-EndsAtLf (suc k) (c ∷ text) = items-EndsAtLf k text
