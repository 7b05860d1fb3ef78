-- The items of a text with another behind it: those of both, where no item goes on from the one into the other.
use Rattle.std.proofs.Common.{◌≡◌, ℕ, zero, suc, ◌+◌, ◌-◌, ◌<◌, ◌≤◌, Bool, true, false, cond, ◌&&◌, ◌==◌, List, [], ◌∷◌, ◌++◌, length, take, drop, nat_lt, refl, sym, ap, ◌∙◌, arith, true≢false}
use Rattle.std.proofs.lemmas.List.{take-append-le}
use Rattle.zone_lexing.specs.Items.{Item, items, token_at, line_end, is_blank, ends, escapes, run_len, begins_with, string_at}
use Rattle.zone_lexing.specs.Place.{ends_in}
use Rattle.zone_lexing.specs.declared.item.Run.{Run}
use Rattle.zone_lexing.specs.declared.item.Run.TheVariants.{OfWord, OfString, OfComment}
use Rattle.zone_lexing.specs.declared.item.Token.{Token}
use Rattle.zone_lexing.specs.declared.item.Token.TheVariants.{Bare, InQuotes, Blank, Comment, Open, Close, Unclosed, LineEnd}
use Rattle.zone_lexing.proofs.CutLemmas.{by_test}

-- two choices by one test
pub chosen : {A : Type 0} (b : Bool) (x z y w : A) → (b ≡ true → x ≡ z) → (b ≡ false → y ≡ w) → cond b x y ≡ cond b z w
chosen true x z y w h k = h refl
chosen false x z y w h k = k refl

-- no CR and LF are parted between the texts
abbrev pub IsApart : List ℕ → List ℕ → Type 0
IsApart text back = (ends_in 13 text && begins_with 10 back) ≡ false

pub apart_tail : (c : ℕ) (text back : List ℕ) → IsApart (c ∷ text) back → IsApart text back
apart_tail c [] back h = refl
apart_tail c (d ∷ text) back h = h

pub and_none : (b : Bool) → (b && false) ≡ false
and_none true = refl
and_none false = refl

pub line_end-front : (c : ℕ) (text back : List ℕ) → IsApart (c ∷ text) back → line_end (c ∷ (text ++ back)) ≡ line_end (c ∷ text)
line_end-front c [] back h = ap (λ (b : Bool). cond (c == 10) 1 (cond b 2 0)) (h ∙ sym (and_none (c == 13)))
line_end-front c (d ∷ text) back h = refl

-- a run is the same with another text behind it, where the rest of it is
pub run_len-front : (run : Run) (escaped : Bool) (c : ℕ) (text back : List ℕ) → IsApart (c ∷ text) back → (nat_lt 0 (line_end (c ∷ text)) ≡ false → ends run escaped c ≡ false → run_len run (escapes escaped c) (text ++ back) ≡ run_len run (escapes escaped c) text) → run_len run escaped (c ∷ (text ++ back)) ≡ run_len run escaped (c ∷ text)
run_len-front run escaped c text back apart more =
    ap (λ (n : ℕ). cond (nat_lt 0 n) 0 (cond (ends run escaped c) 0 (suc (run_len run (escapes escaped c) (text ++ back))))) (line_end-front c text back apart)
    ∙ chosen (nat_lt 0 (line_end (c ∷ text))) 0 0 _ _ (λ _. refl)
    (λ line. chosen (ends run escaped c) 0 0 _ _ (λ _. refl) (λ other. ap (λ (n : ℕ). suc n) (more line other)))

pub run_len-within : (run : Run) (escaped : Bool) (text : List ℕ) → run_len run escaped text ≤ length text
run_len-within run escaped [] = omega arith
run_len-within run escaped (c ∷ text) =
    let more = run_len-within run (escapes escaped c) text in
    by_test (λ (n : ℕ). n ≤ length (c ∷ text)) (nat_lt 0 (line_end (c ∷ text))) _ _ (λ _. omega arith)
    (λ _. by_test (λ (n : ℕ). n ≤ length (c ∷ text)) (ends run escaped c) _ _ (λ _. omega arith) (λ _. omega (arith, more)))

line_end-within : (c : ℕ) (text : List ℕ) → line_end (c ∷ text) ≤ suc (length text)
line_end-within c [] =
    by_test (λ (n : ℕ). n ≤ 1) (c == 10) _ _ (λ _. omega arith)
    (λ _. by_test (λ (n : ℕ). n ≤ 1) (c == 13 && false) _ _ (λ e. absurd (true≢false (sym e ∙ and_none (c == 13)))) (λ _. omega arith))
line_end-within c (d ∷ text) =
    by_test (λ (n : ℕ). n ≤ suc (suc (length text))) (c == 10) _ _ (λ _. omega arith)
    (λ _. by_test (λ (n : ℕ). n ≤ suc (suc (length text))) (c == 13 && d == 10) _ _ (λ _. omega arith) (λ _. omega arith))

quote-within : (n : ℕ) (text : List ℕ) → begins_with 34 (drop n text) ≡ true → n < length text
quote-within zero [] e = absurd (true≢false (sym e))
quote-within zero (c ∷ text) e = omega arith
quote-within (suc n) [] e = absurd (true≢false (sym e))
quote-within (suc n) (c ∷ text) e = let more = quote-within n text e in omega arith

string_at-within : (text : List ℕ) → (string_at text).1 ≤ suc (length text)
string_at-within text =
    let n = run_len OfString false text in
    let within = run_len-within OfString false text in
    by_test (λ (found : Token × ℕ). found.1 ≤ suc (length text)) (begins_with 34 (drop n text)) (InQuotes, n + 2) (Unclosed, n + 1)
    (λ e. let less = quote-within n text e in omega arith) (λ _. omega arith)

-- an item has no more octets than there are
pub token_at-within : (c : ℕ) (text : List ℕ) → (token_at c text).1 ≤ suc (length text)
token_at-within c text =
    let P = λ (found : Token × ℕ). found.1 ≤ suc (length text) in
    by_test P (nat_lt 0 (line_end (c ∷ text))) _ _ (λ _. line_end-within c text)
    (λ _. by_test P (is_blank c) _ _ (λ _. omega arith)
    (λ _. by_test P (c == 40) _ _ (λ _. omega arith)
    (λ _. by_test P (c == 41) _ _ (λ _. omega arith)
    (λ _. by_test P (c == 59) _ _ (λ _. run_len-within OfComment false (c ∷ text))
    (λ _. by_test P (c == 34) _ _ (λ _. string_at-within text) (λ _. run_len-within OfWord false (c ∷ text)))))))

-- an item isn't changed by the text behind
pub record IsKept (c : ℕ) (text back : List ℕ) : Type 0 where
  pub line : line_end (c ∷ (text ++ back)) ≡ line_end (c ∷ text)
  pub word : run_len OfWord false (c ∷ (text ++ back)) ≡ run_len OfWord false (c ∷ text)
  pub remark : (c == 59) ≡ true → run_len OfComment false (c ∷ (text ++ back)) ≡ run_len OfComment false (c ∷ text)
  pub string : (c == 34) ≡ true → string_at (text ++ back) ≡ string_at text

-- an item that is no line's end
abbrev other_at : ℕ → List ℕ → Token × ℕ
other_at c text =
    cond (is_blank c) (Blank, 1) (cond (c == 40) (Open, 1) (cond (c == 41) (Close, 1)
    (cond (c == 59) (Comment, run_len OfComment false (c ∷ text)) (cond (c == 34) (string_at text) (Bare, run_len OfWord false (c ∷ text))))))

token_at-front : (c : ℕ) (text back : List ℕ) → IsKept c text back → token_at c (text ++ back) ≡ token_at c text
token_at-front c text back kept =
    ap (λ (n : ℕ). cond (nat_lt 0 n) (LineEnd, n) (other_at c (text ++ back))) kept.line
    ∙ chosen (nat_lt 0 (line_end (c ∷ text))) (LineEnd, line_end (c ∷ text)) (LineEnd, line_end (c ∷ text)) (other_at c (text ++ back)) (other_at c text) (λ _. refl)
    (λ _. chosen (is_blank c) (Blank, 1) (Blank, 1) _ _ (λ _. refl)
    (λ _. chosen (c == 40) (Open, 1) (Open, 1) _ _ (λ _. refl)
    (λ _. chosen (c == 41) (Close, 1) (Close, 1) _ _ (λ _. refl)
    (λ _. chosen (c == 59) _ _ _ _ (λ remark. ap (λ (n : ℕ). (Comment, n)) (kept.remark remark))
    (λ _. chosen (c == 34) _ _ _ _ kept.string (λ _. ap (λ (n : ℕ). (Bare, n)) kept.word))))))

-- a property of the text behind its first k octets, by which each item stays with another text behind it
pub record Keeps (back : List ℕ) (Good : ℕ → List ℕ → Type 0) : Type 0 where
  pub kept : (c : ℕ) (text : List ℕ) → Good zero (c ∷ text) → IsKept c text back
  pub next : (c : ℕ) (text : List ℕ) → Good zero (c ∷ text) → Good ((token_at c text).1 - 1) text
  pub on : (k c : ℕ) (text : List ℕ) → Good (suc k) (c ∷ text) → Good k text

-- the items are those of both texts then
pub items-parted : (back : List ℕ) (Good : ℕ → List ℕ → Type 0) → Keeps back Good → (k : ℕ) (text : List ℕ) → k ≤ length text → Good k text → items k (text ++ back) ≡ items k text ++ items 0 back
items-parted back Good keeps zero [] h good = refl
items-parted back Good keeps (suc k) [] h good = absurd (omega arith)
items-parted back Good keeps zero (c ∷ text) h good =
    let found = token_at c text in
    let within = token_at-within c text in
    ap (λ (f : Token × ℕ). (f.0, take f.1 (c ∷ (text ++ back))) ∷ items (f.1 - 1) (text ++ back)) (token_at-front c text back (keeps.kept c text good))
    ∙ ap (λ (os : List ℕ). (found.0, os) ∷ items (found.1 - 1) (text ++ back)) (take-append-le found.1 (c ∷ text) back within)
    ∙ ap (λ (is : List Item). (found.0, take found.1 (c ∷ text)) ∷ is) (items-parted back Good keeps (found.1 - 1) text (omega arith) (keeps.next c text good))
items-parted back Good keeps (suc k) (c ∷ text) h good = items-parted back Good keeps k text (omega arith) (keeps.on k c text good)

-- a text that no run goes on into, and that begins with no quote
pub record Stops (back : List ℕ) : Type 0 where
  pub runs : (run : Run) (escaped : Bool) → run_len run escaped back ≡ 0
  pub quote : begins_with 34 back ≡ false

run_len-stopped : (run : Run) (escaped : Bool) (text back : List ℕ) → Stops back → IsApart text back → run_len run escaped (text ++ back) ≡ run_len run escaped text
run_len-stopped run escaped [] back stops apart = stops.runs run escaped
run_len-stopped run escaped (c ∷ text) back stops apart =
    run_len-front run escaped c text back apart (λ line other. run_len-stopped run (escapes escaped c) text back stops (apart_tail c text back apart))

quote-stopped : (n : ℕ) (text back : List ℕ) → n ≤ length text → begins_with 34 back ≡ false → begins_with 34 (drop n (text ++ back)) ≡ begins_with 34 (drop n text)
quote-stopped zero [] back h e = e
quote-stopped zero (c ∷ text) back h e = refl
quote-stopped (suc n) [] back h e = absurd (omega arith)
quote-stopped (suc n) (c ∷ text) back h e = quote-stopped n text back (omega arith) e

pub string_at-by : (text other : List ℕ) → run_len OfString false other ≡ run_len OfString false text → begins_with 34 (drop (run_len OfString false text) other) ≡ begins_with 34 (drop (run_len OfString false text) text) → string_at other ≡ string_at text
string_at-by text other len quote =
    let n = run_len OfString false text in
    ap (λ (m : ℕ). cond (begins_with 34 (drop m other)) (InQuotes, m + 2) (Unclosed, m + 1)) len
    ∙ ap (λ (b : Bool). cond b (InQuotes, n + 2) (Unclosed, n + 1)) quote

stopped_keeps : (back : List ℕ) → Stops back → Keeps back (λ k text. IsApart text back)
stopped_keeps back stops = record {
  kept = λ c text apart. record {
    line = line_end-front c text back apart;
    word = run_len-stopped OfWord false (c ∷ text) back stops apart;
    remark = λ _. run_len-stopped OfComment false (c ∷ text) back stops apart;
    string = λ _.
        string_at-by text (text ++ back) (run_len-stopped OfString false text back stops (apart_tail c text back apart))
        (quote-stopped (run_len OfString false text) text back (run_len-within OfString false text) stops.quote);
  };
  next = λ c text apart. apart_tail c text back apart;
  on = λ k c text apart. apart_tail c text back apart;
}

-- the items of a text with such a one behind it
pub items-stopped : (text back : List ℕ) → Stops back → IsApart text back → items 0 (text ++ back) ≡ items 0 text ++ items 0 back
items-stopped text back stops apart = items-parted back (λ k text. IsApart text back) (stopped_keeps back stops) zero text (omega arith) apart
