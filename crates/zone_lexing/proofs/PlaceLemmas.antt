-- The place of an octet, and the items before it.
use Rattle.std.proofs.Common.{◌≡◌, ◌⊎◌, inl, inr, ℕ, zero, suc, ◌+◌, ◌-◌, ◌<◌, Bool, true, false, cond, ◌&&◌, ◌||◌, ◌==◌, List, [], ◌∷◌, ◌++◌, length, drop, nat_lt, refl, sym, ap, subst, ◌∙◌, arith, true≢false}
use Rattle.std.proofs.lemmas.Bool.Decides.{Decides-eqb}
use Rattle.zone_lexing.specs.Items.{items, token_at, line_end, is_blank, ends, escapes, run_len, begins_with, string_at}
use Rattle.zone_lexing.specs.Place.{Place, place_behind, place_from, place_of, is_outside}
use Rattle.zone_lexing.specs.declared.item.Run.{Run}
use Rattle.zone_lexing.specs.declared.item.Run.TheVariants.{OfWord, OfString, OfComment}
use Rattle.zone_lexing.specs.declared.item.Token.{Token}
use Rattle.zone_lexing.specs.declared.item.Token.TheVariants.{Bare, InQuotes, Blank, Comment, Open, Close, Unclosed}
use Rattle.zone_lexing.proofs.CutLemmas.{by_test, no_lf, no_end}
use Rattle.zone_lexing.proofs.ItemLemmas.{drop_less}
use Rattle.zone_lexing.proofs.SpellingLemmas.{both, neither}
use Rattle.zone_lexing.proofs.SeamLemmas.{IsApart, apart_tail, line_end-front, run_len-front, Keeps, items-parted, string_at-by}

-- the places in a word, between quotes and in a comment; whether between parentheses, and whether a backslash stands before
abbrev pub word_place : Bool → Bool → Place
word_place inside escaped = record { inside = inside; quoted = false; remark = false; escaped = escaped }

abbrev pub string_place : Bool → Bool → Place
string_place inside escaped = record { inside = inside; quoted = true; remark = false; escaped = escaped }

abbrev pub remark_place : Bool → Place
remark_place inside = record { inside = inside; quoted = false; remark = true; escaped = false }

-- one octet further in each
choose_word : (inside b : Bool) → cond b (word_place inside true) (word_place inside false) ≡ word_place inside b
choose_word inside true = refl
choose_word inside false = refl

choose_string : (inside b : Bool) → cond b (string_place inside true) (string_place inside false) ≡ string_place inside b
choose_string inside true = refl
choose_string inside false = refl

word_step : (inside escaped : Bool) (c : ℕ) → (c == 10) ≡ false → ends OfWord escaped c ≡ false → place_behind (word_place inside escaped) c ≡ word_place inside (escapes escaped c)
word_step inside true c lf other = rw lf refl
word_step inside false c lf other =
    let a = neither (is_blank c || c == 34 || c == 59 || c == 40) (c == 41) other in
    let b = neither (is_blank c || c == 34 || c == 59) (c == 40) a.0 in
    let d = neither (is_blank c || c == 34) (c == 59) b.0 in
    let q = neither (is_blank c) (c == 34) d.0 in
    let quote = q.1 in let remark = d.1 in let opens = b.1 in let closes = a.1 in
    rw (lf, quote, remark, opens, closes) (choose_word inside (c == 92))

string_step : (inside escaped : Bool) (c : ℕ) → (c == 10) ≡ false → ends OfString escaped c ≡ false → place_behind (string_place inside escaped) c ≡ string_place inside (escapes escaped c)
string_step inside true c lf other = rw lf refl
string_step inside false c lf other = let quote : (c == 34) ≡ false = other in rw (lf, quote) (choose_string inside (c == 92))

remark_step : (inside : Bool) (c : ℕ) → (c == 10) ≡ false → place_behind (remark_place inside) c ≡ remark_place inside
remark_step inside c lf = rw lf refl

-- a line's end ends quotes and comments
inside_kept : (at : Place) → (place_behind at 13).inside ≡ at.inside
inside_kept at =
    by_test (λ (p : Place). p.inside ≡ at.inside) at.remark _ _ (λ _. refl)
    (λ _. by_test (λ (p : Place). p.inside ≡ at.inside) at.escaped _ _ (λ _. refl)
    (λ _. by_test (λ (p : Place). p.inside ≡ at.inside) at.quoted _ _ (λ _. refl) (λ _. refl)))

pub line_first : (c : ℕ) (text : List ℕ) → nat_lt 0 (line_end (c ∷ text)) ≡ true → (c ≡ 10) ⊎ ((c ≡ 13) × (begins_with 10 text ≡ true))
line_first c text line = by (c == 10) refl (c == 13 && begins_with 10 text) refl
  where
    by : (a : Bool) → (c == 10) ≡ a → (b : Bool) → (c == 13 && begins_with 10 text) ≡ b → (c ≡ 10) ⊎ ((c ≡ 13) × (begins_with 10 text ≡ true))
    by true e b f = inl ((Decides-eqb c 10).0 e)
    by false e true f = let parts = both (c == 13) (begins_with 10 text) f in inr ((Decides-eqb c 13).0 parts.0, parts.1)
    by false e false f = absurd (true≢false (sym line ∙ rw (e, f) refl))

lf_resets : (at other : Place) (text : List ℕ) → at.inside ≡ other.inside → begins_with 10 text ≡ true → place_from at text ≡ place_from other text
lf_resets at other [] e lf = absurd (true≢false (sym lf))
lf_resets at other (c ∷ text) e lf =
    let is : c ≡ 10 = (Decides-eqb c 10).0 lf in
    rw is (ap (λ (inside : Bool). place_from (word_place inside false) text) e)

line_resets : (at other : Place) (c : ℕ) (text : List ℕ) → at.inside ≡ other.inside → nat_lt 0 (line_end (c ∷ text)) ≡ true → place_from at (c ∷ text) ≡ place_from other (c ∷ text)
line_resets at other c text e line = elim (line_first c text line) [
  | inl lf ↦ rw lf (ap (λ (inside : Bool). place_from (word_place inside false) text) e)
  | inr pair ↦ (let cr = pair.0 in rw cr (lf_resets (place_behind at 13) (place_behind other 13) text (inside_kept at ∙ e ∙ sym (inside_kept other)) pair.1))
]

line_end-one : (c : ℕ) (text : List ℕ) → c ≡ 10 → line_end (c ∷ text) ≡ 1
line_end-one c text e = rw e refl

line_end-two : (c : ℕ) (text : List ℕ) → c ≡ 13 → begins_with 10 text ≡ true → line_end (c ∷ text) ≡ 2
line_end-two c text e lf = rw (e, lf) refl

-- behind a line's end
lf_behind : (inside : Bool) (text : List ℕ) → begins_with 10 text ≡ true → place_from (word_place inside false) text ≡ place_from (word_place inside false) (drop 1 text)
lf_behind inside [] lf = absurd (true≢false (sym lf))
lf_behind inside (c ∷ text) lf = let is : c ≡ 10 = (Decides-eqb c 10).0 lf in rw is refl

line_behind : (inside : Bool) (c : ℕ) (text : List ℕ) → nat_lt 0 (line_end (c ∷ text)) ≡ true → place_from (word_place inside false) (c ∷ text) ≡ place_from (word_place inside false) (drop (line_end (c ∷ text) - 1) text)
line_behind inside c text line = elim (line_first c text line) [
  | inl lf ↦ (let one = line_end-one c text lf in rw (one, lf) refl)
  | inr pair ↦ (let two = line_end-two c text pair.0 pair.1 in let cr = pair.0 in rw (two, cr) (lf_behind inside text pair.1))
]

-- behind a run
word_behind : (inside escaped : Bool) (text : List ℕ) → is_outside (place_from (word_place inside escaped) text) ≡ true → place_from (word_place inside escaped) text ≡ place_from (word_place inside false) (drop (run_len OfWord escaped text) text)
word_behind inside true [] out = absurd (true≢false (sym out))
word_behind inside false [] out = refl
word_behind inside escaped (c ∷ text) out =
    let Goal = λ (n : ℕ). place_from (word_place inside escaped) (c ∷ text) ≡ place_from (word_place inside false) (drop n (c ∷ text)) in
    by_test Goal (nat_lt 0 (line_end (c ∷ text))) _ _ (λ line. line_resets (word_place inside escaped) (word_place inside false) c text refl line)
    (λ line. by_test Goal (ends OfWord escaped c) _ _ (λ other. ended escaped other)
    (λ other. let step = word_step inside escaped c (no_lf c text line) other in
    ap (λ (p : Place). place_from p text) step
    ∙ word_behind inside (escapes escaped c) text (subst (λ (p : Place). is_outside (place_from p text) ≡ true) step out)))
  where
    ended : (e : Bool) → ends OfWord e c ≡ true → place_from (word_place inside e) (c ∷ text) ≡ place_from (word_place inside false) (c ∷ text)
    ended true other = absurd (true≢false (sym other))
    ended false other = refl

remark_behind : (inside escaped : Bool) (text : List ℕ) → is_outside (place_from (remark_place inside) text) ≡ true → place_from (remark_place inside) text ≡ place_from (word_place inside false) (drop (run_len OfComment escaped text) text)
remark_behind inside escaped [] out = absurd (true≢false (sym out))
remark_behind inside escaped (c ∷ text) out =
    let Goal = λ (n : ℕ). place_from (remark_place inside) (c ∷ text) ≡ place_from (word_place inside false) (drop n (c ∷ text)) in
    by_test Goal (nat_lt 0 (line_end (c ∷ text))) _ _ (λ line. line_resets (remark_place inside) (word_place inside false) c text refl line)
    (λ line. by_test Goal (ends OfComment escaped c) _ _ (λ other. absurd (true≢false (sym other ∙ never escaped)))
    (λ other. let step = remark_step inside c (no_lf c text line) in
    ap (λ (p : Place). place_from p text) step
    ∙ remark_behind inside (escapes escaped c) text (subst (λ (p : Place). is_outside (place_from p text) ≡ true) step out)))
  where
    never : (e : Bool) → ends OfComment e c ≡ false
    never true = refl
    never false = refl

-- how many octets a string has with the quote that closes it
abbrev closed_len : ℕ → List ℕ → ℕ
closed_len n text = cond (begins_with 34 (drop n text)) (suc n) n

closed_more : (n c : ℕ) (text : List ℕ) → closed_len (suc n) (c ∷ text) ≡ suc (closed_len n text)
closed_more n c text = elim (begins_with 34 (drop n text)) as (λ b. cond b (suc (suc n)) (suc n) ≡ suc (cond b (suc n) n)) [ true ↦ refl | false ↦ refl ]

no_quote : (c : ℕ) (text : List ℕ) → nat_lt 0 (line_end (c ∷ text)) ≡ true → (c == 34) ≡ false
no_quote c text line = elim (line_first c text line) [ inl lf ↦ rw lf refl | inr pair ↦ (let cr = pair.0 in rw cr refl) ]

string_behind : (inside escaped : Bool) (text : List ℕ) → is_outside (place_from (string_place inside escaped) text) ≡ true → place_from (string_place inside escaped) text ≡ place_from (word_place inside false) (drop (closed_len (run_len OfString escaped text) text) text)
string_behind inside escaped [] out = absurd (true≢false (sym out))
string_behind inside escaped (c ∷ text) out =
    let Goal = λ (n : ℕ). place_from (string_place inside escaped) (c ∷ text) ≡ place_from (word_place inside false) (drop (closed_len n (c ∷ text)) (c ∷ text)) in
    by_test Goal (nat_lt 0 (line_end (c ∷ text))) _ _ (λ line.
    let none = no_quote c text line in
    line_resets (string_place inside escaped) (word_place inside false) c text refl line ∙ ap (λ (b : Bool). place_from (word_place inside false) (drop (cond b 1 0) (c ∷ text))) (sym none))
    (λ line. by_test Goal (ends OfString escaped c) _ _ (λ other. ended escaped other)
    (λ other. let step = string_step inside escaped c (no_lf c text line) other in
    let n = run_len OfString (escapes escaped c) text in
    ap (λ (p : Place). place_from p text) step
    ∙ string_behind inside (escapes escaped c) text (subst (λ (p : Place). is_outside (place_from p text) ≡ true) step out)
    ∙ ap (λ (m : ℕ). place_from (word_place inside false) (drop m (c ∷ text))) (sym (closed_more n c text))))
  where
    ended : (e : Bool) → ends OfString e c ≡ true → place_from (string_place inside e) (c ∷ text) ≡ place_from (word_place inside false) (drop (closed_len 0 (c ∷ text)) (c ∷ text))
    ended true other = absurd (true≢false (sym other))
    ended false other = let is : c ≡ 34 = (Decides-eqb c 34).0 other in rw is refl

-- whether the octets behind an item stand between parentheses
abbrev pub inside_behind : Bool → Token → Bool
inside_behind inside Open = true
inside_behind inside Close = false
inside_behind inside _ = inside

-- the place behind an item
abbrev IsBehind : Bool → ℕ → List ℕ → Token × ℕ → Type 0
IsBehind inside c text found = place_from (word_place inside false) (c ∷ text) ≡ place_from (word_place (inside_behind inside found.0) false) (drop (found.1 - 1) text)

blank_behind : (inside : Bool) (c : ℕ) (text : List ℕ) → is_blank c ≡ true → IsBehind inside c text (Blank, 1)
blank_behind inside c text blank = by (c == 32) refl (c == 9) refl
  where
    by : (a : Bool) → (c == 32) ≡ a → (b : Bool) → (c == 9) ≡ b → IsBehind inside c text (Blank, 1)
    by true e b f = let is : c ≡ 32 = (Decides-eqb c 32).0 e in rw is refl
    by false e true f = let is : c ≡ 9 = (Decides-eqb c 9).0 f in rw is refl
    by false e false f = absurd (true≢false (sym blank ∙ rw (e, f) refl))

less_one : (n : ℕ) → suc n - 1 ≡ n
less_one n = omega arith

abbrev string_found : Bool → ℕ → Token × ℕ
string_found b n = cond b (InQuotes, n + 2) (Unclosed, n + 1)

string_token : (inside : Bool) (text : List ℕ) → place_from (word_place inside false) (34 ∷ text) ≡ place_from (word_place inside false) (drop (closed_len (run_len OfString false text) text) text) → IsBehind inside 34 text (string_at text)
string_token inside text is =
    let n = run_len OfString false text in
    is ∙ by (begins_with 34 (drop n text)) n
  where
    by : (b : Bool) (n : ℕ) → place_from (word_place inside false) (drop (cond b (suc n) n) text) ≡ place_from (word_place (inside_behind inside (string_found b n).0) false) (drop ((string_found b n).1 - 1) text)
    by true n = let e : suc n ≡ n + 2 - 1 = omega arith in ap (λ (m : ℕ). place_from (word_place inside false) (drop m text)) e
    by false n = let e : n ≡ n + 1 - 1 = omega arith in ap (λ (m : ℕ). place_from (word_place inside false) (drop m text)) e

pub token_behind : (inside : Bool) (c : ℕ) (text : List ℕ) → is_outside (place_from (word_place inside false) (c ∷ text)) ≡ true → IsBehind inside c text (token_at c text)
token_behind inside c text out =
    by_test (IsBehind inside c text) (nat_lt 0 (line_end (c ∷ text))) _ _ (λ line. line_behind inside c text line)
    (λ line. by_test (IsBehind inside c text) (is_blank c) _ _ (λ blank. blank_behind inside c text blank)
    (λ blank. by_test (IsBehind inside c text) (c == 40) _ _ (λ e. let is : c ≡ 40 = (Decides-eqb c 40).0 e in rw is refl)
    (λ opens. by_test (IsBehind inside c text) (c == 41) _ _ (λ e. let is : c ≡ 41 = (Decides-eqb c 41).0 e in rw is refl)
    (λ closes. by_test (IsBehind inside c text) (c == 59) _ _ (λ e. let is : c ≡ 59 = (Decides-eqb c 59).0 e in remark c is out)
    (λ remark. by_test (IsBehind inside c text) (c == 34) _ _ (λ e. let is : c ≡ 34 = (Decides-eqb c 34).0 e in string c is out)
    (λ quote. word line (no_end c blank opens closes remark quote)))))))
  where
    remark : (d : ℕ) → d ≡ 59 → is_outside (place_from (word_place inside false) (d ∷ text)) ≡ true → IsBehind inside d text (Comment, run_len OfComment false (d ∷ text))
    remark d is h =
        let at = rw is at h in
        let n = run_len OfComment false text in
        rw is (remark_behind inside false text at ∙ ap (λ (m : ℕ). place_from (word_place inside false) (drop m text)) (sym (less_one n)))

    string : (d : ℕ) → d ≡ 34 → is_outside (place_from (word_place inside false) (d ∷ text)) ≡ true → IsBehind inside d text (string_at text)
    string d is h =
        let at = rw is at h in
        rw is (string_token inside text (string_behind inside false text at))

    word : nat_lt 0 (line_end (c ∷ text)) ≡ false → ends OfWord false c ≡ false → IsBehind inside c text (Bare, run_len OfWord false (c ∷ text))
    word line other =
        let some : 0 < run_len OfWord false (c ∷ text) = rw (line, other) (omega arith) in
        word_behind inside false (c ∷ text) out ∙ ap (place_from (word_place inside false)) (drop_less (run_len OfWord false (c ∷ text)) c text some)

-- a run whose places stay those of the run, and that ends at the text behind where its end is outside
record Stays (run : Run) (at : Bool → Place) (back : List ℕ) : Type 0 where
  step : (escaped : Bool) (c : ℕ) → (c == 10) ≡ false → ends run escaped c ≡ false → place_behind (at escaped) c ≡ at (escapes escaped c)
  stop : (escaped : Bool) → is_outside (at escaped) ≡ true → run_len run escaped back ≡ 0

run_len-outside : (run : Run) (at : Bool → Place) (back : List ℕ) → Stays run at back → (escaped : Bool) (text : List ℕ) → is_outside (place_from (at escaped) text) ≡ true → IsApart text back → run_len run escaped (text ++ back) ≡ run_len run escaped text
run_len-outside run at back stays escaped [] out apart = stays.stop escaped out
run_len-outside run at back stays escaped (c ∷ text) out apart =
    run_len-front run escaped c text back apart
    (λ line other. run_len-outside run at back stays (escapes escaped c) text (subst (λ (p : Place). is_outside (place_from p text) ≡ true) (stays.step escaped c (no_lf c text line) other) out) (apart_tail c text back apart))

word_stays : (inside : Bool) (back : List ℕ) → run_len OfWord false back ≡ 0 → Stays OfWord (word_place inside) back
word_stays inside back stops = record { step = word_step inside; stop = λ escaped out. by escaped out }
  where
    by : (escaped : Bool) → is_outside (word_place inside escaped) ≡ true → run_len OfWord escaped back ≡ 0
    by true out = absurd (true≢false (sym out))
    by false out = stops

string_stays : (inside : Bool) (back : List ℕ) → Stays OfString (string_place inside) back
string_stays inside back = record { step = string_step inside; stop = λ escaped out. absurd (true≢false (sym out)) }

remark_stays : (inside : Bool) (back : List ℕ) → Stays OfComment (λ _. remark_place inside) back
remark_stays inside back = record { step = λ escaped c lf other. remark_step inside c lf; stop = λ escaped out. absurd (true≢false (sym out)) }

-- a string that is closed ends in the text
string_within : (inside escaped : Bool) (text : List ℕ) → is_outside (place_from (string_place inside escaped) text) ≡ true → run_len OfString escaped text < length text
string_within inside escaped [] out = absurd (true≢false (sym out))
string_within inside escaped (c ∷ text) out =
    by_test (λ (n : ℕ). n < suc (length text)) (nat_lt 0 (line_end (c ∷ text))) _ _ (λ _. omega arith)
    (λ line. by_test (λ (n : ℕ). n < suc (length text)) (ends OfString escaped c) _ _ (λ _. omega arith)
    (λ other.
    let less = string_within inside (escapes escaped c) text (subst (λ (p : Place). is_outside (place_from p text) ≡ true) (string_step inside escaped c (no_lf c text line) other) out) in
    omega (arith, less)))

quote_kept : (n : ℕ) (text back : List ℕ) → n < length text → begins_with 34 (drop n (text ++ back)) ≡ begins_with 34 (drop n text)
quote_kept zero [] back h = absurd (omega arith)
quote_kept zero (c ∷ text) back h = refl
quote_kept (suc n) [] back h = absurd (omega arith)
quote_kept (suc n) (c ∷ text) back h = quote_kept n text back (omega arith)

-- the text behind the first k octets begins outside quotes and comments, and ends so
record StandsOutside (back : List ℕ) (k : ℕ) (text : List ℕ) : Type 0 where
  inside : Bool
  outside : is_outside (place_from (word_place inside false) (drop k text)) ≡ true
  apart : IsApart text back

remark_kept : (inside : Bool) (c : ℕ) (text back : List ℕ) → c ≡ 59 → is_outside (place_from (word_place inside false) (c ∷ text)) ≡ true → IsApart text back → run_len OfComment false (c ∷ (text ++ back)) ≡ run_len OfComment false (c ∷ text)
remark_kept inside c text back is out apart =
    let at = rw is at out in
    rw is (ap (λ (n : ℕ). suc n) (run_len-outside OfComment (λ _. remark_place inside) back (remark_stays inside back) false text at apart))

string_kept : (inside : Bool) (c : ℕ) (text back : List ℕ) → c ≡ 34 → is_outside (place_from (word_place inside false) (c ∷ text)) ≡ true → IsApart text back → string_at (text ++ back) ≡ string_at text
string_kept inside c text back is out apart =
    let at = rw is at out in
    string_at-by text (text ++ back) (run_len-outside OfString (string_place inside) back (string_stays inside back) false text at apart)
    (quote_kept (run_len OfString false text) text back (string_within inside false text at))

outside_keeps : (back : List ℕ) → run_len OfWord false back ≡ 0 → Keeps back (StandsOutside back)
outside_keeps back stops = record {
  kept = λ c text at. record {
    line = line_end-front c text back at.apart;
    word = run_len-outside OfWord (word_place at.inside) back (word_stays at.inside back stops) false (c ∷ text) at.outside at.apart;
    remark = λ e. remark_kept at.inside c text back ((Decides-eqb c 59).0 e) at.outside (apart_tail c text back at.apart);
    string = λ e. string_kept at.inside c text back ((Decides-eqb c 34).0 e) at.outside (apart_tail c text back at.apart);
  };
  next = λ c text at. record {
    inside = inside_behind at.inside (token_at c text).0;
    outside = subst (λ (p : Place). is_outside p ≡ true) (token_behind at.inside c text at.outside) at.outside;
    apart = apart_tail c text back at.apart;
  };
  on = λ k c text at. record { inside = at.inside; outside = at.outside; apart = apart_tail c text back at.apart };
}

-- the items of a text that ends outside quotes and comments, with one behind it into which no word goes on
pub items-outside : (text back : List ℕ) → is_outside (place_of text) ≡ true → IsApart text back → run_len OfWord false back ≡ 0 → items 0 (text ++ back) ≡ items 0 text ++ items 0 back
items-outside text back out apart stops = items-parted back (StandsOutside back) (outside_keeps back stops) zero text (omega arith) (record { inside = false; outside = out; apart = apart })
