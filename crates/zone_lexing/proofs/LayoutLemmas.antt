-- Comments, blank lines, CRs in front of LFs and line ends between parentheses change no entry.
use Rattle.std.proofs.Common.{◌≡◌, ℕ, zero, suc, ◌+◌, ◌-◌, ◌<◌, ◌≤◌, Bool, true, false, cond, not, ◌==◌, List, [], ◌∷◌, ◌++◌, map, length, drop, nat_lt, Option, Some, None, option_map, refl, sym, ap, subst, ◌∙◌, arith, inl, inr, true≢false}
use Rattle.std.specs.List.{flat_map, list_all, AllByRecursion}
use Rattle.std.proofs.lemmas.List.{append-nil, append_assoc}
use Rattle.std.proofs.lemmas.List.Elements.{recursion_from_All}
use Rattle.std.proofs.lemmas.Bool.Decides.{Decides-eqb, Decides-ltb}
use Rattle.zone_lexing.specs.Items.{Item, items, token_at, line_end, is_blank, run_len, escapes, ends, begins_with}
use Rattle.zone_lexing.specs.Word.{Written}
use Rattle.zone_lexing.specs.Entries.{Start, Entry, begins_blank, start_of, closes, nested, whole, entries_from, entries_left, entries_of}
use Rattle.zone_lexing.specs.Lines.{on_lines, lowered, without_lines}
use Rattle.zone_lexing.specs.Order.{lfs, EndsAtLf}
use Rattle.zone_lexing.specs.Place.{Place, place_from, place_of, is_outside, ends_outside, ends_in, is_remark}
use Rattle.zone_lexing.specs.declared.item.Run.TheVariants.{OfWord, OfComment}
use Rattle.zone_lexing.specs.declared.item.Token.TheVariants.{Blank, Comment, LineEnd}
use Rattle.zone_lexing.proofs.CutLemmas.{items-whole, items-EndsAtLf}
use Rattle.zone_lexing.proofs.SpellingLemmas.{both, negated, items_front, run_len-more}
use Rattle.zone_lexing.proofs.SeamLemmas.{IsApart, apart_tail, and_none, line_end-front, Stops, items-stopped}
use Rattle.zone_lexing.proofs.PlaceLemmas.{word_place, line_first, token_behind, items-outside, inside_behind}
use Rattle.zone_lexing.proofs.LineLemmas.{AreFollowed, AreAlike, inside_of, ends_of, nested-lines, entries-lines, whole-lines, both-lines, entries-seam}

abbrev id : ℕ → ℕ
id line = line

option_id : (o : Option ℕ) → option_map id o ≡ o
option_id None = refl
option_id (Some line) = refl

same_lines : (es : List Entry) → map (on_lines id) es ≡ es
same_lines [] = refl
same_lines (e ∷ es) =
    ap (λ (o : Option ℕ). record e { unclosed = o } ∷ map (on_lines id) es) (option_id e.unclosed) ∙ ap (λ (fs : List Entry). e ∷ fs) (same_lines es)

-- whether a text's end stands between parentheses
inside-items : (k : ℕ) (inside : Bool) (text : List ℕ) → is_outside (place_from (word_place inside false) (drop k text)) ≡ true → inside_of inside (items k text) ≡ (place_from (word_place inside false) (drop k text)).inside
inside-items zero inside [] out = refl
inside-items (suc k) inside [] out = refl
inside-items zero inside (c ∷ text) out =
    let step = token_behind inside c text out in
    inside-items ((token_at c text).1 - 1) (inside_behind inside (token_at c text).0) text (subst (λ (p : Place). is_outside p ≡ true) step out)
    ∙ ap (λ (p : Place). p.inside) (sym step)
inside-items (suc k) inside (c ∷ text) out = inside-items k inside text out

-- lines are counted by LFs
lfs-append : (xs ys : List ℕ) → lfs (xs ++ ys) ≡ lfs xs + lfs ys
lfs-append [] ys = omega arith
lfs-append (c ∷ xs) ys =
    let more = lfs-append xs ys in
    elim (c == 10) as (λ b. cond b (suc (lfs (xs ++ ys))) (lfs (xs ++ ys)) ≡ cond b (suc (lfs xs)) (lfs xs) + lfs ys) [ true ↦ omega (arith, more) | false ↦ omega (arith, more) ]

ends_of-lfs : (is : List Item) → AllByRecursion EndsAtLf is → lfs (flat_map (λ (item : Item). item.1) is) ≡ ends_of is
ends_of-lfs [] h = refl
ends_of-lfs (i ∷ is) h = let a = lfs-append i.1 (flat_map (λ (item : Item). item.1) is) in let b = ends_of-lfs is h.1 in let d = h.0 in omega (arith, a, b, d)

ends_of-items : (text : List ℕ) → ends_of (items 0 text) ≡ lfs text
ends_of-items text = sym (ends_of-lfs (items 0 text) (recursion_from_All EndsAtLf (items 0 text) (items-EndsAtLf 0 text))) ∙ ap lfs (items-whole 0 text)

-- a comment's item
no_line_end : (c : ℕ) (text : List ℕ) → lfs (c ∷ text) ≡ 0 → nat_lt 0 (line_end (c ∷ text)) ≡ false
no_line_end c text none = by (nat_lt 0 (line_end (c ∷ text))) refl
  where
    second : (rest : List ℕ) → begins_with 10 rest ≡ true → lfs (13 ∷ rest) ≡ 0 → true ≡ false
    second [] lf e = sym lf
    second (d ∷ rest) lf e = let is : d ≡ 10 = (Decides-eqb d 10).0 lf in let two = rw is at e in absurd (omega arith)

    by : (b : Bool) → nat_lt 0 (line_end (c ∷ text)) ≡ b → b ≡ false
    by true e = elim (line_first c text e) [
      | inl lf ↦ (let one = rw lf at none in absurd (omega arith))
      | inr pair ↦ (let cr = pair.0 in let at = rw cr at none in second text pair.1 at)
    ]
    by false e = refl

lfs-less : (c : ℕ) (text : List ℕ) → lfs (c ∷ text) ≡ 0 → lfs text ≡ 0
lfs-less c text = elim (c == 10) as (λ b. cond b (suc (lfs text)) (lfs text) ≡ 0 → lfs text ≡ 0) [ true ↦ (λ e. absurd (omega arith)) | false ↦ (λ e. e) ]

never : (escaped : Bool) (c : ℕ) → ends OfComment escaped c ≡ false
never true c = refl
never false c = refl

remark_len : (escaped : Bool) (remark back : List ℕ) → lfs remark ≡ 0 → IsApart remark back → ((e : Bool) → run_len OfComment e back ≡ 0) → run_len OfComment escaped (remark ++ back) ≡ length remark
remark_len escaped [] back none apart stops = stops escaped
remark_len escaped (c ∷ remark) back none apart stops =
    let line = ap (λ (n : ℕ). nat_lt 0 n) (line_end-front c remark back apart) ∙ no_line_end c remark none in
    run_len-more OfComment escaped c (remark ++ back) line (never escaped c)
    ∙ ap (λ (n : ℕ). suc n) (remark_len (escapes escaped c) remark back (lfs-less c remark none) (apart_tail c remark back apart) stops)

items-remark : (remark back : List ℕ) → lfs remark ≡ 0 → IsApart remark back → ((e : Bool) → run_len OfComment e back ≡ 0) → items 0 ((59 ∷ remark) ++ back) ≡ (Comment, 59 ∷ remark) ∷ items 0 back
items-remark remark back none apart stops =
    items_front (59 ∷ remark) back Comment (ap (λ (n : ℕ). Some (Comment, suc n)) (remark_len false remark back none apart stops)) (omega arith)

-- entries of items that no comment changes
remark_alike : (n : ℕ) (inside : Bool) (octets : List ℕ) (xs : List Item) → begins_blank xs ≡ false → AreAlike id id n inside xs ((Comment, octets) ∷ xs)
remark_alike n inside octets xs none = record { same = λ line h. refl; blank = λ _. sym none; closing = refl; nesting = refl; entries = λ start words h. refl }

seam-same : (text xs ys : List ℕ) → items 0 (text ++ xs) ≡ items 0 text ++ items 0 xs → items 0 (text ++ ys) ≡ items 0 text ++ items 0 ys → AreAlike id id (1 + ends_of (items 0 text)) (inside_of false (items 0 text)) (items 0 xs) (items 0 ys) → entries_of (text ++ ys) ≡ entries_of (text ++ xs)
seam-same text xs ys first second alike =
    let is = items 0 text in
    ap (entries_left 1) second
    ∙ sym (same_lines (entries_left 1 (is ++ items 0 ys)))
    ∙ entries-seam id id (1 + ends_of is) (inside_of false is) (items 0 xs) (items 0 ys) alike is refl refl
    ∙ same_lines (entries_left 1 (is ++ items 0 xs))
    ∙ ap (entries_left 1) (sym first)

-- a text that ends outside, and an LF
record IsOutside (text : List ℕ) : Type 0 where
  place : is_outside (place_of text) ≡ true
  no_cr : ends_in 13 text ≡ false

IsOutside-from : (text : List ℕ) → ends_outside text ≡ true → IsOutside text
IsOutside-from text e = let parts = both (is_outside (place_of text)) (not (ends_in 13 text)) e in record { place = parts.0; no_cr = negated (ends_in 13 text) parts.1 }

apart_by : (text back : List ℕ) → ends_in 13 text ≡ false → IsApart text back
apart_by text back no_cr = rw no_cr refl

remark_seam : (text remark back : List ℕ) → IsOutside text → is_remark remark ≡ true → IsApart remark back → ((e : Bool) → run_len OfComment e back ≡ 0) → run_len OfWord false back ≡ 0 → begins_blank (items 0 back) ≡ false → entries_of (text ++ ((59 ∷ remark) ++ back)) ≡ entries_of (text ++ back)
remark_seam text remark back out is apart stops ends none =
    let parts = both (lfs remark == 0) (not (ends_in 13 remark)) is in
    let lines : lfs remark ≡ 0 = (Decides-eqb (lfs remark) 0).0 parts.0 in
    let item = items-remark remark back lines apart stops in
    seam-same text back ((59 ∷ remark) ++ back)
    (items-outside text back out.place (apart_by text back out.no_cr) ends)
    (items-outside text ((59 ∷ remark) ++ back) out.place (apart_by text ((59 ∷ remark) ++ back) out.no_cr) refl)
    (subst (λ (is : List Item). AreAlike id id (1 + ends_of (items 0 text)) (inside_of false (items 0 text)) (items 0 back) is) (sym item)
    (remark_alike (1 + ends_of (items 0 text)) (inside_of false (items 0 text)) (59 ∷ remark) (items 0 back) none))

remark_apart : (remark back : List ℕ) → is_remark remark ≡ true → IsApart remark back
remark_apart remark back is = apart_by remark back (negated (ends_in 13 remark) (both (lfs remark == 0) (not (ends_in 13 remark)) is).1)

-- a comment in front of an LF
pub remark-entries : (text remark back : List ℕ) → ends_outside text ≡ true → is_remark remark ≡ true → entries_of (text ++ 59 ∷ remark ++ 10 ∷ back) ≡ entries_of (text ++ 10 ∷ back)
remark-entries text remark back out is =
    ap entries_of (append_assoc text (59 ∷ remark) (10 ∷ back))
    ∙ remark_seam text remark (10 ∷ back) (IsOutside-from text out) is (remark_apart remark (10 ∷ back) is) (λ e. refl) refl refl

-- and at the text's end
pub remark_last-entries : (text remark : List ℕ) → ends_outside text ≡ true → is_remark remark ≡ true → entries_of (text ++ 59 ∷ remark) ≡ entries_of text
remark_last-entries text remark out is =
    ap (λ (os : List ℕ). entries_of (text ++ os)) (sym (append-nil (59 ∷ remark)))
    ∙ remark_seam text remark [] (IsOutside-from text out) is (remark_apart remark [] is) (λ e. refl) refl refl
    ∙ ap entries_of (append-nil text)

-- an LF, with a CR in front of it or not
lf_stops : (back : List ℕ) → Stops (10 ∷ back)
lf_stops back = record { runs = λ run escaped. refl; quote = refl }

cr_lf_stops : (back : List ℕ) → Stops (13 ∷ 10 ∷ back)
cr_lf_stops back = record { runs = λ run escaped. refl; quote = refl }

items-lf : (text back : List ℕ) → ends_in 13 text ≡ false → items 0 (text ++ 10 ∷ back) ≡ items 0 text ++ (LineEnd, 10 ∷ []) ∷ items 0 back
items-lf text back no_cr = items-stopped text (10 ∷ back) (lf_stops back) (apart_by text (10 ∷ back) no_cr)

items-cr_lf : (text back : List ℕ) → items 0 (text ++ 13 ∷ 10 ∷ back) ≡ items 0 text ++ (LineEnd, 13 ∷ 10 ∷ []) ∷ items 0 back
items-cr_lf text back = items-stopped text (13 ∷ 10 ∷ back) (cr_lf_stops back) (and_none (ends_in 13 text))

pub cr_lf-entries : (text back : List ℕ) → ends_in 13 text ≡ false → entries_of (text ++ 13 ∷ 10 ∷ back) ≡ entries_of (text ++ 10 ∷ back)
cr_lf-entries text back no_cr =
    seam-same text (10 ∷ back) (13 ∷ 10 ∷ back) (items-lf text back no_cr) (items-cr_lf text back)
    (record { same = λ line h. refl; blank = λ _. refl; closing = refl; nesting = refl; entries = λ start words h. elim_inside start words })
  where
    elim_inside : (start : Start) (words : List Written) → map (on_lines id) (entries_from start words (inside_of false (items 0 text)) (1 + ends_of (items 0 text)) ((LineEnd, 13 ∷ 10 ∷ []) ∷ items 0 back)) ≡ map (on_lines id) (entries_from start words (inside_of false (items 0 text)) (1 + ends_of (items 0 text)) ((LineEnd, 10 ∷ []) ∷ items 0 back))
    elim_inside start words = by (inside_of false (items 0 text))
      where
        by : (inside : Bool) → map (on_lines id) (entries_from start words inside (1 + ends_of (items 0 text)) ((LineEnd, 13 ∷ 10 ∷ []) ∷ items 0 back)) ≡ map (on_lines id) (entries_from start words inside (1 + ends_of (items 0 text)) ((LineEnd, 10 ∷ []) ∷ items 0 back))
        by true = refl
        by false = refl

-- blanks
abbrev blanks_of : List ℕ → List Item
blanks_of [] = []
blanks_of (c ∷ blanks) = (Blank, c ∷ []) ∷ blanks_of blanks

one_blank : (c : ℕ) (text : List ℕ) → is_blank c ≡ true → items 0 (c ∷ text) ≡ (Blank, c ∷ []) ∷ items 0 text
one_blank c text blank = by (c == 32) refl (c == 9) refl
  where
    by : (a : Bool) → (c == 32) ≡ a → (b : Bool) → (c == 9) ≡ b → items 0 (c ∷ text) ≡ (Blank, c ∷ []) ∷ items 0 text
    by true e b f = let is : c ≡ 32 = (Decides-eqb c 32).0 e in subst (λ (d : ℕ). items 0 (d ∷ text) ≡ (Blank, d ∷ []) ∷ items 0 text) (sym is) refl
    by false e true f = let is : c ≡ 9 = (Decides-eqb c 9).0 f in subst (λ (d : ℕ). items 0 (d ∷ text) ≡ (Blank, d ∷ []) ∷ items 0 text) (sym is) refl
    by false e false f = absurd (true≢false (sym blank ∙ rw (e, f) refl))

items-blanks : (blanks back : List ℕ) → list_all is_blank blanks ≡ true → items 0 (blanks ++ back) ≡ blanks_of blanks ++ items 0 back
items-blanks [] back h = refl
items-blanks (c ∷ blanks) back h =
    let parts = both (is_blank c) (list_all is_blank blanks) h in
    one_blank c (blanks ++ back) parts.0 ∙ ap (λ (is : List Item). (Blank, c ∷ []) ∷ is) (items-blanks blanks back parts.1)

closes-blanks : (blanks : List ℕ) (is : List Item) → closes (blanks_of blanks ++ is) ≡ closes is
closes-blanks [] is = refl
closes-blanks (c ∷ blanks) is = closes-blanks blanks is

nested-blanks : (line : ℕ) (blanks : List ℕ) (is : List Item) → nested line (blanks_of blanks ++ is) ≡ nested line is
nested-blanks line [] is = refl
nested-blanks line (c ∷ blanks) is = nested-blanks line blanks is

entries-blanks : (start : Start) (words : List Written) (inside : Bool) (line : ℕ) (blanks : List ℕ) (is : List Item) → entries_from start words inside line (blanks_of blanks ++ is) ≡ entries_from start words inside line is
entries-blanks start words inside line [] is = refl
entries-blanks start words inside line (c ∷ blanks) is = entries-blanks start words inside line blanks is

-- a line more
lowered-below : (n line : ℕ) → n < line → lowered n line ≡ line + 1
lowered-below n line h = let b : nat_lt n line ≡ true = (Decides-ltb n line).1 h in rw b refl

not_less : (n line : ℕ) → line ≤ n → nat_lt n line ≡ false
not_less n line h = by (nat_lt n line) refl
  where
    by : (b : Bool) → nat_lt n line ≡ b → b ≡ false
    by true e = let less = (Decides-ltb n line).0 e in absurd (omega arith)
    by false e = refl

lowered-above : (n line : ℕ) → line ≤ n → lowered n line ≡ line
lowered-above n line h = let b : nat_lt n line ≡ false = not_less n line h in rw b refl

lowered_follows : (n : ℕ) → AreFollowed (lowered n) id (n + 1) (n + 1 + 1)
lowered_follows n k = let e = lowered-below n (n + 1 + k) (omega arith) in omega (arith, e)

-- a blank line, and the items behind it
abbrev blank_line : List ℕ → List Item → List Item
blank_line blanks is = blanks_of blanks ++ (LineEnd, 10 ∷ []) ∷ is

blank_alike : (n : ℕ) (inside : Bool) (octets blanks : List ℕ) (is : List Item) → AreAlike (lowered n) id n inside ((LineEnd, octets) ∷ is) ((LineEnd, octets) ∷ blank_line blanks is)
blank_alike n inside octets blanks is = record {
  same = λ line h. sym (lowered-above n line h);
  blank = λ _. refl;
  closing = closes-blanks blanks ((LineEnd, 10 ∷ []) ∷ is);
  nesting = ap (option_map id) (nested-blanks (n + 1) blanks ((LineEnd, 10 ∷ []) ∷ is)) ∙ nested-lines (lowered n) id is (n + 1) (n + 1 + 1) (lowered_follows n);
  entries = λ start words h. by inside start words (sym (lowered-above n start.line h));
}
  where
    by : (b : Bool) (start : Start) (words : List Written) → start.line ≡ lowered n start.line → map (on_lines id) (entries_from start words b n ((LineEnd, octets) ∷ blank_line blanks is)) ≡ map (on_lines (lowered n)) (entries_from start words b n ((LineEnd, octets) ∷ is))
    by true start words e =
        ap (map (on_lines id)) (entries-blanks start words true (n + 1) blanks ((LineEnd, 10 ∷ []) ∷ is))
        ∙ entries-lines (lowered n) id is start start words true (n + 1) (n + 1 + 1) (record { line = e; indented = refl }) (lowered_follows n)
    by false start words e =
        let f = lowered n in
        both-lines f id (whole start words) (whole start words) _ _ (whole-lines f id start start words (record { line = e; indented = refl }))
        (ap (map (on_lines id)) (entries-blanks (start_of (n + 1) (blank_line blanks is)) [] false (n + 1) blanks ((LineEnd, 10 ∷ []) ∷ is))
        ∙ entries-lines f id is (start_of (n + 1) is) (start_of (n + 1 + 1) is) [] false (n + 1) (n + 1 + 1) (record { line = let e = lowered-below n (n + 1) (omega arith) in sym e; indented = refl }) (lowered_follows n))

blank_seam : (n : ℕ) (prefix : List Item) (octets blanks : List ℕ) (is : List Item) → 1 + ends_of prefix ≡ n → entries_left 1 (prefix ++ (LineEnd, octets) ∷ blank_line blanks is) ≡ map (on_lines (lowered n)) (entries_left 1 (prefix ++ (LineEnd, octets) ∷ is))
blank_seam n prefix octets blanks is e =
    sym (same_lines (entries_left 1 (prefix ++ (LineEnd, octets) ∷ blank_line blanks is)))
    ∙ entries-seam (lowered n) id n (inside_of false prefix) ((LineEnd, octets) ∷ is) ((LineEnd, octets) ∷ blank_line blanks is) (blank_alike n (inside_of false prefix) octets blanks is) prefix e refl

blank_items : (blanks back : List ℕ) → list_all is_blank blanks ≡ true → items 0 (blanks ++ 10 ∷ back) ≡ blank_line blanks (items 0 back)
blank_items blanks back blank = items-blanks blanks (10 ∷ back) blank

-- a text that ends in a CR
record EndsInCr (text : List ℕ) : Type 0 where
  front : List ℕ
  is : text ≡ front ++ 13 ∷ []

cr_more : (c : ℕ) (text : List ℕ) → EndsInCr text → EndsInCr (c ∷ text)
cr_more c text h = record { front = c ∷ h.front; is = ap (λ (os : List ℕ). c ∷ os) h.is }

EndsInCr-from : (text : List ℕ) → ends_in 13 text ≡ true → EndsInCr text
EndsInCr-from [] e = absurd (true≢false (sym e))
EndsInCr-from (c ∷ []) e = let cr : c ≡ 13 = (Decides-eqb c 13).0 e in record { front = []; is = ap (λ (o : ℕ). o ∷ []) cr }
EndsInCr-from (c ∷ d ∷ text) e = cr_more c (d ∷ text) (EndsInCr-from (d ∷ text) e)

blank_lf : (text blanks back : List ℕ) → ends_in 13 text ≡ false → list_all is_blank blanks ≡ true → entries_of (text ++ (10 ∷ (blanks ++ 10 ∷ back))) ≡ map (on_lines (lowered (lfs text + 1))) (entries_of (text ++ 10 ∷ back))
blank_lf text blanks back no_cr blank =
    let n = lfs text + 1 in
    let count = ends_of-items text in
    let lines : 1 + ends_of (items 0 text) ≡ n = omega arith in
    ap (entries_left 1) (items-lf text (blanks ++ 10 ∷ back) no_cr ∙ ap (λ (is : List Item). items 0 text ++ (LineEnd, 10 ∷ []) ∷ is) (blank_items blanks back blank))
    ∙ blank_seam n (items 0 text) (10 ∷ []) blanks (items 0 back) lines
    ∙ ap (λ (is : List Item). map (on_lines (lowered n)) (entries_left 1 is)) (sym (items-lf text back no_cr))

blank_cr_lf : (text blanks back : List ℕ) → list_all is_blank blanks ≡ true → entries_of (text ++ (13 ∷ 10 ∷ (blanks ++ 10 ∷ back))) ≡ map (on_lines (lowered (lfs text + 1))) (entries_of (text ++ 13 ∷ 10 ∷ back))
blank_cr_lf text blanks back blank =
    let n = lfs text + 1 in
    let count = ends_of-items text in
    let lines : 1 + ends_of (items 0 text) ≡ n = omega arith in
    ap (entries_left 1) (items-cr_lf text (blanks ++ 10 ∷ back) ∙ ap (λ (is : List Item). items 0 text ++ (LineEnd, 13 ∷ 10 ∷ []) ∷ is) (blank_items blanks back blank))
    ∙ blank_seam n (items 0 text) (13 ∷ 10 ∷ []) blanks (items 0 back) lines
    ∙ ap (λ (is : List Item). map (on_lines (lowered n)) (entries_left 1 is)) (sym (items-cr_lf text back))

-- a blank line behind a line
pub blank-entries : (text blanks back : List ℕ) → list_all is_blank blanks ≡ true → entries_of (text ++ 10 ∷ blanks ++ 10 ∷ back) ≡ map (on_lines (lowered (lfs text + 1))) (entries_of (text ++ 10 ∷ back))
blank-entries text blanks back blank = ap entries_of (append_assoc text (10 ∷ blanks) (10 ∷ back)) ∙ by (ends_in 13 text) refl
  where
    by : (b : Bool) → ends_in 13 text ≡ b → entries_of (text ++ (10 ∷ (blanks ++ 10 ∷ back))) ≡ map (on_lines (lowered (lfs text + 1))) (entries_of (text ++ 10 ∷ back))
    by false e = blank_lf text blanks back e blank
    by true e =
        let cr = EndsInCr-from text e in
        let front = cr.front in
        let lines : lfs front + 1 ≡ lfs text + 1 = let a = ap lfs cr.is in let b = lfs-append front (13 ∷ []) in let d : lfs (13 ∷ []) ≡ 0 = refl in omega (arith, a, b, d) in
        ap (λ (os : List ℕ). entries_of (os ++ (10 ∷ (blanks ++ 10 ∷ back)))) cr.is
        ∙ ap entries_of (append_assoc front (13 ∷ []) (10 ∷ (blanks ++ 10 ∷ back)))
        ∙ blank_cr_lf front blanks back blank
        ∙ ap (λ (n : ℕ). map (on_lines (lowered n)) (entries_of (front ++ 13 ∷ 10 ∷ back))) lines
        ∙ ap (λ (os : List ℕ). map (on_lines (lowered (lfs text + 1))) (entries_of os)) (sym (append_assoc front (13 ∷ []) (10 ∷ back)) ∙ ap (λ (os : List ℕ). os ++ 10 ∷ back) (sym cr.is))

-- and one in front of the text
pub blank_first-entries : (blanks back : List ℕ) → list_all is_blank blanks ≡ true → entries_of (blanks ++ 10 ∷ back) ≡ map (on_lines (lowered 0)) (entries_of back)
blank_first-entries blanks back blank =
    let is = items 0 back in
    ap (entries_left 1) (blank_items blanks back blank)
    ∙ entries-blanks (start_of 1 (blank_line blanks is)) [] false 1 blanks ((LineEnd, 10 ∷ []) ∷ is)
    ∙ sym (same_lines (entries_left 2 is))
    ∙ entries-lines (lowered 0) id is (start_of 1 is) (start_of 2 is) [] false 1 2 (record { line = refl; indented = refl }) (λ k. let e = lowered-below 0 (1 + k) (omega arith) in omega (arith, e))

-- a line's end between parentheses
abbrev zero_line : ℕ → ℕ
zero_line line = 0

joined_alike : (n : ℕ) (octets others : List ℕ) (is : List Item) → AreAlike zero_line zero_line n true ((Blank, octets) ∷ is) ((LineEnd, others) ∷ is)
joined_alike n octets others is = record {
  same = λ line h. refl;
  blank = λ e. absurd (true≢false e);
  closing = refl;
  nesting = nested-lines zero_line zero_line is n (n + 1) (λ k. refl);
  entries = λ start words h. entries-lines zero_line zero_line is start start words true n (n + 1) (record { line = refl; indented = refl }) (λ k. refl);
}

pub joined-entries : (text back : List ℕ) → ends_outside text ≡ true → (place_of text).inside ≡ true → map without_lines (entries_of (text ++ 10 ∷ back)) ≡ map without_lines (entries_of (text ++ 32 ∷ back))
joined-entries text back outside inside =
    let out = IsOutside-from text outside in
    let is = items 0 text in
    let within = inside-items 0 false text out.place ∙ inside in
    ap (λ (js : List Item). map without_lines (entries_left 1 js)) (items-outside text (10 ∷ back) out.place (apart_by text (10 ∷ back) out.no_cr) refl)
    ∙ entries-seam zero_line zero_line (1 + ends_of is) true ((Blank, 32 ∷ []) ∷ items 0 back) ((LineEnd, 10 ∷ []) ∷ items 0 back) (joined_alike (1 + ends_of is) (32 ∷ []) (10 ∷ []) (items 0 back)) is refl within
    ∙ ap (λ (js : List Item). map without_lines (entries_left 1 js)) (sym (items-outside text (32 ∷ back) out.place (apart_by text (32 ∷ back) out.no_cr) refl))
