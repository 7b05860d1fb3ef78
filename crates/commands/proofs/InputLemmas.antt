-- Lemmas on a zone's text in front of a command's input.
use Rattle.std.proofs.Common.{◌≡◌, ℕ, suc, ◌+◌, ◌<◌, Bool, true, false, cond, eqb, List, [], ◌∷◌, ◌++◌, length, take, drop, Option, Some, IfSome, refl, sym, ap, ◌∙◌, arith, append_assoc, append-nil, ◌-◌, length-append}
use Rattle.std.specs.List.{concat, before_first, after_first, position_or_len}
use Rattle.std.specs.Io.BufRead.{take_through, drop_through}
use Rattle.std.proofs.lemmas.List.{take_all}
use Rattle.std.proofs.Math.Seq.{take-append_seam, drop-append_seam}
use Rattle.commands.specs.Lines.{onto_first}
use Rattle.commands.proofs.LinesLemmas.{take_through-some}
use Rattle.commands.specs.Input.{is_separator, whole_lines, zone_text_of, behind_zone_text}

-- the first line of an input, with its end, is what a reader takes up to a line end
pub whole_lines-first : (c : ℕ) (cs : List ℕ) → whole_lines (c ∷ cs) ≡ take_through 10 (c ∷ cs) ∷ whole_lines (drop_through 10 (c ∷ cs))
whole_lines-first c [] = at_test (eqb c 10)
  where
    at_test : (b : Bool) → cond b ((c ∷ []) ∷ []) ((c ∷ []) ∷ []) ≡ cond b (c ∷ []) (c ∷ []) ∷ whole_lines (cond b [] [])
    at_test true = refl
    at_test false = refl
whole_lines-first c (d ∷ ds) = at_test (eqb c 10) (whole_lines-first d ds)
  where
    at_test : (b : Bool) → whole_lines (d ∷ ds) ≡ take_through 10 (d ∷ ds) ∷ whole_lines (drop_through 10 (d ∷ ds))
        → cond b ((c ∷ []) ∷ whole_lines (d ∷ ds)) (onto_first c (whole_lines (d ∷ ds))) ≡ cond b (c ∷ []) (c ∷ take_through 10 (d ∷ ds)) ∷ whole_lines (cond b (d ∷ ds) (drop_through 10 (d ∷ ds)))
    at_test true first = refl
    at_test false first = ap (onto_first c) first

-- the lines of an input together are the input
pub whole_lines-concat : (xs : List ℕ) → concat (whole_lines xs) ≡ xs
whole_lines-concat [] = refl
whole_lines-concat (c ∷ cs) = at_test (eqb c 10) ∙ ap (λ xs. c ∷ xs) (whole_lines-concat cs)
  where
    onto : (lines : List (List ℕ)) → concat (onto_first c lines) ≡ c ∷ concat lines
    onto [] = refl
    onto (line ∷ lines) = refl

    at_test : (b : Bool) → concat (cond b ((c ∷ []) ∷ whole_lines cs) (onto_first c (whole_lines cs))) ≡ c ∷ concat (whole_lines cs)
    at_test true = refl
    at_test false = onto (whole_lines cs)

-- in front of a separator nothing stands, and behind it all the other lines
first-separator : (p : List ℕ → Bool) (line : List ℕ) (lines : List (List ℕ)) → p line ≡ true → (before_first p (line ∷ lines) ≡ []) × (after_first p (line ∷ lines) ≡ lines)
first-separator p line lines is = rw is (refl, refl)

-- a line that is no separator stands in front of the first one
first-line : (p : List ℕ → Bool) (line : List ℕ) (lines : List (List ℕ)) → p line ≡ false → (before_first p (line ∷ lines) ≡ line ∷ before_first p lines) × (after_first p (line ∷ lines) ≡ after_first p lines)
first-line p line lines is = rw is (at_front (position_or_len p lines), behind (position_or_len p lines))
  where
    at_front : (n : ℕ) → take (1 + n) (line ∷ lines) ≡ line ∷ take n lines
    at_front n = let e : 1 + n ≡ suc n = omega arith in rw e refl

    behind : (n : ℕ) → drop ((1 + n) + 1) (line ∷ lines) ≡ drop (n + 1) lines
    behind n = let e : (1 + n) + 1 ≡ suc (n + 1) = omega arith in rw e refl

-- a zone's text, and what stands behind it, where the first line is a separator
pub at-separator : (c : ℕ) (cs : List ℕ) → is_separator (take_through 10 (c ∷ cs)) ≡ true → (zone_text_of (c ∷ cs) ≡ []) × (behind_zone_text (c ∷ cs) ≡ drop_through 10 (c ∷ cs))
unfolding zone_text_of behind_zone_text
at-separator c cs is =
    let first = whole_lines-first c cs in
    let parts = first-separator is_separator (take_through 10 (c ∷ cs)) (whole_lines (drop_through 10 (c ∷ cs))) is in (
      ap (λ lines. concat (before_first is_separator lines)) first ∙ ap concat parts.0,
      ap (λ lines. concat (after_first is_separator lines)) first ∙ ap concat parts.1 ∙ whole_lines-concat (drop_through 10 (c ∷ cs)),
    )

-- the same where the first line is no separator
pub at-line : (c : ℕ) (cs : List ℕ) → is_separator (take_through 10 (c ∷ cs)) ≡ false
    → (zone_text_of (c ∷ cs) ≡ take_through 10 (c ∷ cs) ++ zone_text_of (drop_through 10 (c ∷ cs))) × (behind_zone_text (c ∷ cs) ≡ behind_zone_text (drop_through 10 (c ∷ cs)))
unfolding zone_text_of behind_zone_text
at-line c cs is =
    let first = whole_lines-first c cs in
    let parts = first-line is_separator (take_through 10 (c ∷ cs)) (whole_lines (drop_through 10 (c ∷ cs))) is in (
      ap (λ lines. concat (before_first is_separator lines)) first ∙ ap concat parts.0,
      ap (λ lines. concat (after_first is_separator lines)) first ∙ ap concat parts.1,
    )

-- the text so far, of an input of which the rest is left: the rest's text completes the whole
pub record IsOnTheWayToZone (input : List ℕ) (left : Option (List ℕ)) (text : List ℕ) : Type 0 where
  pub rest : List ℕ
  pub is_left : left ≡ Some rest
  pub whole : text ++ zone_text_of rest ≡ zone_text_of input
  pub behind : behind_zone_text rest ≡ behind_zone_text input

-- nothing is read yet
pub IsOnTheWayToZone-start : (input : List ℕ) (left : Option (List ℕ)) (text : List ℕ) → left ≡ Some input → text ≡ [] → IsOnTheWayToZone input left text
IsOnTheWayToZone-start input left text is none = record {
  rest = input;
  is_left = is;
  whole = ap (λ xs. xs ++ zone_text_of input) none;
  behind = refl;
}

-- what a read up to a line end does, where the reader tells its octets
pub record ReadsLine (left after : Option (List ℕ)) (text longer : List ℕ) : Type 0 where
  pub more : IfSome left (λ rest. longer ≡ text ++ take_through 10 rest)
  pub taken : IfSome left (λ rest. after ≡ Some (drop_through 10 rest))

-- the line that was read, behind the text
line_read : (text line : List ℕ) → take (length (text ++ line) - length text) (drop (length text) (text ++ line)) ≡ line
line_read text line =
    let e : length (text ++ line) - length text ≡ length line = omega (arith, length-append text line) in
    rw (drop-append_seam text line, e) (take_all (length line) line (omega arith))

-- what a zone's text and what is behind it come to, once the whole text is read
pub record IsRead (input : List ℕ) (after : Option (List ℕ)) (text : List ℕ) : Type 0 where
  pub text_is : text ≡ zone_text_of input
  pub rest_is : after ≡ Some (behind_zone_text input)

-- where a read gives nothing, the text is whole
IsRead-at_end : (rest input text longer : List ℕ) (after : Option (List ℕ)) → text ++ zone_text_of rest ≡ zone_text_of input → behind_zone_text rest ≡ behind_zone_text input
    → longer ≡ text ++ take_through 10 rest → after ≡ Some (drop_through 10 rest) → length longer ≡ length text → IsRead input after longer
unfolding zone_text_of behind_zone_text
IsRead-at_end [] input text longer after whole behind more taken same = record { text_is = more ∙ whole; rest_is = taken ∙ ap Some behind }
IsRead-at_end (c ∷ cs) input text longer after whole behind more taken same =
    let some = take_through-some c cs in
    let e : length longer ≡ length (text ++ (some.0 ∷ some.1)) = ap length more ∙ ap (λ xs. length (text ++ xs)) some.2 in
    absurd (omega (arith, e, same, length-append text (some.0 ∷ some.1)))

pub IsRead-end : (input : List ℕ) (left after : Option (List ℕ)) (text longer : List ℕ) → IsOnTheWayToZone input left text → ReadsLine left after text longer
    → length longer ≡ length text → IsRead input after longer
IsRead-end input left after text longer way reads same =
    let is : ReadsLine (Some way.rest) after text longer = rw way.is_left at reads in
    IsRead-at_end way.rest input text longer after way.whole way.behind is.more is.taken same

-- where the line that was read is a separator, the text is whole without it
IsRead-at_separator : (rest input text longer : List ℕ) (after : Option (List ℕ)) → text ++ zone_text_of rest ≡ zone_text_of input → behind_zone_text rest ≡ behind_zone_text input
    → longer ≡ text ++ take_through 10 rest → after ≡ Some (drop_through 10 rest) → length text < length longer
    → is_separator (take (length longer - length text) (drop (length text) longer)) ≡ true → IsRead input after (take (length text) longer)
IsRead-at_separator [] input text longer after whole behind more taken grown is =
    let e : length longer ≡ length (text ++ []) = ap length more in
    absurd (omega (arith, e, grown, length-append text []))
IsRead-at_separator (c ∷ cs) input text longer after whole behind more taken grown is =
    let line : List ℕ = take_through 10 (c ∷ cs) in
    let here = at-separator c cs (ap is_separator (sym (line_read text line)) ∙ ap (λ xs. is_separator (take (length xs - length text) (drop (length text) xs))) (sym more) ∙ is) in
    record {
      text_is = ap (take (length text)) more ∙ take-append_seam text line ∙ sym (append-nil text) ∙ ap (λ xs. text ++ xs) (sym here.0) ∙ whole;
      rest_is = taken ∙ ap Some (sym here.1 ∙ behind);
    }

pub IsRead-separator : (input : List ℕ) (left after : Option (List ℕ)) (text longer : List ℕ) → IsOnTheWayToZone input left text → ReadsLine left after text longer
    → length text < length longer → is_separator (take (length longer - length text) (drop (length text) longer)) ≡ true → IsRead input after (take (length text) longer)
IsRead-separator input left after text longer way reads grown is =
    let line : ReadsLine (Some way.rest) after text longer = rw way.is_left at reads in
    IsRead-at_separator way.rest input text longer after way.whole way.behind line.more line.taken grown is

-- where it is no separator, the text is longer by it
IsOnTheWayToZone-at_line : (rest input text longer : List ℕ) (after : Option (List ℕ)) → text ++ zone_text_of rest ≡ zone_text_of input → behind_zone_text rest ≡ behind_zone_text input
    → longer ≡ text ++ take_through 10 rest → after ≡ Some (drop_through 10 rest) → length text < length longer
    → is_separator (take (length longer - length text) (drop (length text) longer)) ≡ false → IsOnTheWayToZone input after longer
IsOnTheWayToZone-at_line [] input text longer after whole behind more taken grown is =
    let e : length longer ≡ length (text ++ []) = ap length more in
    absurd (omega (arith, e, grown, length-append text []))
IsOnTheWayToZone-at_line (c ∷ cs) input text longer after whole behind more taken grown is =
    let line : List ℕ = take_through 10 (c ∷ cs) in
    let here = at-line c cs (ap is_separator (sym (line_read text line)) ∙ ap (λ xs. is_separator (take (length xs - length text) (drop (length text) xs))) (sym more) ∙ is) in
    record {
      rest = drop_through 10 (c ∷ cs);
      is_left = taken;
      whole = ap (λ xs. xs ++ zone_text_of (drop_through 10 (c ∷ cs))) more ∙ append_assoc text line _ ∙ ap (λ xs. text ++ xs) (sym here.0) ∙ whole;
      behind = sym here.1 ∙ behind;
    }

pub IsOnTheWayToZone-line : (input : List ℕ) (left after : Option (List ℕ)) (text longer : List ℕ) → IsOnTheWayToZone input left text → ReadsLine left after text longer
    → length text < length longer → is_separator (take (length longer - length text) (drop (length text) longer)) ≡ false → IsOnTheWayToZone input after longer
IsOnTheWayToZone-line input left after text longer way reads grown is =
    let line : ReadsLine (Some way.rest) after text longer = rw way.is_left at reads in
    IsOnTheWayToZone-at_line way.rest input text longer after way.whole way.behind line.more line.taken grown is

-- the test of the line that was read
pub separator_test : (text longer shown : List ℕ) (start : ℕ) (is expected : Bool) → start ≡ length text → shown ≡ longer
    → is ≡ is_separator (take (length shown - start) (drop start shown)) → is ≡ expected → is_separator (take (length longer - length text) (drop (length text) longer)) ≡ expected
separator_test text longer shown start is expected at all test as_expected = sym (rw (at, all) at test) ∙ as_expected
