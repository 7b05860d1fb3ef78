-- A line of words is read again as these words.
use Rattle.std.proofs.Common.{◌≡◌, ℕ, suc, ◌+◌, ◌-◌, ◌<◌, Bool, true, false, not, ◌||◌, ◌&&◌, ◌==◌, List, [], ◌∷◌, ◌++◌, length, take, drop, nat_lt, Some, refl, sym, ap, ◌∙◌, arith}
use Rattle.std.specs.List.{list_all}
use Rattle.std.proofs.lemmas.List.{append-nil, append_assoc, length-append}
use Rattle.std.proofs.Math.Seq.{take-append_seam, drop-append_seam}
use Rattle.zone_lexing.specs.Items.{items, item_at, token_at, line_end, is_blank, ends, escapes, run_len, begins_with, string_at}
use Rattle.zone_lexing.specs.Word.{Written}
use Rattle.zone_lexing.specs.Word.Written.{Plain, Quoted, Unclosed as no_word}
use Rattle.zone_lexing.specs.Entries.{Start, Entry, begins_blank, between_quotes, whole, entries_from, entries_left}
use Rattle.zone_lexing.specs.Spelling.{is_run, is_spelt, spell_word, spell_more, spell_line, spell, one_a_line, are_spelt}
use Rattle.zone_lexing.specs.declared.item.Run.{Run}
use Rattle.zone_lexing.specs.declared.item.Run.TheVariants.{OfWord, OfString}
use Rattle.zone_lexing.specs.declared.item.Token.{Token}
use Rattle.zone_lexing.specs.declared.item.Token.TheVariants.{Bare, InQuotes}
use Rattle.zone_lexing.proofs.ItemLemmas.{items_step}

-- what a test of several parts says of them
pub both : (a b : Bool) → a && b ≡ true → (a ≡ true) × (b ≡ true)
both true b e = (refl, e)
both false b e = cc

pub neither : (a b : Bool) → a || b ≡ false → (a ≡ false) × (b ≡ false)
neither true b e = cc
neither false b e = (refl, e)

pub negated : (a : Bool) → not a ≡ true → a ≡ false
negated true e = cc
negated false e = refl

-- an octet inside a run
record IsInside (run : Run) (escaped : Bool) (c : ℕ) (octets : List ℕ) : Type 0 where
  no_lf : (c == 10) ≡ false
  no_cr : (c == 13) ≡ false
  no_end : ends run escaped c ≡ false
  more : is_run run (escapes escaped c) octets ≡ true

IsInside-from : (run : Run) (escaped : Bool) (c : ℕ) (octets : List ℕ) → is_run run escaped (c ∷ octets) ≡ true → IsInside run escaped c octets
IsInside-from run escaped c octets e =
    let line = both (not (c == 10 || c == 13)) _ e in
    let other = both (not (ends run escaped c)) _ line.1 in
    let neither = neither (c == 10) (c == 13) (negated (c == 10 || c == 13) line.0) in
    record { no_lf = neither.0; no_cr = neither.1; no_end = negated (ends run escaped c) other.0; more = other.1 }

-- no line ends at such an octet
no_line_end : (c : ℕ) (text : List ℕ) → (c == 10) ≡ false → (c == 13) ≡ false → nat_lt 0 (line_end (c ∷ text)) ≡ false
no_line_end c text no_lf no_cr = rw (no_lf, no_cr) refl

pub run_len-more : (run : Run) (escaped : Bool) (c : ℕ) (text : List ℕ) → nat_lt 0 (line_end (c ∷ text)) ≡ false → ends run escaped c ≡ false → run_len run escaped (c ∷ text) ≡ suc (run_len run (escapes escaped c) text)
run_len-more run escaped c text line other = rw (line, other) refl

-- a run ends where the octets behind it begin with its end
run_len-whole : (run : Run) (escaped : Bool) (octets back : List ℕ) → is_run run escaped octets ≡ true → run_len run false back ≡ 0 → run_len run escaped (octets ++ back) ≡ length octets
run_len-whole run true [] back e stops = cc
run_len-whole run false [] back e stops = stops
run_len-whole run escaped (c ∷ octets) back e stops =
    let is = IsInside-from run escaped c octets e in
    run_len-more run escaped c (octets ++ back) (no_line_end c (octets ++ back) is.no_lf is.no_cr) is.no_end
    ∙ ap (λ (n : ℕ). suc n) (run_len-whole run (escapes escaped c) octets back is.more stops)

-- an item in front of others
pub items_front : (front back : List ℕ) (token : Token) → item_at (front ++ back) ≡ Some (token, length front) → 0 < length front → items 0 (front ++ back) ≡ (token, front) ∷ items 0 back
items_front front back token e some =
    let step = items_step (front ++ back) token (length front) e some in
    let head = take-append_seam front back in
    let tail = drop-append_seam front back in
    cc

token_at-bare : (c : ℕ) (text : List ℕ) → nat_lt 0 (line_end (c ∷ text)) ≡ false → is_blank c ≡ false → (c == 40) ≡ false → (c == 41) ≡ false → (c == 59) ≡ false → (c == 34) ≡ false → token_at c text ≡ (Bare, run_len OfWord false (c ∷ text))
token_at-bare c text line blank opens closes remark quote = rw (line, blank, opens, closes, remark, quote) refl

-- a word outside quotes
items_bare : (octets back : List ℕ) → is_spelt (Plain octets) ≡ true → run_len OfWord false back ≡ 0 → items 0 (octets ++ back) ≡ (Bare, octets) ∷ items 0 back
items_bare [] back e stops = cc
items_bare (c ∷ octets) back e stops =
    let run = (both (nat_lt 0 (length (c ∷ octets))) _ e).1 in
    let is = IsInside-from OfWord false c octets run in
    let a = neither (is_blank c || c == 34 || c == 59 || c == 40) (c == 41) is.no_end in
    let b = neither (is_blank c || c == 34 || c == 59) (c == 40) a.0 in
    let d = neither (is_blank c || c == 34) (c == 59) b.0 in
    let q = neither (is_blank c) (c == 34) d.0 in
    let line = no_line_end c (octets ++ back) is.no_lf is.no_cr in
    let token = token_at-bare c (octets ++ back) line q.0 b.1 a.1 d.1 q.1 in
    let len = run_len-whole OfWord false (c ∷ octets) back run stops in
    items_front (c ∷ octets) back Bare (ap Some (token ∙ ap (λ (n : ℕ). (Bare, n)) len)) (omega arith)

string_at-whole : (text : List ℕ) (n : ℕ) → run_len OfString false text ≡ n → begins_with 34 (drop n text) ≡ true → string_at text ≡ (InQuotes, n + 2)
string_at-whole text n len quote = let at : begins_with 34 (drop (run_len OfString false text) text) ≡ true = rw len quote in rw (at, len) refl

string_in-quotes : (octets back : List ℕ) → is_run OfString false octets ≡ true → string_at (octets ++ 34 ∷ back) ≡ (InQuotes, length octets + 2)
string_in-quotes octets back e =
    string_at-whole (octets ++ 34 ∷ back) (length octets) (run_len-whole OfString false octets (34 ∷ back) e refl) (rw drop-append_seam refl)

-- a word in quotes
items_quoted : (octets back : List ℕ) → is_run OfString false octets ≡ true → items 0 ((34 ∷ octets ++ 34 ∷ []) ++ back) ≡ (InQuotes, 34 ∷ octets ++ 34 ∷ []) ∷ items 0 back
items_quoted octets back e =
    let len = length-append octets (34 ∷ []) in
    let size : length octets + 2 ≡ length (34 ∷ octets ++ 34 ∷ []) = omega arith in
    let found = ap string_at (append_assoc octets (34 ∷ []) back) ∙ string_in-quotes octets back e ∙ ap (λ (n : ℕ). (InQuotes, n)) size in
    items_front (34 ∷ octets ++ 34 ∷ []) back InQuotes (ap Some found) (omega arith)

between_quotes-spelt : (octets : List ℕ) → between_quotes (34 ∷ octets ++ 34 ∷ []) ≡ octets
between_quotes-spelt octets =
    let len = length-append octets (34 ∷ []) in
    let size : length (34 ∷ octets ++ 34 ∷ []) - 2 ≡ length octets = omega arith in
    ap (λ (n : ℕ). take n (octets ++ 34 ∷ [])) size ∙ take-append_seam octets (34 ∷ [])

-- a word, whatever it is
record IsWordItem (word : Written) (back : List ℕ) : Type 0 where
  reads : (start : Start) (words : List Written) (line : ℕ) → entries_from start words false line (items 0 (spell_word word ++ back)) ≡ entries_from start (words ++ word ∷ []) false line (items 0 back)
  no_blank : begins_blank (items 0 (spell_word word ++ back)) ≡ false

IsWordItem-spelt : (word : Written) (back : List ℕ) → is_spelt word ≡ true → run_len OfWord false back ≡ 0 → IsWordItem word back
IsWordItem-spelt (Plain octets) back e stops =
    let front = items_bare octets back e stops in
    record {
      reads = λ start words line. ap (entries_from start words false line) front;
      no_blank = ap begins_blank front;
    }
IsWordItem-spelt (Quoted octets) back e stops =
    let front = items_quoted octets back e in
    record {
      reads = λ start words line.
          ap (entries_from start words false line) front
          ∙ ap (λ (o : List ℕ). entries_from start (words ++ Quoted o ∷ []) false line (items 0 back)) (between_quotes-spelt octets);
      no_blank = ap begins_blank front;
    }
IsWordItem-spelt no_word back e stops = let none : ⊥ = cc in absurd none

-- a word ends in front of the words behind it
stops_at-more : (words : List Written) (back : List ℕ) → run_len OfWord false (spell_more words ++ back) ≡ 0
stops_at-more [] back = refl
stops_at-more (word ∷ words) back = refl

-- the words behind the first, and the line's end
more-read : (words before : List Written) (start : Start) (line : ℕ) (back : List ℕ) → list_all is_spelt words ≡ true → entries_from start before false line (items 0 (spell_more words ++ back)) ≡ whole start (before ++ words) ++ entries_left (line + 1) (items 0 back)
more-read [] before start line back e = ap (λ (ws : List Written). whole start ws ++ entries_left (line + 1) (items 0 back)) (sym (append-nil before))
more-read (word ∷ words) before start line back e =
    let parts = both (is_spelt word) (list_all is_spelt words) e in
    let is = IsWordItem-spelt word (spell_more words ++ back) parts.0 (stops_at-more words back) in
    ap (λ (text : List ℕ). entries_from start before false line (items 0 text)) (append_assoc (spell_word word) (spell_more words) back)
    ∙ is.reads start before line
    ∙ more-read words (before ++ word ∷ []) start line back parts.1
    ∙ ap (λ (ws : List Written). whole start ws ++ entries_left (line + 1) (items 0 back)) (append_assoc before (word ∷ []) words)

-- a line
line-read : (words : List Written) (line : ℕ) (back : List ℕ) → list_all is_spelt words ≡ true → entries_left line (items 0 (spell_line words ++ back)) ≡ whole (record { line = line; indented = false }) words ++ entries_left (line + 1) (items 0 back)
line-read [] line back e = refl
line-read (word ∷ words) line back e =
    let parts = both (is_spelt word) (list_all is_spelt words) e in
    let is = IsWordItem-spelt word (spell_more words ++ back) parts.0 (stops_at-more words back) in
    ap (λ (text : List ℕ). entries_left line (items 0 text)) (append_assoc (spell_word word) (spell_more words) back)
    ∙ ap (λ (b : Bool). entries_from (record { line = line; indented = b }) [] false line (items 0 (spell_word word ++ (spell_more words ++ back)))) is.no_blank
    ∙ is.reads (record { line = line; indented = false }) [] line
    ∙ more-read words (word ∷ []) (record { line = line; indented = false }) line back parts.1

-- a text of lines
pub lines-read : (lines : List (List Written)) (line : ℕ) → are_spelt lines ≡ true → entries_left line (items 0 (spell lines)) ≡ one_a_line line lines
lines-read [] line e = refl
lines-read (words ∷ lines) line e =
    let parts = both (list_all is_spelt words) (are_spelt lines) e in
    line-read words line (spell lines) parts.0
    ∙ ap (λ (es : List Entry). whole (record { line = line; indented = false }) words ++ es) (lines-read lines (line + 1) parts.1)
