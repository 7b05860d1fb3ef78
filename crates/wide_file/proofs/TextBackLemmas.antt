-- The plain text of records is read as these records, each on its line.
use Rattle.std.proofs.Common.{◌≡◌, ℕ, suc, zero, ◌+◌, ◌-◌, ◌<◌, Bool, true, false, cond, ◌&&◌, nat_le, nat_lt, bytes_eq, List, [], ◌∷◌, ◌++◌, Option, Some, None, Result, Ok, Err, refl, sym, ap, ◌∙◌, arith}
use Rattle.std.specs.List.{AllByRecursion, list_all}
use Rattle.std.proofs.lemmas.Bool.{ltb-true}
use Rattle.std.proofs.lemmas.List.{append_assoc, append-nil}
use Rattle.std.proofs.lemmas.List.Elements.{All-from_recursion}
use Rattle.std.proofs.lemmas.Grind.{flat_map-append}
use Rattle.dns_rdata.specs.Record.{Record, IsLawful}
use Rattle.record_text.specs.declared.cause.Cause.{Cause}
use Rattle.zone_lexing.specs.Entries.{Entry}
use Rattle.zone_lexing.specs.Spelling.{are_spelt, is_spelt, one_a_line, spell, spell_line}
use Rattle.zone_lexing.specs.Word.{Written}
use Rattle.zone_lexing.proofs.SpellingLemmas.{both, lines-read}
use Rattle.master_file.specs.Records as plain
use Rattle.master_file.specs.Records.{Read, fault_at}
use Rattle.master_file.specs.WrittenZone.{line_words, record_line, rr_at}
use Rattle.master_file.specs.ZoneText.{record_in}
use Rattle.master_file.specs.declared.context.Context as declared
use Rattle.master_file.specs.declared.record_entry.RecordEntry.{RecordEntry}
use Rattle.master_file.proofs.ZoneBackLemmas.{record_judged}
use Rattle.master_file.proofs.ZoneLawLemmas.{line_is, lines_spelt}
use Rattle.wide_file.specs.Included.{Placed}
use Rattle.wide_file.specs.PlainText.{Spelled, empty_lines, goes_on, laid, laid_one, line_for, line_in, part_from, put, put_all, turned, unwritten}
use Rattle.wide_file.specs.Private.{AreOfZone, IsEntryOfZone}
use Rattle.wide_file.specs.WideZone.{IsOfZone, laid_read}
use Rattle.wide_file.specs.declared.record_entry.WideEntry.{WideEntry}
use Rattle.wide_file.specs.declared.record_entry.WideEntry.TheVariants as entry

-- lines without words
abbrev empties : ℕ → List (List Written)
empties zero = []
empties (suc n) = [] ∷ empties n

-- the words of the lines of records, each on its line, where the text has so many lines before
abbrev pub text_lines : ℕ → List RecordEntry → List (List Written)
text_lines line [] = []
text_lines line (rr ∷ rrs) = empties (rr.line - line - 1) ++ line_words (record_in rr) ∷ text_lines rr.line rrs

-- the text of records, each on its line, after so many lines
abbrev pub lines_text : ℕ → List RecordEntry → List ℕ
lines_text line [] = []
lines_text line (rr ∷ rrs) = (empty_lines (rr.line - line - 1) ++ record_line (record_in rr)) ++ lines_text rr.line rrs

-- the text is its words with a space between
spell_empties : (n : ℕ) → spell (empties n) ≡ empty_lines n
spell_empties zero = refl
spell_empties (suc n) = ap (λ (t : List ℕ). 10 ∷ t) (spell_empties n)

pub text_is : (line : ℕ) (rrs : List RecordEntry) → lines_text line rrs ≡ spell (text_lines line rrs)
text_is line [] = refl
text_is line (rr ∷ rrs) =
    let n = rr.line - line - 1 in
    let r = record_in rr in
    append_assoc (empty_lines n) (record_line r) (lines_text rr.line rrs)
    ∙ ap (λ (t : List ℕ). empty_lines n ++ (record_line r ++ t)) (text_is rr.line rrs)
    ∙ ap (λ (t : List ℕ). empty_lines n ++ (t ++ spell (text_lines rr.line rrs))) (line_is r)
    ∙ ap (λ (t : List ℕ). t ++ (spell_line (line_words r) ++ spell (text_lines rr.line rrs))) (sym (spell_empties n))
    ∙ sym (flat_map-append spell_line (empties n) (line_words r ∷ text_lines rr.line rrs))

-- each word is spelt by its octets
spelt_after : (n : ℕ) (lines : List (List Written)) → are_spelt lines ≡ true → are_spelt (empties n ++ lines) ≡ true
spelt_after zero lines e = e
spelt_after (suc n) lines e = spelt_after n lines e

one_spelt : (r : Record) → IsLawful r → list_all is_spelt (line_words r) ≡ true
one_spelt r h = (both (list_all is_spelt (line_words r)) true (lines_spelt (r ∷ []) (All-from_recursion IsLawful (r ∷ []) (h, tt)))).0

more_spelt : (words : List Written) (lines : List (List Written)) → list_all is_spelt words ≡ true → are_spelt lines ≡ true → are_spelt (words ∷ lines) ≡ true
more_spelt words lines e h = rw (e, h) refl

pub all_spelt : (line : ℕ) (rrs : List RecordEntry) → AllByRecursion IsOfZone rrs → are_spelt (text_lines line rrs) ≡ true
all_spelt line [] h = refl
all_spelt line (rr ∷ rrs) h =
    spelt_after (rr.line - line - 1) (line_words (record_in rr) ∷ text_lines rr.line rrs)
    (more_spelt (line_words (record_in rr)) (text_lines rr.line rrs) (one_spelt (record_in rr) h.0.lawful) (all_spelt rr.line rrs h.1))

-- records that stand below each other
abbrev pub AreBelow : ℕ → List RecordEntry → Type 0
AreBelow line [] = Unit {0}
AreBelow line (rr ∷ rrs) = (line < rr.line) × AreBelow rr.line rrs

-- the entries of the lines, and their records
entries_after : (n line : ℕ) (lines : List (List Written)) → one_a_line line (empties n ++ lines) ≡ one_a_line (line + n) lines
entries_after zero line lines = let e : line ≡ line + 0 = omega arith in ap (λ (k : ℕ). one_a_line k lines) e
entries_after (suc n) line lines = let e : (line + 1) + n ≡ line + suc n = omega arith in entries_after n (line + 1) lines ∙ ap (λ (k : ℕ). one_a_line k lines) e

abbrev then : ℕ → Option ℕ → List Entry → Result (declared.Context × Option RecordEntry) Cause → Read
then line unclosed entries r = elim r [
  | Err cause ↦ plain.faulty (fault_at line unclosed cause)
  | Ok (next, None) ↦ plain.records_from next entries
  | Ok (next, Some rr) ↦ plain.in_front rr (plain.records_from next entries)
]

read_back : (context : declared.Context) (line : ℕ) (rrs : List RecordEntry) → AllByRecursion IsOfZone rrs → AreBelow line rrs → plain.records_from context (one_a_line (line + 1) (text_lines line rrs)) ≡ record { rrs = rrs; fault = None }
read_back context line [] h k = refl
read_back context line (rr ∷ rrs) h k =
    let n = rr.line - line - 1 in
    let r = record_in rr in
    let below = k.0 in
    let at : (line + 1) + (rr.line - line - 1) ≡ rr.line = omega arith in
    ap (plain.records_from context) (entries_after n (line + 1) (line_words r ∷ text_lines rr.line rrs) ∙ ap (λ (m : ℕ). one_a_line m (line_words r ∷ text_lines rr.line rrs)) at)
    ∙ ap (then rr.line None (one_a_line (rr.line + 1) (text_lines rr.line rrs))) (record_judged context rr.line r h.0.lawful h.0.short)
    ∙ ap (plain.in_front (rr_at rr.line r)) (read_back (plain.behind context (rr_at rr.line r)) rr.line rrs h.1 k.1)

-- the text of what is put
turned_by : (plain : Spelled) (file : List ℕ) (line : ℕ) (b : Bool) → ((cond b plain (record plain { part = part_from plain.line file line; parts = plain.parts ++ plain.part ∷ [] })).text ≡ plain.text) × ((cond b plain (record plain { part = part_from plain.line file line; parts = plain.parts ++ plain.part ∷ [] })).line ≡ plain.line)
turned_by plain file line true = (refl, refl)
turned_by plain file line false = (refl, refl)

turned_text : (plain : Spelled) (file : List ℕ) (line : ℕ) → ((turned plain file line).text ≡ plain.text) × ((turned plain file line).line ≡ plain.line)
turned_text plain file line = turned_by plain file line (goes_on plain.part plain.line file line)

one_text : (plain : Spelled) (file : List ℕ) (rr : RecordEntry) (more : List ℕ)
    → (put plain file (entry.Record rr)).text ++ more ≡ plain.text ++ ((empty_lines (line_for plain file rr.line - plain.line - 1) ++ record_line (record_in rr)) ++ more)
one_text plain file rr more =
    let same = turned_text plain file rr.line in
    let at = line_for plain file rr.line in
    ap (λ (t : List ℕ). (t ++ (empty_lines (at - (turned plain file rr.line).line - 1) ++ record_line (record_in rr))) ++ more) same.0
    ∙ ap (λ (n : ℕ). (plain.text ++ (empty_lines (at - n - 1) ++ record_line (record_in rr))) ++ more) same.1
    ∙ append_assoc plain.text (empty_lines (at - plain.line - 1) ++ record_line (record_in rr)) more

then_text : (plain : Spelled) (file : List ℕ) (own : WideEntry) (entries : List Placed)
    → (put_all (put plain file own) entries).text ≡ (put plain file own).text ++ lines_text (put plain file own).line (laid (put plain file own) entries)
    → (put_all (put plain file own) entries).text ≡ plain.text ++ lines_text plain.line (laid_one plain file own ++ laid (put plain file own) entries)
then_text plain file (entry.Record rr) entries h = h ∙ one_text plain file rr (lines_text (line_for plain file rr.line) (laid (put plain file (entry.Record rr)) entries))
then_text plain file (entry.LeftOut left) entries h = h
then_text plain file (entry.Include own) entries h = h

pub put_text : (plain : Spelled) (entries : List Placed) → (put_all plain entries).text ≡ plain.text ++ lines_text plain.line (laid plain entries)
put_text plain [] = sym (append-nil plain.text)
put_text plain (placed ∷ entries) = then_text plain placed.file placed.own entries (put_text (put plain placed.file placed.own) entries)

-- each record is on a line below that of the one before
below_by : (plain : Spelled) (file : List ℕ) (line : ℕ) (a b c : Bool) → nat_lt plain.line (line_in plain.part line) ≡ c
    → plain.line < line_in (cond (a && (b && c)) plain (record plain { part = part_from plain.line file line; parts = plain.parts ++ plain.part ∷ [] })).part line
below_by plain file line true true true e = ltb-true plain.line (line_in plain.part line) e
below_by plain file line true true false e = omega arith
below_by plain file line true false c e = omega arith
below_by plain file line false b c e = omega arith

is_below : (plain : Spelled) (file : List ℕ) (line : ℕ) → plain.line < line_for plain file line
is_below plain file line = below_by plain file line (bytes_eq plain.part.file file) (nat_le plain.part.from line) (nat_lt plain.line (line_in plain.part line)) refl

then_below : (plain : Spelled) (file : List ℕ) (own : WideEntry) (rrs : List RecordEntry) → AreBelow (put plain file own).line rrs → AreBelow plain.line (laid_one plain file own ++ rrs)
then_below plain file (entry.Record rr) rrs h = (is_below plain file rr.line, h)
then_below plain file (entry.LeftOut left) rrs h = h
then_below plain file (entry.Include own) rrs h = h

pub laid_below : (plain : Spelled) (entries : List Placed) → AreBelow plain.line (laid plain entries)
laid_below plain [] = tt
laid_below plain (placed ∷ entries) = then_below plain placed.file placed.own (laid (put plain placed.file placed.own) entries) (laid_below (put plain placed.file placed.own) entries)

-- and is one that a zone may have
then_of_zone : (plain : Spelled) (file : List ℕ) (own : WideEntry) (rrs : List RecordEntry) → IsEntryOfZone own → AllByRecursion IsOfZone rrs → AllByRecursion IsOfZone (laid_one plain file own ++ rrs)
then_of_zone plain file (entry.Record rr) rrs h k = (record { lawful = h.lawful; short = h.short }, k)
then_of_zone plain file (entry.LeftOut left) rrs h k = k
then_of_zone plain file (entry.Include own) rrs h k = k

pub laid_of_zone : (plain : Spelled) (entries : List Placed) → AreOfZone entries → AllByRecursion IsOfZone (laid plain entries)
laid_of_zone plain [] h = tt
laid_of_zone plain (placed ∷ entries) h =
    then_of_zone plain placed.file placed.own (laid (put plain placed.file placed.own) entries) h.0 (laid_of_zone (put plain placed.file placed.own) entries h.1)

-- the plain text of files has their records
pub back : (entries : List Placed) → AreOfZone entries → (other : List (List ℕ)) → plain.records_of other (put_all unwritten entries).text ≡ laid_read entries
back entries lawful other =
    let rrs = laid unwritten entries in
    let of_zone = laid_of_zone unwritten entries lawful in
    ap (plain.records_of other) (put_text unwritten entries ∙ text_is 0 rrs)
    ∙ ap (plain.records_from (plain.start other)) (lines-read (text_lines 0 rrs) 1 (all_spelt 0 rrs of_zone))
    ∙ read_back (plain.start other) 0 rrs of_zone (laid_below unwritten entries)
