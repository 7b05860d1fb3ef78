-- A zone's text in words is read as the zone.
use Rattle.std.proofs.Common.{◌≡◌, ℕ, suc, ◌+◌, ◌-◌, ◌<◌, ◌≤◌, ◌^◌, Bool, true, false, cond, not, ◌&&◌, ◌==◌, nat_lt, List, [], ◌∷◌, ◌++◌, drop, length, map, flat_map, codes, decimal, All, Option, Some, None, IfSome, option_map, unwrap_or, Result, Ok, Err, ok_or, refl, sym, ap, ◌∙◌, arith}
use Rattle.std.specs.List.{find, list_all}
use Rattle.std.specs.Option.{is_some, option_or}
use Rattle.std.proofs.lemmas.Bool.Decides.{nat_tests, Decides-eqb}
use Rattle.std.proofs.lemmas.List.{append_assoc}
use Rattle.std.proofs.lemmas.List.Elements.{All-head, All-tail}
use Rattle.dns_name.specs.Name.{Name, fold_name}
use Rattle.dns_name.specs.Text.{text_of}
use Rattle.dns_rdata.specs.Data.{data_of}
use Rattle.dns_rdata.specs.Record.{Record, IsLawful}
use Rattle.dns_rdata.specs.declared.numbers.Ttl.{Ttl}
use Rattle.zone_tree.specs.Zone.{IsZone}
use Rattle.record_text.specs.Data.{as_data, data_of_words}
use Rattle.record_text.specs.Front.{Front}
use Rattle.record_text.specs.Generic.{are_generic, generic_of}
use Rattle.record_text.specs.Mnemonics.{class_named, class_of, type_named, type_numbered, type_word}
use Rattle.record_text.specs.Number.{are_digits}
use Rattle.record_text.specs.Reading.{on_ok, and_then}
use Rattle.record_text.specs.Text.{text_of_words, words_of}
use Rattle.record_text.specs.declared.cause.Cause.{Cause}
use Rattle.record_text.specs.declared.cause.Cause.TheVariants.{BadData, Limit, UnknownType}
use Rattle.record_text.proofs.BackLemmas.{AreOctets, decimal_read, number_back}
use Rattle.record_text.proofs.FormLemmas.{data_back}
use Rattle.record_text.proofs.FrontLemmas.{not_directive, owner_is, type_is}
use Rattle.record_text.proofs.SpeltLemmas.{AreSpelt, decimal_spelt, first_spelt, name_spelt, type_spelt}
use Rattle.zone_lexing.specs.Entries.{Entry, entries_of}
use Rattle.zone_lexing.specs.Spelling.{are_spelt, is_spelt, one_a_line, spell, spell_line, spell_more}
use Rattle.zone_lexing.specs.Word.{Written}
use Rattle.zone_lexing.specs.Word.Written.{Plain, Quoted, Unclosed}
use Rattle.zone_lexing.proofs.SpellingLemmas.{lines-read}
use Rattle.master_file.specs.Records as plain
use Rattle.master_file.specs.Records.{Read, directive_of, records_of}
use Rattle.master_file.specs.WrittenZone.{line_words, rr_at, rrs_from, soa_first, zone_text}
use Rattle.master_file.specs.ZoneText.{record_in, zone_of_read}
use Rattle.master_file.specs.declared.record_entry.RecordEntry.{RecordEntry}
use Rattle.master_file.proofs.AgainLemmas.{zone_again}
use Rattle.master_file.proofs.ZoneBackLemmas.{records_are}
use Rattle.master_file.proofs.ZoneLawLemmas.{each_first, lines_are, lines_spelt}
use Rattle.wide_text.specs.Data.{data_by, wide_data}
use Rattle.wide_text.specs.Fields.{fields_of}
use Rattle.wide_text.specs.Forms.{Form, form_of, forms, other_type_named, wide_type_named}
use Rattle.wide_text.specs.Front.{wide_front}
use Rattle.wide_text.specs.Mnemonics.{signing_types, type_NSEC, type_NSEC3, type_NSEC3PARAM, type_RRSIG}
use Rattle.wide_text.specs.Signing.{all_closed, is_signing, left_out}
use Rattle.wide_text.specs.Times.{is_time, ttl_of}
use Rattle.wide_text.specs.Words.{wide_type_word, wide_words, word_in_form, words_by, words_in_form}
use Rattle.wide_text.proofs.FrontBack.{front_is}
use Rattle.wide_text.proofs.PlainLemmas.{plain_data_is_wide}
use Rattle.wide_text.proofs.RestLemmas.{AreBack, fields_back}
use Rattle.wide_file.specs.Included.{Files, included_to, max_depth, entries_read}
use Rattle.wide_file.specs.PlainText.{put_all, unwritten}
use Rattle.wide_file.specs.WideRecords.{WideRead, after_entry, entry_of, entry_with, in_front, judged, obeyed, owned_of, records_from, records_in, rr_of, start}
use Rattle.wide_file.specs.WideZone.{placed_fault, wide_zone, zone_of_whole}
use Rattle.wide_file.specs.WordsText.{words_line, words_text}
use Rattle.wide_file.specs.declared.context.Context.{Context}
use Rattle.wide_file.specs.declared.record_entry.WideEntry.{WideEntry}
use Rattle.wide_file.specs.declared.record_entry.WideEntry.TheVariants as entry
use Rattle.wide_file.proofs.OrderLemmas.{wide_then}
use Rattle.wide_file.proofs.PlainFileLemmas.{all_of, all_placed, all_read, as_entries, laid_same, not_left_out}
use Rattle.wide_text.proofs.BareLemmas.{bare, both_parts}
use Rattle.wide_text.proofs.SpeltWords.{IsBareText, text_good}
use Rattle.wide_file.proofs.TextBackLemmas.{AreBelow}
use Rattle.wide_text.proofs.WideWords.{GoodWords, fields_good, wide_words-spelt}

-- the word of a form names its type, which is none of signers' records
record IsOwn (form : Form) : Type 0 where
  named : wide_type_named form.word ≡ Some form.rtype
  unsigned : is_signing form.rtype ≡ false
  word : IsBareText form.word

abbrev names : Option ℕ → ℕ → Bool
names None rtype = false
names (Some n) rtype = n == rtype

abbrev is_own : Form → Bool
is_own form = names (wide_type_named form.word) form.rtype && (not (is_signing form.rtype) && (nat_lt 0 (length form.word) && list_all bare form.word))

forms_own : list_all is_own forms ≡ true
unfolding forms type_named type_numbered signing_types is_signing type_RRSIG type_NSEC type_NSEC3 type_NSEC3PARAM
forms_own = refl

own_by : (form : Form) (named : Option ℕ) (signing : Bool) → wide_type_named form.word ≡ named → is_signing form.rtype ≡ signing
    → (names named form.rtype && (not signing && (nat_lt 0 (length form.word) && list_all bare form.word))) ≡ true → IsOwn form
own_by form None signing e f h = cc
own_by form (Some n) true e f h = let parts = both_parts (n == form.rtype) false h in cc
own_by form (Some n) false e f h =
    let parts = both_parts (n == form.rtype) (nat_lt 0 (length form.word) && list_all bare form.word) h in
    let rest = both_parts (nat_lt 0 (length form.word)) (list_all bare form.word) parts.1 in
    let t = rest.0 in
    record { named = e ∙ ap (λ (m : ℕ). Some m) ((Decides-eqb n form.rtype).0 parts.0); unsigned = f; word = (grind (arith, nat_tests), rest.1) }

own : (form : Form) → is_own form ≡ true → IsOwn form
own form h = own_by form (wide_type_named form.word) (is_signing form.rtype) refl refl h

abbrev IsOf : ℕ → Form → Type 0
IsOf rtype form = IsOwn form × (form.rtype ≡ rtype)

found_by : (rtype : ℕ) (form : Form) (more : Option Form) (b : Bool) → (form.rtype == rtype) ≡ b → IsOwn form → IfSome more (IsOf rtype) → IfSome (cond b (Some form) more) (IsOf rtype)
found_by rtype form more true e is others = (is, (Decides-eqb form.rtype rtype).0 e)
found_by rtype form more false e is others = others

found_in : (rtype : ℕ) (all : List Form) → list_all is_own all ≡ true → IfSome (find (λ form. form.rtype == rtype) all) (IsOf rtype)
found_in rtype [] h = tt
found_in rtype (form ∷ all) h =
    let parts = both_parts (is_own form) (list_all is_own all) h in
    found_by rtype form (find (λ (f : Form). f.rtype == rtype) all) (form.rtype == rtype) refl (own form parts.0) (found_in rtype all parts.1)

form_is : (rtype : ℕ) → IfSome (form_of rtype) (IsOf rtype)
form_is rtype = found_in rtype forms forms_own

-- the type's word
record HasWord (rtype : ℕ) (word : List ℕ) : Type 0 where
  named : wide_type_named word ≡ Some rtype
  spelt : is_spelt (Plain word) ≡ true

word_by : (rtype : ℕ) (octets : List ℕ) (form : Option Form) → IfSome form (IsOf rtype) → data_of rtype octets ≡ Some octets → HasWord rtype (word_in_form form rtype)
word_by rtype octets (Some form) h e = record { named = h.0.named ∙ ap (λ (t : ℕ). Some t) h.1; spelt = (text_good form.word h.0.word).0 }
word_by rtype octets None h e = record { named = ap (λ (o : Option ℕ). option_or o (other_type_named (type_word rtype))) (type_is rtype octets e); spelt = type_spelt rtype }

has_word : (rtype : ℕ) (octets : List ℕ) → data_of rtype octets ≡ Some octets → HasWord rtype (wide_type_word rtype)
has_word rtype octets e = word_by rtype octets (form_of rtype) (form_is rtype) e

abbrev as_ttl : ℕ → Ttl
as_ttl n = record { 0 = n }

-- the data
record IsData (rtype : ℕ) (octets : List ℕ) : Type 0 where
  form : data_of rtype octets ≡ Some octets
  short : length octets ≤ 4096
  small : AreOctets octets

not_long : (n : ℕ) → n ≤ 4096 → nat_lt 4096 n ≡ false
not_long n h = grind (arith, nat_tests)

data_is : (rtype : ℕ) (octets : List ℕ) → IsData rtype octets → as_data rtype octets ≡ Ok octets
unfolding as_data
data_is rtype octets h =
    ap (λ (o : Option (List ℕ)). elim o as (λ _. Result (List ℕ) Cause) [ None ↦ Err BadData | Some read ↦ cond (nat_lt 4096 (length octets)) (Err Limit) (Ok read) ]) h.form
    ∙ ap (λ (b : Bool). cond b (Err Limit) (Ok octets)) (not_long (length octets) h.short)

plain_back : (rtype : ℕ) (origin : Name) (octets : List ℕ) → IsData rtype octets → data_of_words rtype origin (words_of rtype octets) ≡ Ok octets
plain_back rtype origin octets h = data_back rtype octets origin h.form h.short h.small

-- words that are read as the data, and aren't left out
record AreRead (rtype : ℕ) (origin : Name) (octets : List ℕ) (words : List Written) : Type 0 where
  read : wide_data rtype origin words ≡ Ok octets
  kept : left_out rtype words ≡ Ok false

plain_read : (rtype : ℕ) (origin : Name) (octets : List ℕ) → IsData rtype octets → AreRead rtype origin octets (words_of rtype octets)
plain_read rtype origin octets h =
    let back = plain_back rtype origin octets h in
    record { read = plain_data_is_wide rtype origin (words_of rtype octets) octets back; kept = not_left_out rtype origin (words_of rtype octets) octets back }

words_read : (rtype : ℕ) (origin : Name) (octets : List ℕ) (form : Form) (words : Option (List Written)) → form_of rtype ≡ Some form → IsOf rtype form → IsData rtype octets → GoodWords words → AreBack form.fields form.rest octets words
    → AreRead rtype origin octets (unwrap_or words (words_of rtype octets))
words_read rtype origin octets form None e is h good back = plain_read rtype origin octets h
words_read rtype origin octets form (Some words) e is h good back = record {
  read = ap (λ (b : Bool). cond b (and_then (generic_of (drop 1 words)) (as_data rtype)) (data_by (form_of rtype) rtype origin words)) good.1
      ∙ ap (λ (o : Option Form). data_by o rtype origin words) e
      ∙ ap (λ (r : Result (List ℕ) Cause). and_then r (as_data rtype)) (back origin)
      ∙ data_is rtype octets h;
  kept = ap (λ (b : Bool). cond (b && not (are_generic words)) (all_closed words) (Ok false)) (ap is_signing (sym is.1) ∙ is.0.unsigned);
}

form_read : (rtype : ℕ) (origin : Name) (octets : List ℕ) (form : Option Form) → form_of rtype ≡ form → IfSome form (IsOf rtype) → IsData rtype octets → AreRead rtype origin octets (unwrap_or (words_in_form form octets) (words_of rtype octets))
form_read rtype origin octets None e is h = plain_read rtype origin octets h
form_read rtype origin octets (Some form) e is h =
    words_read rtype origin octets form (words_by form.fields form.rest octets) e is h (fields_good form.fields form.rest octets h.small) (fields_back form.fields form.rest octets h.small)

are_read : (rtype : ℕ) (origin : Name) (octets : List ℕ) → IsData rtype octets → AreRead rtype origin octets (wide_words rtype octets)
are_read rtype origin octets h = form_read rtype origin octets (form_of rtype) refl (form_is rtype) h

-- a record's line
abbrev rest_of : Record → List Written
rest_of r = Plain (decimal r.ttl) ∷ Plain (codes "IN") ∷ Plain (wide_type_word r.rtype) ∷ wide_words r.rtype r.rdata

abbrev words_in : Record → List Written
words_in r = Plain (text_of r.owner) ∷ rest_of r

data_in : (r : Record) → IsLawful r → length r.rdata ≤ 4096 → IsData r.rtype r.rdata
data_in r h short = record { form = h.form; short = short; small = h.octets }

owned_is : (context : Context) (r : Record) → IsLawful r → owned_of context false (words_in r) ≡ Ok (r.owner, rest_of r)
owned_is context r h =
    ap (on_ok (λ (owner : Name). (fold_name owner, rest_of r))) (owner_is r.owner context.origin h.name h.owner_octets)
    ∙ ap (λ (owner : Name). Ok (owner, rest_of r)) (sym h.folded)

abbrev front_in : Record → Front
front_in r = record { ttl = Some (as_ttl r.ttl); rtype = r.rtype; words = wide_words r.rtype r.rdata }

abbrev with_octets : ℕ → Record → List ℕ → RecordEntry
with_octets line r octets = record { line = line; owner = r.owner; ttl = as_ttl r.ttl; rdata = record { rtype = r.rtype; octets = octets } }

placed_is : (context : Context) (line : ℕ) (r : Record) → IsLawful r → length r.rdata ≤ 4096 → and_then (wide_front (rest_of r)) (λ front. entry_with context line r.owner front) ≡ Ok (entry.Record (rr_at line r))
placed_is context line r h short =
    let word = has_word r.rtype r.rdata h.form in
    let read = are_read r.rtype context.origin r.rdata (data_in r h short) in
    let front = front_in r in
    ap (λ (f : Result Front Cause). and_then f (λ (front : Front). entry_with context line r.owner front)) (front_is r.ttl r.rtype (wide_type_word r.rtype) (wide_words r.rtype r.rdata) h.lasts word.named)
    ∙ ap (λ (left : Result Bool Cause). and_then left (λ (l : Bool). cond l (Ok (entry.LeftOut (record { line = line; owner = r.owner; ttl = front.ttl }))) (on_ok (λ (p : RecordEntry). entry.Record p) (rr_of context line r.owner front)))) read.kept
    ∙ ap (λ (octets : Result (List ℕ) Cause). on_ok (λ (p : RecordEntry). entry.Record p) (and_then octets (λ (os : List ℕ). Ok (with_octets line r os)))) read.read

record_is : (context : Context) (line : ℕ) (r : Record) → IsLawful r → length r.rdata ≤ 4096 → entry_of context line false (words_in r) ≡ Ok (entry.Record (rr_at line r))
record_is context line r h short =
    ap (λ (owned : Result (Name × List Written) Cause). and_then owned (λ (o : Name × List Written). and_then (wide_front o.1) (λ (front : Front). entry_with context line o.0 front))) (owned_is context r h)
    ∙ placed_is context line r h short

abbrev by_directive : Context → ℕ → Result WideEntry Cause → Option (List ℕ × List Written) → Result (Context × Option WideEntry) Cause
by_directive context line own directive = elim directive [
  | Some d ↦ obeyed context line d.0 d.1
  | None ↦ on_ok (λ (e : WideEntry). (after_entry context e, Some e)) own
]

no_directive : (r : Record) → directive_of false (words_in r) ≡ None
no_directive r = ap (λ (b : Bool). cond b (Some (text_of r.owner, rest_of r)) None) (not_directive r.owner)

abbrev entry_at : ℕ → Record → WideEntry
entry_at line r = entry.Record (rr_at line r)

record_judged : (context : Context) (line : ℕ) (r : Record) → IsLawful r → length r.rdata ≤ 4096 → judged context line false (words_in r) ≡ Ok (after_entry context (entry_at line r), Some (entry_at line r))
record_judged context line r h short =
    ap (by_directive context line (entry_of context line false (words_in r))) (no_directive r)
    ∙ ap (on_ok (λ (e : WideEntry). (after_entry context e, Some e))) (record_is context line r h short)

-- the records of lines
wide_are : (context : Context) (line : ℕ) (rs : List Record) → All IsLawful rs → All (λ r. length r.rdata ≤ 4096) rs
    → records_from context (one_a_line line (map words_in rs)) ≡ record { entries = as_entries (rrs_from line rs); fault = None }
wide_are context line [] h short = refl
wide_are context line (r ∷ rs) h short =
    ap (wide_then line None (one_a_line (line + 1) (map words_in rs))) (record_judged context line r (All-head IsLawful r rs h) (All-head (λ (s : Record). length s.rdata ≤ 4096) r rs short))
    ∙ ap (in_front (entry_at line r)) (wide_are (after_entry context (entry_at line r)) (line + 1) rs (All-tail IsLawful r rs h) (All-tail (λ (s : Record). length s.rdata ≤ 4096) r rs short))

-- a line is its words with a space between
more_words : (words : List Written) → text_of_words words ++ 10 ∷ [] ≡ spell_more words
more_words [] = refl
more_words (Plain text ∷ words) = append_assoc (32 ∷ text) (text_of_words words) (10 ∷ []) ∙ ap (λ (os : List ℕ). 32 ∷ text ++ os) (more_words words)
more_words (Quoted text ∷ words) = append_assoc (32 ∷ 34 ∷ text ++ 34 ∷ []) (text_of_words words) (10 ∷ []) ∙ ap (λ (os : List ℕ). (32 ∷ 34 ∷ text ++ 34 ∷ []) ++ os) (more_words words)
more_words (Unclosed ∷ words) = ap (λ (os : List ℕ). 32 ∷ os) (more_words words)

joined : (a b i t words end : List ℕ) → a ++ b ++ i ++ t ++ words ++ end ≡ a ++ (b ++ (i ++ (t ++ (words ++ end))))
joined a b i t words end =
    append_assoc (a ++ b ++ i ++ t) words end ∙ append_assoc (a ++ b ++ i) t (words ++ end) ∙ append_assoc (a ++ b) i (t ++ (words ++ end)) ∙ append_assoc a b (i ++ (t ++ (words ++ end)))

line_is : (r : Record) → words_line r ≡ spell_line (words_in r)
line_is r =
    joined (text_of r.owner) (32 ∷ decimal r.ttl) (32 ∷ codes "IN") (32 ∷ wide_type_word r.rtype) (text_of_words (wide_words r.rtype r.rdata)) (10 ∷ [])
    ∙ ap (λ (os : List ℕ). text_of r.owner ++ (32 ∷ decimal r.ttl ++ (32 ∷ codes "IN" ++ (32 ∷ wide_type_word r.rtype ++ os)))) (more_words (wide_words r.rtype r.rdata))

text_is : (line : ℕ) (rs : List Record) → words_text (rrs_from line rs) ≡ spell (map words_in rs)
text_is line [] = refl
text_is line (r ∷ rs) =
    ap (λ (t : List ℕ). t ++ words_text (rrs_from (line + 1) rs)) (line_is r) ∙ ap (λ (t : List ℕ). spell_line (words_in r) ++ t) (text_is (line + 1) rs)

line_spelt : (r : Record) → IsLawful r → AreSpelt (words_in r)
line_spelt r h =
    let lasts = h.lasts in
    let word = has_word r.rtype r.rdata h.form in
    let more = wide_words r.rtype r.rdata in
    first_spelt (Plain (text_of r.owner)) (rest_of r) (name_spelt r.owner)
    (first_spelt (Plain (decimal r.ttl)) (Plain (codes "IN") ∷ Plain (wide_type_word r.rtype) ∷ more) (decimal_spelt r.ttl (omega arith))
    (first_spelt (Plain (codes "IN")) (Plain (wide_type_word r.rtype) ∷ more) refl
    (first_spelt (Plain (wide_type_word r.rtype)) more word.spelt (wide_words-spelt r.rtype r.rdata h.octets))))

more_spelt : (words : List Written) (lines : List (List Written)) → AreSpelt words → are_spelt lines ≡ true → are_spelt (words ∷ lines) ≡ true
more_spelt words lines e h = rw (e, h) refl

all_spelt : (rs : List Record) → All IsLawful rs → are_spelt (map words_in rs) ≡ true
all_spelt [] h = refl
all_spelt (r ∷ rs) h = more_spelt (words_in r) (map words_in rs) (line_spelt r (All-head IsLawful r rs h)) (all_spelt rs (All-tail IsLawful r rs h))

-- they stand below each other
rrs_below : (n line : ℕ) (rs : List Record) → n < line → AreBelow n (rrs_from line rs)
rrs_below n line [] h = tt
rrs_below n line (r ∷ rs) h = (h, rrs_below line (line + 1) rs (omega arith))

-- the text of a zone
plain_records : (zone : List Record) → IsZone zone → (records_of [] (zone_text zone)).rrs ≡ rrs_from 1 (soa_first zone)
plain_records zone is =
    let rs = soa_first zone in
    let all = each_first IsLawful zone is.rules.lawful in
    let short = each_first (λ (r : Record). length r.rdata ≤ 4096) zone is.limits.short in
    ap (λ (read : Read). read.rrs) (ap (plain.records_from (plain.start [])) (ap entries_of (lines_are rs) ∙ lines-read (map line_words rs) 1 (lines_spelt rs all)) ∙ records_are (plain.start []) 1 rs all short)

words_of_zone : (files : Files) (origin : Name) (zone : List Record) → IsZone zone → wide_zone files origin (words_text (rrs_from 1 (soa_first zone))) ≡ Ok zone
words_of_zone files origin zone is =
    let rs = soa_first zone in
    let rrs = rrs_from 1 rs in
    let all = each_first IsLawful zone is.rules.lawful in
    let short = each_first (λ (r : Record). length r.rdata ≤ 4096) zone is.limits.short in
    let included = included_to max_depth files [] in
    let read : Read = record { rrs = rrs; fault = None } in
    let wide : records_in (start origin) (words_text rrs) ≡ all_of read =
    ap (records_from (start origin)) (ap entries_of (text_is 1 rs) ∙ lines-read (map words_in rs) 1 (all_spelt rs all)) ∙ wide_are (start origin) 1 rs all short in
    ap (λ (r : WideRead). zone_of_whole (entries_read included [] r.fault r.entries)) wide
    ∙ ap zone_of_whole (all_read included rrs)
    ∙ ap (λ (ps : List RecordEntry). placed_fault (put_all unwritten (all_placed rrs)) (zone_of_read (record { rrs = ps; fault = None }))) (laid_same [] 0 rrs (rrs_below 0 1 rs (omega arith)))
    ∙ ap (placed_fault (put_all unwritten (all_placed rrs))) (zone_again zone is)

pub words_are_the_zone : (files : Files) (origin : Name) (zone : List Record) → IsZone zone → wide_zone files origin (words_text (records_of [] (zone_text zone)).rrs) ≡ Ok zone
words_are_the_zone files origin zone is = ap (λ (rrs : List RecordEntry). wide_zone files origin (words_text rrs)) (plain_records zone is) ∙ words_of_zone files origin zone is
