-- What the plain grammar takes has the same zone as a zone file.
use Rattle.std.proofs.Common.{◌≡◌, ℕ, ◌-◌, ◌<◌, Bool, true, false, cond, not, ◌&&◌, ◌||◌, ◌==◌, nat_lt, bytes_eq, List, [], ◌∷◌, ◌++◌, codes, Option, Some, None, option_map, Result, Ok, Err, ok_or, refl, sym, ap, subst, ◌∙◌, arith}
use Rattle.std.specs.Option.{option_or}
use Rattle.std.proofs.lemmas.Bool.{le-leb, lt-ltb}
use Rattle.std.proofs.lemmas.Bool.Decides.{Decides-eqb}
use Rattle.std.proofs.lemmas.Slice.Eq.{bytes_eq-Decides}
use Rattle.dns_name.specs.Name.{Name}
use Rattle.dns_rdata.specs.Record.{Record}
use Rattle.dns_rdata.specs.declared.numbers.Ttl.{Ttl}
use Rattle.record_text.specs.Data.{as_data, data_of_words, form_of, octets_of_words}
use Rattle.record_text.specs.Front.{Front, front_of, ttl_of as plain_ttl}
use Rattle.record_text.specs.Generic.{are_generic}
use Rattle.record_text.specs.Mnemonics.{is_word}
use Rattle.record_text.specs.NameWord.{owner_of}
use Rattle.record_text.specs.Number.{number_of}
use Rattle.record_text.specs.Reading.{on_ok, and_then}
use Rattle.record_text.specs.declared.cause.Cause.{Cause}
use Rattle.record_text.specs.declared.cause.Cause.TheVariants.{Directive, NoTtl}
use Rattle.zone_lexing.specs.Entries.{Entry, entries_of}
use Rattle.zone_lexing.specs.Word.{Written}
use Rattle.zone_lexing.proofs.EntryLemmas.{AreInOrder-of}
use Rattle.master_file.specs.Records as plain
use Rattle.master_file.specs.Records.{Read, alone, argument_of, directive_of, fault_at, records_of, words_of}
use Rattle.master_file.specs.WrittenZone.{record_line}
use Rattle.master_file.specs.ZoneText.{record_in, zone_of_read, zone_of_text}
use Rattle.master_file.specs.declared.context.Context as declared
use Rattle.master_file.specs.declared.fault.FileFault.{FileFault}
use Rattle.master_file.specs.declared.record_entry.RecordEntry.{RecordEntry}
use Rattle.master_file.proofs.IsZoneLemmas.{read_whole}
use Rattle.wide_text.specs.Front.{wide_front}
use Rattle.wide_text.specs.Signing.{all_closed, is_signing, left_out}
use Rattle.wide_text.specs.Mnemonics.{type_RRSIG, type_NSEC, type_NSEC3, type_NSEC3PARAM}
use Rattle.wide_text.specs.Times.{ttl_of}
use Rattle.wide_text.proofs.PlainFront.{plain_front_is_wide}
use Rattle.wide_text.proofs.GenericLemmas.{read_first}
use Rattle.wide_text.proofs.PlainLemmas.{number_is_time, plain_data_is_wide, read_on}
use Rattle.wide_file.specs.Included.{Files, Placed, Whole, entries_read, included_to, max_depth, one, then_read}
use Rattle.wide_file.specs.PlainText.{Spelled, at_line, empty_lines, goes_on, laid, line_for, line_in, part_from, put, on_line, put_all, turned, unwritten}
use Rattle.wide_file.specs.WideZone.{placed_fault, wide_zone, zone_of_whole}
use Rattle.wide_file.specs.WideRecords.{WideRead, after_entry, directed, entry_of, entry_with, in_front, include_of, judged, minimum_ttl, obeyed, owned_of, records_from, rr_of, start, ttl_in, wide_records}
use Rattle.wide_file.specs.declared.context.Context.{Context}
use Rattle.wide_file.specs.declared.part.Part.{Part}
use Rattle.wide_file.specs.declared.record_entry.IncludeEntry.{IncludeEntry}
use Rattle.wide_file.specs.declared.record_entry.WideEntry.{WideEntry}
use Rattle.wide_file.specs.declared.record_entry.WideEntry.TheVariants as entry
use Rattle.wide_file.proofs.OrderLemmas.{kept, records_below, wide_then}
use Rattle.wide_file.proofs.TextBackLemmas.{AreBelow}

-- what is in force, alike
abbrev widen : declared.Context → Context
widen context = record { origin = context.origin; default_ttl = context.default_ttl; owner = context.owner; ttl = context.ttl }

-- a TTL is read alike
abbrev as_ttl : ℕ → Ttl
as_ttl n = record { 0 = n }

ttl_widens : (word : Written) (ttl : Ttl) → plain_ttl word ≡ Ok ttl → ttl_of word ≡ Ok ttl
ttl_widens word ttl e =
    let read = read_on (number_of 2147483647 word) as_ttl ttl e in
    ap (on_ok as_ttl) (number_is_time 2147483647 word read.0 read.1) ∙ ap Ok read.2

ttl_argument : (arguments : List Written) (ttl : Ttl) → argument_of plain_ttl arguments ≡ Ok ttl → argument_of ttl_of arguments ≡ Ok ttl
ttl_argument [] ttl e = cc
ttl_argument (word ∷ words) ttl e =
    let read = read_first (plain_ttl word) (λ (t : Ttl). alone t words) ttl e in
    ap (λ (r : Result Ttl Cause). and_then r (λ (t : Ttl). alone t words)) (ttl_widens word read.0 read.1) ∙ read.2

-- directives
with_origin : (context next : declared.Context) (r : Result Name Cause) → on_ok (λ (name : Name). record context { origin = name }) r ≡ Ok next → on_ok (λ (name : Name). record (widen context) { origin = name }) r ≡ Ok (widen next)
with_origin context next r e =
    let read = read_on r (λ (name : Name). record context { origin = name }) next e in
    ap (on_ok (λ (name : Name). record (widen context) { origin = name })) read.1 ∙ ap (λ (c : declared.Context). Ok (widen c)) read.2

with_ttl : (context next : declared.Context) (arguments : List Written) → on_ok (λ (ttl : Ttl). record context { default_ttl = Some ttl }) (argument_of plain_ttl arguments) ≡ Ok next
    → on_ok (λ (ttl : Ttl). record (widen context) { default_ttl = Some ttl }) (argument_of ttl_of arguments) ≡ Ok (widen next)
with_ttl context next arguments e =
    let read = read_on (argument_of plain_ttl arguments) (λ (ttl : Ttl). record context { default_ttl = Some ttl }) next e in
    ap (on_ok (λ (ttl : Ttl). record (widen context) { default_ttl = Some ttl })) (ttl_argument arguments read.0 read.1) ∙ ap (λ (c : declared.Context). Ok (widen c)) read.2

directed_by : (context next : declared.Context) (directive : List ℕ) (arguments : List Written) (a b : Bool) → bytes_eq directive (codes "$ORIGIN") ≡ a → bytes_eq directive (codes "$TTL") ≡ b
    → cond a (on_ok (λ (name : Name). record context { origin = name }) (argument_of (owner_of context.origin) arguments)) (cond b (on_ok (λ (ttl : Ttl). record context { default_ttl = Some ttl }) (argument_of plain_ttl arguments)) (Err Directive)) ≡ Ok next
    → directed (widen context) directive arguments ≡ Ok (widen next)
unfolding directed
directed_by context next directive arguments true b s t e =
    let same = (bytes_eq-Decides directive (codes "$ORIGIN")).0 s in
    let is : is_word directive (codes "$ORIGIN") ≡ true = ap (λ (d : List ℕ). is_word d (codes "$ORIGIN")) same in
    rw is (with_origin context next (argument_of (owner_of context.origin) arguments) e)
directed_by context next directive arguments false true s t e =
    let same = (bytes_eq-Decides directive (codes "$TTL")).0 t in
    let other : is_word directive (codes "$ORIGIN") ≡ false = ap (λ (d : List ℕ). is_word d (codes "$ORIGIN")) same in
    let is : is_word directive (codes "$TTL") ≡ true = ap (λ (d : List ℕ). is_word d (codes "$TTL")) same in
    rw (other, is) (with_ttl context next arguments e)
directed_by context next directive arguments false false s t e = cc

directed_widens : (context next : declared.Context) (directive : List ℕ) (arguments : List Written) → plain.directed context directive arguments ≡ Ok next → directed (widen context) directive arguments ≡ Ok (widen next)
unfolding plain.directed
directed_widens context next directive arguments e = directed_by context next directive arguments (bytes_eq directive (codes "$ORIGIN")) (bytes_eq directive (codes "$TTL")) refl refl e

-- they include no file
no_file : (directive : List ℕ) (a b : Bool) → bytes_eq directive (codes "$ORIGIN") ≡ a → bytes_eq directive (codes "$TTL") ≡ b → {A : Type 0} (x y : Result A Cause) (z : A)
    → cond a x (cond b y (Err Directive)) ≡ Ok z → is_word directive (codes "$INCLUDE") ≡ false
no_file directive true b s t x y z e = ap (λ (d : List ℕ). is_word d (codes "$INCLUDE")) ((bytes_eq-Decides directive (codes "$ORIGIN")).0 s)
no_file directive false true s t x y z e = ap (λ (d : List ℕ). is_word d (codes "$INCLUDE")) ((bytes_eq-Decides directive (codes "$TTL")).0 t)
no_file directive false false s t x y z e = cc

includes_none : (context next : declared.Context) (directive : List ℕ) (arguments : List Written) → plain.directed context directive arguments ≡ Ok next → is_word directive (codes "$INCLUDE") ≡ false
unfolding plain.directed
includes_none context next directive arguments e =
    no_file directive (bytes_eq directive (codes "$ORIGIN")) (bytes_eq directive (codes "$TTL")) refl refl
    (on_ok (λ (name : Name). record context { origin = name }) (argument_of (owner_of context.origin) arguments))
    (on_ok (λ (ttl : Ttl). record context { default_ttl = Some ttl }) (argument_of plain_ttl arguments)) next e

obeyed_widens : (context next : declared.Context) (line : ℕ) (directive : List ℕ) (arguments : List Written) → plain.directed context directive arguments ≡ Ok next → obeyed (widen context) line directive arguments ≡ Ok (widen next, None)
unfolding obeyed
obeyed_widens context next line directive arguments e =
    ap (λ (b : Bool). cond b (on_ok (λ (own : IncludeEntry). (widen context, Some (entry.Include own))) (include_of (widen context) line arguments)) (on_ok (λ (n : Context). (n, None)) (directed (widen context) directive arguments))) (includes_none context next directive arguments e)
    ∙ ap (on_ok (λ (n : Context). (n, None))) (directed_widens context next directive arguments e)

-- a record that the plain grammar takes isn't left out
signing_by : (rtype : ℕ) (a b c d : Bool) → (rtype == 46) ≡ a → (rtype == 47) ≡ b → (rtype == 50) ≡ c → (rtype == 51) ≡ d → (a || (b || (c || d))) ≡ true → (origin : Name) (words : List Written) (own : List ℕ) → octets_of_words rtype origin words ≡ Ok own → ⊥
unfolding octets_of_words form_of
signing_by rtype true b c d h i j k s origin words own e = let same = (Decides-eqb rtype 46).0 h in let f = ap (λ (n : ℕ). octets_of_words n origin words) (sym same) ∙ e in cc
signing_by rtype false true c d h i j k s origin words own e = let same = (Decides-eqb rtype 47).0 i in let f = ap (λ (n : ℕ). octets_of_words n origin words) (sym same) ∙ e in cc
signing_by rtype false false true d h i j k s origin words own e = let same = (Decides-eqb rtype 50).0 j in let f = ap (λ (n : ℕ). octets_of_words n origin words) (sym same) ∙ e in cc
signing_by rtype false false false true h i j k s origin words own e = let same = (Decides-eqb rtype 51).0 k in let f = ap (λ (n : ℕ). octets_of_words n origin words) (sym same) ∙ e in cc
signing_by rtype false false false false h i j k s origin words own e = cc

signing_none : (rtype : ℕ) (origin : Name) (words : List Written) (own : List ℕ) → is_signing rtype ≡ true → octets_of_words rtype origin words ≡ Ok own → ⊥
unfolding is_signing type_RRSIG type_NSEC type_NSEC3 type_NSEC3PARAM
signing_none rtype origin words own s e = signing_by rtype (rtype == 46) (rtype == 47) (rtype == 50) (rtype == 51) refl refl refl refl s origin words own e

kept_by : (rtype : ℕ) (origin : Name) (words : List Written) (octets : List ℕ) (s g : Bool) → is_signing rtype ≡ s → are_generic words ≡ g → data_of_words rtype origin words ≡ Ok octets → cond (s && not g) (all_closed words) (Ok false) ≡ Ok false
kept_by rtype origin words octets false g s t e = refl
kept_by rtype origin words octets true true s t e = refl
kept_by rtype origin words octets true false s t e =
    let own : and_then (octets_of_words rtype origin words) (as_data rtype) ≡ Ok octets = (rw t at e) in
    let read = read_first (octets_of_words rtype origin words) (as_data rtype) octets own in
    absurd (signing_none rtype origin words read.0 s read.1)

pub not_left_out : (rtype : ℕ) (origin : Name) (words : List Written) (octets : List ℕ) → data_of_words rtype origin words ≡ Ok octets → left_out rtype words ≡ Ok false
not_left_out rtype origin words octets e = kept_by rtype origin words octets (is_signing rtype) (are_generic words) refl refl e

-- a record
ttl_by : (own default before least : Option Ttl) (ttl : Ttl) → ok_or (option_or own (option_or default before)) NoTtl ≡ Ok ttl → ok_or (option_or own (option_or default (option_or before least))) NoTtl ≡ Ok ttl
ttl_by (Some own) default before least ttl e = e
ttl_by None (Some default) before least ttl e = e
ttl_by None None (Some before) least ttl e = e
ttl_by None None None least ttl e = cc

owned_widens : (context : declared.Context) (indented : Bool) (words : List Written) → owned_of (widen context) indented words ≡ plain.owned_of context indented words
owned_widens context true words = refl
owned_widens context false [] = refl
owned_widens context false (word ∷ words) = refl

abbrev with_octets : ℕ → Name → Ttl → ℕ → List ℕ → RecordEntry
with_octets line owner ttl rtype octets = record { line = line; owner = owner; ttl = ttl; rdata = record { rtype = rtype; octets = octets } }

rr_widens : (context : declared.Context) (line : ℕ) (owner : Name) (words : List Written) (rr : RecordEntry) → plain.rr_of context line owner words ≡ Ok rr → and_then (wide_front words) (λ (front : Front). entry_with (widen context) line owner front) ≡ Ok (entry.Record rr)
rr_widens context line owner words rr e =
    let read = read_first (front_of words) (λ (front : Front). and_then (plain.ttl_in context front.ttl) (λ (ttl : Ttl). on_ok (with_octets line owner ttl front.rtype) (data_of_words front.rtype context.origin front.words))) rr e in
    let front = read.0 in
    let timed = read_first (plain.ttl_in context front.ttl) (λ (ttl : Ttl). on_ok (with_octets line owner ttl front.rtype) (data_of_words front.rtype context.origin front.words)) rr read.2 in
    let octets_read = read_on (data_of_words front.rtype context.origin front.words) (with_octets line owner timed.0 front.rtype) rr timed.2 in
    let before = plain_front_is_wide None false words front read.1 in
    let kept = not_left_out front.rtype context.origin front.words octets_read.0 octets_read.1 in
    let octets = plain_data_is_wide front.rtype context.origin front.words octets_read.0 octets_read.1 in
    let ttl : ttl_in (widen context) front.ttl front.rtype octets_read.0 ≡ Ok timed.0 = ttl_by front.ttl context.default_ttl context.ttl (minimum_ttl front.rtype octets_read.0) timed.0 timed.1 in
    ap (λ (r : Result Front Cause). and_then r (λ (f : Front). entry_with (widen context) line owner f)) before
    ∙ ap (λ (r : Result Bool Cause). and_then r (λ (left : Bool). cond left (Ok (entry.LeftOut (record { line = line; owner = owner; ttl = front.ttl }))) (on_ok (λ (p : RecordEntry). entry.Record p) (rr_of (widen context) line owner front)))) kept
    ∙ ap (λ (r : Result (List ℕ) Cause). on_ok (λ (p : RecordEntry). entry.Record p) (and_then r (λ (os : List ℕ). on_ok (λ (t : Ttl). with_octets line owner t front.rtype os) (ttl_in (widen context) front.ttl front.rtype os)))) octets
    ∙ ap (λ (r : Result Ttl Cause). on_ok (λ (p : RecordEntry). entry.Record p) (on_ok (λ (t : Ttl). with_octets line owner t front.rtype octets_read.0) r)) ttl
    ∙ ap (λ (p : RecordEntry). Ok (entry.Record p)) octets_read.2

record_widens : (context : declared.Context) (line : ℕ) (indented : Bool) (words : List Written) (rr : RecordEntry) → plain.record_of context line indented words ≡ Ok rr → entry_of (widen context) line indented words ≡ Ok (entry.Record rr)
record_widens context line indented words rr e =
    let read = read_first (plain.owned_of context indented words) (λ (owned : Name × List Written). plain.rr_of context line owned.0 owned.1) rr e in
    ap (λ (r : Result (Name × List Written) Cause). and_then r (λ (owned : Name × List Written). and_then (wide_front owned.1) (λ (front : Front). entry_with (widen context) line owned.0 front))) (owned_widens context indented words ∙ read.1)
    ∙ rr_widens context line read.0.0 read.0.1 rr read.2

-- an entry
abbrev widened : declared.Context × Option RecordEntry → Context × Option WideEntry
widened pair = (widen pair.0, option_map (λ (rr : RecordEntry). entry.Record rr) pair.1)

judged_by : (context : declared.Context) (line : ℕ) (indented : Bool) (words : List Written) (d : Option (List ℕ × List Written)) (pair : declared.Context × Option RecordEntry)
    → elim d as (λ _. Result (declared.Context × Option RecordEntry) Cause) [
      | Some directive ↦ on_ok (λ next. (next, None)) (plain.directed context directive.0 directive.1)
      | None ↦ on_ok (λ rr. (plain.behind context rr, Some rr)) (plain.record_of context line indented words)
    ] ≡ Ok pair
    → elim d as (λ _. Result (Context × Option WideEntry) Cause) [
      | Some directive ↦ obeyed (widen context) line directive.0 directive.1
      | None ↦ on_ok (λ own. (after_entry (widen context) own, Some own)) (entry_of (widen context) line indented words)
    ] ≡ Ok (widened pair)
judged_by context line indented words (Some directive) pair e =
    let read = read_on (plain.directed context directive.0 directive.1) (λ (next : declared.Context). (next, None)) pair e in
    obeyed_widens context read.0 line directive.0 directive.1 read.1 ∙ ap (λ (p : declared.Context × Option RecordEntry). Ok (widened p)) read.2
judged_by context line indented words None pair e =
    let read = read_on (plain.record_of context line indented words) (λ (rr : RecordEntry). (plain.behind context rr, Some rr)) pair e in
    ap (on_ok (λ (own : WideEntry). (after_entry (widen context) own, Some own))) (record_widens context line indented words read.0 read.1) ∙ ap (λ (p : declared.Context × Option RecordEntry). Ok (widened p)) read.2

judged_widens : (context : declared.Context) (line : ℕ) (indented : Bool) (words : List Written) (pair : declared.Context × Option RecordEntry) → plain.judged context line indented words ≡ Ok pair → judged (widen context) line indented words ≡ Ok (widened pair)
judged_widens context line indented words pair e = judged_by context line indented words (directive_of indented words) pair e

-- records as entries
abbrev pub as_entries : List RecordEntry → List WideEntry
as_entries [] = []
as_entries (rr ∷ rrs) = entry.Record rr ∷ as_entries rrs

all_kept : (rrs : List RecordEntry) → kept (as_entries rrs) ≡ rrs
all_kept [] = refl
all_kept (rr ∷ rrs) = ap (λ (ps : List RecordEntry). rr ∷ ps) (all_kept rrs)

-- all records of a text
abbrev plain_then : ℕ → Option ℕ → List Entry → Result (declared.Context × Option RecordEntry) Cause → Read
plain_then line unclosed entries r = elim r [
  | Err cause ↦ plain.faulty (fault_at line unclosed cause)
  | Ok (next, None) ↦ plain.records_from next entries
  | Ok (next, Some rr) ↦ plain.in_front rr (plain.records_from next entries)
]

abbrev pub all_of : Read → WideRead
all_of read = record { entries = as_entries read.rrs; fault = None }

then_widens : (line : ℕ) (unclosed : Option ℕ) (entries : List Entry) (r : Result (declared.Context × Option RecordEntry) Cause) (s : Result (Context × Option WideEntry) Cause)
    → ((pair : declared.Context × Option RecordEntry) → r ≡ Ok pair → s ≡ Ok (widened pair))
    → ((next : declared.Context) → (plain.records_from next entries).fault ≡ None → records_from (widen next) entries ≡ all_of (plain.records_from next entries))
    → (plain_then line unclosed entries r).fault ≡ None → wide_then line unclosed entries s ≡ all_of (plain_then line unclosed entries r)
then_widens line unclosed entries (Err cause) s alike more none = cc
then_widens line unclosed entries (Ok (next, None)) s alike more none = ap (wide_then line unclosed entries) (alike (next, None) refl) ∙ more next none
then_widens line unclosed entries (Ok (next, Some rr)) s alike more none = ap (wide_then line unclosed entries) (alike (next, Some rr) refl) ∙ ap (in_front (entry.Record rr)) (more next none)

all_widen : (context : declared.Context) (entries : List Entry) → (plain.records_from context entries).fault ≡ None → records_from (widen context) entries ≡ all_of (plain.records_from context entries)
all_widen context [] none = refl
all_widen context (first ∷ entries) none =
    then_widens first.line first.unclosed entries (plain.judged context first.line first.indented (words_of first)) (judged (widen context) first.line first.indented (words_of first))
    (judged_widens context first.line first.indented (words_of first)) (λ next. all_widen next entries) none

-- they are all of one file
abbrev pub in_file : RecordEntry → Placed
in_file rr = record { file = []; own = entry.Record rr }

abbrev pub all_placed : List RecordEntry → List Placed
all_placed [] = []
all_placed (rr ∷ rrs) = in_file rr ∷ all_placed rrs

pub all_read : (included : IncludeEntry → Whole) (rrs : List RecordEntry) → entries_read included [] None (as_entries rrs) ≡ record { entries = all_placed rrs; fault = None }
all_read included [] = refl
all_read included (rr ∷ rrs) = ap (then_read (one [] (entry.Record rr))) (all_read included rrs)

-- each on the line of its entry
abbrev pub file_part : Part
file_part = record { at = 0; file = []; from = 0 }

abbrev pub of_file : List ℕ → ℕ → Spelled
of_file text lines = record { text = text; line = lines; part = file_part; parts = []; left_out = 0; first_left_out = None }

own_line : (line : ℕ) → line_in file_part line ≡ line
own_line line = omega arith

goes : (lines line : ℕ) → lines < line → goes_on file_part lines [] line ≡ true
goes lines line h =
    ap (λ (b : Bool). b && nat_lt lines (line_in file_part line)) (le-leb 0 line (omega arith))
    ∙ ap (nat_lt lines) (own_line line) ∙ lt-ltb lines line h

stays : (text : List ℕ) (lines line : ℕ) → lines < line → turned (of_file text lines) [] line ≡ of_file text lines
stays text lines line h = ap (λ (b : Bool). cond b (of_file text lines) (record (of_file text lines) { part = part_from lines [] line; parts = file_part ∷ [] })) (goes lines line h)

same_line : (text : List ℕ) (lines line : ℕ) → lines < line → line_for (of_file text lines) [] line ≡ line
same_line text lines line h = ap (λ (plain : Spelled). line_in plain.part line) (stays text lines line h) ∙ own_line line

abbrev more : List ℕ → ℕ → RecordEntry → List ℕ
more text lines rr = text ++ (empty_lines (rr.line - lines - 1) ++ record_line (record_in rr))

put_next : (text : List ℕ) (lines : ℕ) (rr : RecordEntry) → lines < rr.line → put (of_file text lines) [] (entry.Record rr) ≡ of_file (more text lines rr) rr.line
put_next text lines rr h =
    ap (λ (at : ℕ). on_line (turned (of_file text lines) [] rr.line) at rr) (same_line text lines rr.line h)
    ∙ ap (λ (plain : Spelled). on_line plain rr.line rr) (stays text lines rr.line h)

pub laid_same : (text : List ℕ) (lines : ℕ) (rrs : List RecordEntry) → AreBelow lines rrs → laid (of_file text lines) (all_placed rrs) ≡ rrs
laid_same text lines [] h = refl
laid_same text lines (rr ∷ rrs) h =
    ap (λ (at : ℕ). at_line at rr ∷ laid (put (of_file text lines) [] (entry.Record rr)) (all_placed rrs)) (same_line text lines rr.line h.0)
    ∙ ap (λ (plain : Spelled). rr ∷ laid plain (all_placed rrs)) (put_next text lines rr h.0)
    ∙ ap (λ (ps : List RecordEntry). rr ∷ ps) (laid_same (more text lines rr) rr.line rrs h.1)

-- the zone
same_read : (read : Read) (zone : List Record) → read.fault ≡ None → zone_of_read read ≡ Ok zone → zone_of_read (record { rrs = read.rrs; fault = None }) ≡ Ok zone
same_read read zone none e = ap (λ (f : Option FileFault). zone_of_read (record { rrs = read.rrs; fault = f })) (sym none) ∙ e

pub plain_zone_is_wide : (files : Files) (origin : Name) (text : List ℕ) (zone : List Record) → zone_of_text origin text ≡ Ok zone → wide_zone files origin text ≡ Ok zone
plain_zone_is_wide files origin text zone e =
    let read = records_of origin text in
    let none = read_whole read zone e in
    let wide : wide_records origin text ≡ all_of read = all_widen (plain.start origin) (entries_of text) none in
    let included = included_to max_depth files [] in
    let below : AreBelow 0 (kept (wide_records origin text).entries) = records_below (start origin) 0 (entries_of text) (AreInOrder-of text) in
    let own_below : AreBelow 0 read.rrs = subst (AreBelow 0) (ap (λ (r : WideRead). kept r.entries) wide ∙ all_kept read.rrs) below in
    ap (λ (r : WideRead). zone_of_whole (entries_read included [] r.fault r.entries)) wide
    ∙ ap zone_of_whole (all_read included read.rrs)
    ∙ ap (λ (rrs : List RecordEntry). placed_fault (put_all unwritten (all_placed read.rrs)) (zone_of_read (record { rrs = rrs; fault = None }))) (laid_same [] 0 read.rrs own_below)
    ∙ ap (placed_fault (put_all unwritten (all_placed read.rrs))) (same_read read zone none e)
