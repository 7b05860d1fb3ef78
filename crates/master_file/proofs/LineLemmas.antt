-- A zone from entries that are the same but for their lines is the same; a fault is told on the other line.
use Rattle.std.proofs.Common.{◌≡◌, ℕ, Bool, true, false, cond, ◌==◌, List, [], ◌∷◌, ◌++◌, map, length, nat_lt, Option, Some, None, option_map, Result, Ok, Err, refl, sym, ap, ◌∙◌, arith}
use Rattle.dns_rdata.specs.Record.{Record}
use Rattle.dns_rdata.specs.Numbers.{type_NS}
use Rattle.zone_tree.specs.Zone.{rrset_of, soa_of, apex_of, is_of}
use Rattle.zone_lexing.specs.Entries.{Entry}
use Rattle.std.proofs.lemmas.Bool.Decides.{Decides-ltb}
use Rattle.zone_lexing.specs.Lines.{on_lines, lowered}
use Rattle.zone_lexing.specs.Word.{Written}
use Rattle.zone_lexing.specs.Word.Written.{Unclosed as no_word}
use Rattle.record_text.specs.declared.cause.Cause.{Cause}
use Rattle.record_text.specs.declared.cause.Cause.TheVariants.{Directive, BadName, Number, BadClass, UnknownType, BadData, Unclosed, NoTtl, NoOwner, Outside, Apex, Conflict, Limit, NoMemory}
use Rattle.record_text.specs.Data.{data_of_words}
use Rattle.record_text.specs.Front.{Front, front_of}
use Rattle.record_text.specs.Reading.{on_ok, and_then}
use Rattle.master_file.specs.declared.context.Context.{Context}
use Rattle.master_file.specs.declared.fault.FileFault.{FileFault}
use Rattle.master_file.specs.declared.record_entry.RecordEntry.{RecordEntry}
use Rattle.master_file.specs.Records.{directive_of, directed, owned_of, ttl_in, rr_of, record_of, behind, judged, words_of, fault_line, fault_at, Read, faulty, in_front, records_from}
use Rattle.master_file.specs.TextLaws.{on_fault, on_line}
use Rattle.master_file.specs.ZoneText.{record_in, with_one, with_all, timed, in_lower, first_line, is_too_many, is_second_soa, is_conflict, outside_line, reported, told_whole, zone_of_all, zone_of_read, zone_records}

-- readings of records that are the same but for something
then_on : {A B E : Type 0} (g : B → B) (r : Result A E) (h k : A → Result B E) → ((x : A) → k x ≡ on_ok g (h x)) → and_then r k ≡ on_ok g (and_then r h)
then_on g (Ok x) h k same = same x
then_on g (Err e) h k same = refl

on_twice : {A B C E : Type 0} (f : A → B) (g : B → C) (r : Result A E) → on_ok g (on_ok f r) ≡ on_ok (λ (x : A). g (f x)) r
on_twice f g (Ok x) = refl
on_twice f g (Err e) = refl

module _ (f : ℕ → ℕ) where
  -- a record on another line
  abbrev pub moved : RecordEntry → RecordEntry
  moved rr = record rr { line = f rr.line }

  abbrev moved_read : Read → Read
  moved_read read = record { rrs = map moved read.rrs; fault = option_map (on_line f) read.fault }

  rr_moved : (context : Context) (line : ℕ) (owner : List (List ℕ)) (words : List Written) → rr_of context (f line) owner words ≡ on_ok moved (rr_of context line owner words)
  rr_moved context line owner words =
      then_on moved (front_of words) _ _ (λ (front : Front). then_on moved (ttl_in context front.ttl) _ _ (λ ttl.
      sym (on_twice (λ (octets : List ℕ). record { line = line; owner = owner; ttl = ttl; rdata = record { rtype = front.rtype; octets = octets } }) moved (data_of_words front.rtype context.origin front.words))))

  record_moved : (context : Context) (line : ℕ) (indented : Bool) (words : List Written) → record_of context (f line) indented words ≡ on_ok moved (record_of context line indented words)
  record_moved context line indented words = then_on moved (owned_of context indented words) _ _ (λ owned. rr_moved context line owned.0 owned.1)

  abbrev moved_pair : Context × Option RecordEntry → Context × Option RecordEntry
  moved_pair pair = (pair.0, option_map moved pair.1)

  abbrev by_directive : Context → Result RecordEntry Cause → Option (List ℕ × List Written) → Result (Context × Option RecordEntry) Cause
  by_directive context rr directive = elim directive [
    | Some d ↦ on_ok (λ (next : Context). (next, None)) (directed context d.0 d.1)
    | None ↦ on_ok (λ (p : RecordEntry). (behind context p, Some p)) rr
  ]

  put_moved : (r : Result Context Cause) → on_ok (λ (next : Context). (next, None)) r ≡ on_ok moved_pair (on_ok (λ (next : Context). (next, None)) r)
  put_moved (Ok next) = refl
  put_moved (Err cause) = refl

  read_moved : (context : Context) (r : Result RecordEntry Cause) → on_ok (λ (p : RecordEntry). (behind context p, Some p)) (on_ok moved r) ≡ on_ok moved_pair (on_ok (λ (p : RecordEntry). (behind context p, Some p)) r)
  read_moved context (Ok rr) = refl
  read_moved context (Err cause) = refl

  by_moved : (context : Context) (d : Option (List ℕ × List Written)) (r : Result RecordEntry Cause) → by_directive context (on_ok moved r) d ≡ on_ok moved_pair (by_directive context r d)
  by_moved context None r = read_moved context r
  by_moved context (Some d) r = put_moved (directed context d.0 d.1)

  judged_moved : (context : Context) (line : ℕ) (indented : Bool) (words : List Written) → judged context (f line) indented words ≡ on_ok moved_pair (judged context line indented words)
  judged_moved context line indented words =
      ap (λ (r : Result RecordEntry Cause). by_directive context r (directive_of indented words)) (record_moved context line indented words)
      ∙ by_moved context (directive_of indented words) (record_of context line indented words)

  words_moved : (unclosed : Option ℕ) (words : List Written) → elim (option_map f unclosed) as (λ _. List Written) [ None ↦ words | Some line ↦ words ++ no_word ∷ [] ] ≡ elim unclosed as (λ _. List Written) [ None ↦ words | Some line ↦ words ++ no_word ∷ [] ]
  words_moved None words = refl
  words_moved (Some line) words = refl

  module _ (zero : f 0 ≡ 0) where
    quote_moved : (line : ℕ) (unclosed : Option ℕ) → fault_line (f line) (option_map f unclosed) Unclosed ≡ f (fault_line line unclosed Unclosed)
    quote_moved line None = refl
    quote_moved line (Some at) = refl

    line_moved : (line : ℕ) (unclosed : Option ℕ) (cause : Cause) → fault_line (f line) (option_map f unclosed) cause ≡ f (fault_line line unclosed cause)
    line_moved line unclosed Unclosed = quote_moved line unclosed
    line_moved line unclosed NoMemory = sym zero
    line_moved line unclosed Directive = refl
    line_moved line unclosed BadName = refl
    line_moved line unclosed Number = refl
    line_moved line unclosed BadClass = refl
    line_moved line unclosed UnknownType = refl
    line_moved line unclosed BadData = refl
    line_moved line unclosed NoTtl = refl
    line_moved line unclosed NoOwner = refl
    line_moved line unclosed Outside = refl
    line_moved line unclosed Apex = refl
    line_moved line unclosed Conflict = refl
    line_moved line unclosed Limit = refl

    fault_moved : (line : ℕ) (unclosed : Option ℕ) (cause : Cause) → fault_at (f line) (option_map f unclosed) cause ≡ on_line f (fault_at line unclosed cause)
    fault_moved line unclosed cause = ap (λ (l : ℕ). record { line = l; cause = cause }) (line_moved line unclosed cause)

    abbrev then : ℕ → Option ℕ → List Entry → Result (Context × Option RecordEntry) Cause → Read
    then line unclosed entries r = elim r [
      | Err cause ↦ faulty (fault_at line unclosed cause)
      | Ok (next, None) ↦ records_from next entries
      | Ok (next, Some rr) ↦ in_front rr (records_from next entries)
    ]

    then_moved : (line : ℕ) (unclosed : Option ℕ) (entries : List Entry) (r : Result (Context × Option RecordEntry) Cause) → ((next : Context) → records_from next (map (on_lines f) entries) ≡ moved_read (records_from next entries)) → then (f line) (option_map f unclosed) (map (on_lines f) entries) (on_ok moved_pair r) ≡ moved_read (then line unclosed entries r)
    then_moved line unclosed entries (Err cause) more = ap faulty (fault_moved line unclosed cause)
    then_moved line unclosed entries (Ok (next, None)) more = more next
    then_moved line unclosed entries (Ok (next, Some rr)) more = ap (in_front (moved rr)) (more next)

    -- the records of entries
    records_moved : (context : Context) (entries : List Entry) → records_from context (map (on_lines f) entries) ≡ moved_read (records_from context entries)
    records_moved context [] = refl
    records_moved context (e ∷ es) =
        ap (λ (ws : List Written). then (f e.line) (option_map f e.unclosed) (map (on_lines f) es) (judged context (f e.line) e.indented ws)) (words_moved e.unclosed e.words)
        ∙ ap (then (f e.line) (option_map f e.unclosed) (map (on_lines f) es)) (judged_moved context e.line e.indented (words_of e))
        ∙ then_moved e.line e.unclosed es (judged context e.line e.indented (words_of e)) (λ next. records_moved next es)

    -- the records kept, and the lines that are told of them
    with_all_moved : (kept : List Record) (rrs : List RecordEntry) → with_all kept (map moved rrs) ≡ with_all kept rrs
    with_all_moved kept [] = refl
    with_all_moved kept (rr ∷ rrs) = with_all_moved (with_one kept rr) rrs

    one_line : (b : Bool) (line : ℕ) (o p : Option ℕ) → o ≡ option_map f p → cond b (Some (f line)) o ≡ option_map f (cond b (Some line) p)
    one_line true line o p e = refl
    one_line false line o p e = e

    first_moved : (test : List Record → RecordEntry → Bool) → ((kept : List Record) (rr : RecordEntry) → test kept (moved rr) ≡ test kept rr) → (kept : List Record) (rrs : List RecordEntry) → first_line test kept (map moved rrs) ≡ option_map f (first_line test kept rrs)
    first_moved test same kept [] = refl
    first_moved test same kept (rr ∷ rrs) =
        ap (λ (b : Bool). cond b (Some (f rr.line)) (first_line test (with_one kept rr) (map moved rrs))) (same kept rr)
        ∙ one_line (test kept rr) rr.line _ _ (first_moved test same (with_one kept rr) rrs)

    outside_by : (b : Bool) (line : ℕ) (o p : Option ℕ) → o ≡ option_map f p → cond b o (Some (f line)) ≡ option_map f (cond b p (Some line))
    outside_by true line o p e = e
    outside_by false line o p e = refl

    outside_moved : (apex : List (List ℕ)) (rrs : List RecordEntry) → outside_line apex (map moved rrs) ≡ option_map f (outside_line apex rrs)
    outside_moved apex [] = refl
    outside_moved apex (rr ∷ rrs) = outside_by _ rr.line _ _ (outside_moved apex rrs)

    timed_moved : (rrs : List RecordEntry) (r : Record) → timed (map moved rrs) r ≡ timed rrs r
    timed_moved [] r = refl
    timed_moved (rr ∷ rrs) r = timed_moved rrs (cond (is_of r.owner r.rtype (record_in rr)) (record r { ttl = rr.ttl.0 }) r)

    map_same : (g h : Record → Record) → ((r : Record) → g r ≡ h r) → (rs : List Record) → map g rs ≡ map h rs
    map_same g h same [] = refl
    map_same g h same (r ∷ rs) = ap (λ (s : Record). s ∷ map g rs) (same r) ∙ ap (λ (ss : List Record). h r ∷ ss) (map_same g h same rs)

    zone_records_moved : (rrs : List RecordEntry) → zone_records (map moved rrs) ≡ zone_records rrs
    zone_records_moved rrs =
        ap (λ (kept : List Record). map (λ (r : Record). in_lower (timed (map moved rrs) r)) kept) (with_all_moved [] rrs)
        ∙ map_same (λ (r : Record). in_lower (timed (map moved rrs) r)) (λ (r : Record). in_lower (timed rrs r)) (λ r. ap in_lower (timed_moved rrs r)) (with_all [] rrs)

    abbrev Zone : Type 0
    Zone = Result (List Record) FileFault

    told_moved : (cause : Cause) (o p : Option ℕ) (next other : Zone) → p ≡ option_map f o → other ≡ on_fault (on_line f) next → reported cause p other ≡ on_fault (on_line f) (reported cause o next)
    told_moved cause o p next other e h = ap (λ (q : Option ℕ). reported cause q other) e ∙ ap (reported cause (option_map f o)) h ∙ by o
      where
        by : (q : Option ℕ) → reported cause (option_map f q) (on_fault (on_line f) next) ≡ on_fault (on_line f) (reported cause q next)
        by None = refl
        by (Some line) = refl

    whole_moved : (b : Bool) (next other : Zone) → other ≡ on_fault (on_line f) next → told_whole b other ≡ on_fault (on_line f) (told_whole b next)
    whole_moved true next other h = ap (λ (line : ℕ). Err (record { line = line; cause = Apex })) (sym zero)
    whole_moved false next other h = h

    abbrev zone_by : List Record → Option ℕ → Option ℕ → Option ℕ → Zone → Zone
    zone_by kept second outside conflict zone =
        reported Apex second (told_whole (length (soa_of kept) == 0) (told_whole (length (rrset_of kept (apex_of kept) type_NS) == 0) (reported Outside outside (reported Conflict conflict zone))))

    zone_moved : (rrs : List RecordEntry) → zone_of_all (map moved rrs) ≡ on_fault (on_line f) (zone_of_all rrs)
    zone_moved rrs =
        let kept = with_all [] rrs in
        ap (λ (k : List Record). zone_by k (first_line is_second_soa [] (map moved rrs)) (outside_line (apex_of k) (map moved rrs)) (first_line is_conflict [] (map moved rrs)) (Ok (zone_records (map moved rrs)))) (with_all_moved [] rrs)
        ∙ told_moved Apex _ _ _ _ (first_moved is_second_soa (λ k rr. refl) [] rrs)
        (whole_moved (length (soa_of kept) == 0) _ _
        (whole_moved (length (rrset_of kept (apex_of kept) type_NS) == 0) _ _
        (told_moved Outside _ _ _ _ (outside_moved (apex_of kept) rrs)
        (told_moved Conflict _ _ _ _ (first_moved is_conflict (λ k rr. refl) [] rrs) (ap Ok (zone_records_moved rrs))))))

    abbrev after_limit : List RecordEntry → Option FileFault → Zone
    after_limit rrs fault = elim fault as (λ _. Zone) [ Some reported ↦ Err reported | None ↦ zone_of_all rrs ]

    after_moved : (rrs : List RecordEntry) (fault : Option FileFault) → after_limit (map moved rrs) (option_map (on_line f) fault) ≡ on_fault (on_line f) (after_limit rrs fault)
    after_moved rrs None = zone_moved rrs
    after_moved rrs (Some fault) = refl

    read_zone_moved : (read : Read) → zone_of_read (moved_read read) ≡ on_fault (on_line f) (zone_of_read read)
    read_zone_moved read = told_moved Limit _ _ _ _ (first_moved is_too_many (λ k rr. refl) [] read.rrs) (after_moved read.rrs read.fault)

    -- the zone of entries that are the same but for their lines
    pub zone-lines : (context : Context) (entries : List Entry) → zone_of_read (records_from context (map (on_lines f) entries)) ≡ on_fault (on_line f) (zone_of_read (records_from context entries))
    zone-lines context entries = ap zone_of_read (records_moved context entries) ∙ read_zone_moved (records_from context entries)

-- no line is line 0, on which no entry shows the fault
pub lowered_zero : (n : ℕ) → lowered n 0 ≡ 0
lowered_zero n = let none : nat_lt n 0 ≡ false = by (nat_lt n 0) refl in rw none refl
  where
    by : (b : Bool) → nat_lt n 0 ≡ b → b ≡ false
    by true e = let less = (Decides-ltb n 0).0 e in absurd (omega arith)
    by false e = refl

abbrev zero_line : ℕ → ℕ
zero_line line = 0

-- of a fault only its cause
cause_only : (r : Result (List Record) FileFault) → on_fault (λ (fault : FileFault). fault.cause) (on_fault (on_line zero_line) r) ≡ on_fault (λ (fault : FileFault). fault.cause) r
cause_only (Ok zone) = refl
cause_only (Err fault) = refl

-- entries that are the same but for their lines are refused for the same cause
pub same_cause : (context : Context) (es fs : List Entry) → map (on_lines zero_line) es ≡ map (on_lines zero_line) fs → on_fault (λ (fault : FileFault). fault.cause) (zone_of_read (records_from context es)) ≡ on_fault (λ (fault : FileFault). fault.cause) (zone_of_read (records_from context fs))
same_cause context es fs e =
    sym (cause_only (zone_of_read (records_from context es)))
    ∙ ap (on_fault (λ (fault : FileFault). fault.cause)) (sym (zone-lines zero_line refl context es) ∙ ap (λ (gs : List Entry). zone_of_read (records_from context gs)) e ∙ zone-lines zero_line refl context fs)
    ∙ cause_only (zone_of_read (records_from context fs))
