-- No fault of a text is want of memory.
use Rattle.std.proofs.Common.{◌≡◌, ◌≢◌, subst, ℕ, Bool, true, false, cond, bytes_eq, ◌==◌, List, [], ◌∷◌, length, codes, Option, Some, None, Result, Ok, Err, ok_or}
use Rattle.std.specs.Prelude.{IfSome}
use Rattle.std.specs.Option.{option_or}
use Rattle.dns_name.specs.Name.{fold_name}
use Rattle.dns_rdata.specs.declared.numbers.Ttl.{Ttl}
use Rattle.dns_rdata.specs.Numbers.{type_NS}
use Rattle.dns_rdata.specs.Record.{Record}
use Rattle.zone_tree.specs.Zone.{rrset_of, soa_of, apex_of}
use Rattle.zone_lexing.specs.Entries.{Entry, entries_of}
use Rattle.zone_lexing.specs.Word.{Written}
use Rattle.record_text.specs.declared.cause.Cause.{Cause}
use Rattle.record_text.specs.declared.cause.Cause.TheVariants.{Directive, NoTtl, NoOwner, Outside, Apex, Conflict, Limit, NoMemory}
use Rattle.record_text.specs.Data.{data_of_words}
use Rattle.record_text.specs.Front.{Front, ttl_of, front_of}
use Rattle.record_text.specs.NameWord.{owner_of}
use Rattle.record_text.specs.Reading.{on_ok, and_then}
use Rattle.record_text.proofs.OwnLemmas.{IsOwnCause, TellsOwn, own_or, on_own, then_own, cond_own, owner_own, surplus_own, data_own, ttl_own, front_own}
use Rattle.master_file.specs.declared.context.Context.{Context}
use Rattle.master_file.specs.declared.fault.FileFault.{FileFault}
use Rattle.master_file.specs.declared.record_entry.RecordEntry.{RecordEntry}
use Rattle.master_file.specs.ZoneText.{with_all, first_line, is_too_many, is_second_soa, is_conflict, outside_line, reported, told_whole, zone_of_all, zone_of_read, zone_of_text, zone_records}
use Rattle.master_file.specs.Records.{alone, argument_of, directed, directive_of, owned_of, ttl_in, rr_of, record_of, behind, judged, words_of, fault_at, Read, faulty, in_front, records_from, start, records_of}

alone_own : {A : Type 0} (x : A) (words : List Written) → TellsOwn (alone x words)
alone_own x [] = tt
alone_own x (word ∷ words) = surplus_own word

argument_own : {A : Type 0} (read : Written → Result A Cause) (words : List Written) → ((word : Written) → TellsOwn (read word)) → TellsOwn (argument_of read words)
argument_own read [] h = tt
argument_own read (word ∷ words) h = then_own (read word) (λ x. alone x words) (h word) (λ x. alone_own x words)

directed_own : (context : Context) (directive : List ℕ) (arguments : List Written) → TellsOwn (directed context directive arguments)
unfolding directed
directed_own context directive arguments =
    cond_own (bytes_eq directive (codes "$ORIGIN")) (on_ok (λ name. record context { origin = name }) (argument_of (owner_of context.origin) arguments)) (cond (bytes_eq directive (codes "$TTL")) (on_ok (λ ttl. record context { default_ttl = Some ttl }) (argument_of ttl_of arguments)) (Err Directive))
    (on_own (λ (name : List (List ℕ)). record context { origin = name }) (argument_of (owner_of context.origin) arguments) (argument_own (owner_of context.origin) arguments (owner_own context.origin)))
    (cond_own (bytes_eq directive (codes "$TTL")) (on_ok (λ ttl. record context { default_ttl = Some ttl }) (argument_of ttl_of arguments)) (Err Directive)
    (on_own (λ (ttl : Ttl). record context { default_ttl = Some ttl }) (argument_of ttl_of arguments) (argument_own ttl_of arguments ttl_own)) tt)

owned_own : (context : Context) (indented : Bool) (words : List Written) → TellsOwn (owned_of context indented words)
owned_own context true words = on_own (λ (owner : List (List ℕ)). (owner, words)) (ok_or context.owner NoOwner) (own_or context.owner NoOwner tt)
owned_own context false [] = tt
owned_own context false (word ∷ words) = on_own (λ (owner : List (List ℕ)). (fold_name owner, words)) (owner_of context.origin word) (owner_own context.origin word)

placed_own : (context : Context) (line : ℕ) (owner : List (List ℕ)) (words : List Written) → TellsOwn (rr_of context line owner words)
placed_own context line owner words =
    then_own (front_of words) (λ (front : Front). and_then (ttl_in context front.ttl) (λ ttl. on_ok (λ octets. record { line = line; owner = owner; ttl = ttl; rdata = record { rtype = front.rtype; octets = octets } }) (data_of_words front.rtype context.origin front.words))) (front_own words) (λ front.
    then_own (ttl_in context front.ttl) (λ ttl. on_ok (λ octets. record { line = line; owner = owner; ttl = ttl; rdata = record { rtype = front.rtype; octets = octets } }) (data_of_words front.rtype context.origin front.words)) (own_or (option_or front.ttl (option_or context.default_ttl context.ttl)) NoTtl tt) (λ ttl.
    on_own (λ (octets : List ℕ). record { line = line; owner = owner; ttl = ttl; rdata = record { rtype = front.rtype; octets = octets } }) (data_of_words front.rtype context.origin front.words) (data_own front.rtype context.origin front.words)))

record_own : (context : Context) (line : ℕ) (indented : Bool) (words : List Written) → TellsOwn (record_of context line indented words)
record_own context line indented words = then_own (owned_of context indented words) (λ owned. rr_of context line owned.0 owned.1) (owned_own context indented words) (λ owned. placed_own context line owned.0 owned.1)

entry_by : (context : Context) (d : Option (List ℕ × List Written)) (r : Result RecordEntry Cause) → TellsOwn r → TellsOwn (elim d as (λ _. Result (Context × Option RecordEntry) Cause) [
  | Some directive ↦ on_ok (λ next. (next, None)) (directed context directive.0 directive.1)
  | None ↦ on_ok (λ rr. (behind context rr, Some rr)) r
])
entry_by context None r h = on_own (λ (rr : RecordEntry). (behind context rr, Some rr)) r h
entry_by context (Some directive) r h = on_own (λ (next : Context). (next, None)) (directed context directive.0 directive.1) (directed_own context directive.0 directive.1)

judged_own : (context : Context) (line : ℕ) (indented : Bool) (words : List Written) → TellsOwn (judged context line indented words)
judged_own context line indented words = entry_by context (directive_of indented words) (record_of context line indented words) (record_own context line indented words)

abbrev IsOwnFault : Read → Type 0
IsOwnFault read = IfSome read.fault (λ fault. IsOwnCause fault.cause)

then_own_fault : (line : ℕ) (unclosed : Option ℕ) (entries : List Entry) (r : Result (Context × Option RecordEntry) Cause) → TellsOwn r → ((next : Context) → IsOwnFault (records_from next entries)) → IsOwnFault (elim r as (λ _. Read) [
  | Err cause ↦ faulty (fault_at line unclosed cause)
  | Ok (next, None) ↦ records_from next entries
  | Ok (next, Some rr) ↦ in_front rr (records_from next entries)
])
then_own_fault line unclosed entries (Err cause) h k = h
then_own_fault line unclosed entries (Ok (next, None)) h k = k next
then_own_fault line unclosed entries (Ok (next, Some rr)) h k = k next

from_own : (context : Context) (entries : List Entry) → IsOwnFault (records_from context entries)
from_own context [] = tt
from_own context (entry ∷ entries) = then_own_fault entry.line entry.unclosed entries (judged context entry.line entry.indented (words_of entry)) (judged_own context entry.line entry.indented (words_of entry)) (λ next. from_own next entries)

-- a zone or a fault of the text's own
abbrev TellsOwnFault : Result (List Record) FileFault → Type 0
TellsOwnFault (Ok zone) = Unit {0}
TellsOwnFault (Err fault) = IsOwnCause fault.cause

told_own : (c : Cause) (o : Option ℕ) (next : Result (List Record) FileFault) → IsOwnCause c → TellsOwnFault next → TellsOwnFault (reported c o next)
told_own c None next h k = k
told_own c (Some line) next h k = h

whole_own : (b : Bool) (next : Result (List Record) FileFault) → TellsOwnFault next → TellsOwnFault (told_whole b next)
whole_own true next h = tt
whole_own false next h = h

all_own : (ps : List RecordEntry) → TellsOwnFault (zone_of_all ps)
all_own ps =
    let kept = with_all [] ps in
    let apex = apex_of kept in
    let fifth = reported Conflict (first_line is_conflict [] ps) (Ok (zone_records ps)) in
    let fourth = reported Outside (outside_line apex ps) fifth in
    let third = told_whole (length (rrset_of kept apex type_NS) == 0) fourth in
    told_own Apex (first_line is_second_soa [] ps) (told_whole (length (soa_of kept) == 0) third) tt
    (whole_own (length (soa_of kept) == 0) third
    (whole_own (length (rrset_of kept apex type_NS) == 0) fourth
    (told_own Outside (outside_line apex ps) fifth tt
    (told_own Conflict (first_line is_conflict [] ps) (Ok (zone_records ps)) tt tt))))

fault_own : (fault : Option FileFault) (ps : List RecordEntry) → IfSome fault (λ f. IsOwnCause f.cause) → TellsOwnFault (elim fault as (λ _. Result (List Record) FileFault) [ Some f ↦ Err f | None ↦ zone_of_all ps ])
fault_own None ps h = all_own ps
fault_own (Some f) ps h = h

read_own : (read : Read) → IsOwnFault read → TellsOwnFault (zone_of_read read)
read_own read h = told_own Limit (first_line is_too_many [] read.rrs) (elim read.fault as (λ _. Result (List Record) FileFault) [ Some f ↦ Err f | None ↦ zone_of_all read.rrs ]) tt (fault_own read.fault read.rrs h)

no_want : (c : Cause) → c ≡ NoMemory → IsOwnCause c → ⊥
no_want c e h = subst IsOwnCause e h

-- the fault of a text is no want of memory
pub text_own : (origin : List (List ℕ)) (text : List ℕ) (fault : FileFault) → zone_of_text origin text ≡ Err fault → fault.cause ≢ NoMemory
text_own origin text fault e = λ want. no_want fault.cause want (subst TellsOwnFault e (read_own (records_of origin text) (from_own (start origin) (entries_of text))))
