-- A zone's text as records in order, up to its first fault (RFC 1035, 5.1; RFC 2308, 4).
use Rattle.std.specs.Prelude.{◌≡◌, ◌<◌, ◌^◌, ℕ, Bool, true, false, List, [], ◌∷◌, ◌++◌, codes, bytes_eq, if◌then◌else◌, Option, Some, None, unwrap_or, IfSome, Result, Ok, Err, ok_or}
use Rattle.std.specs.Option.{option_or}
use Rattle.dns_name.specs.Name.{Name, fold_name}
use Rattle.dns_rdata.specs.declared.numbers.Ttl.{Ttl}
use Rattle.record_text.specs.declared.cause.Cause.{Cause}
use Rattle.record_text.specs.declared.cause.Cause.TheVariants.{Directive, BadData, Unclosed, NoTtl, NoOwner, NoMemory}
use Rattle.master_file.specs.declared.fault.FileFault.{FileFault}
use Rattle.master_file.specs.declared.context.Context.{Context}
use Rattle.master_file.specs.declared.record_entry.RecordEntry.{RecordEntry}
use Rattle.zone_lexing.specs.declared.entry.EntryHead.{EntryHead}
use Rattle.record_text.specs.Data.{data_of_words, surplus_of}
use Rattle.zone_lexing.specs.Entries.{Entry, entries_of}
use Rattle.record_text.specs.Front.{ttl_of, front_of}
use Rattle.zone_lexing.specs.Items.{begins_with}
use Rattle.record_text.specs.NameWord.{owner_of}
use Rattle.zone_lexing.specs.Word.{Written}
use Rattle.record_text.specs.Reading.{on_ok, and_then}
use Rattle.zone_lexing.specs.Word.Written.{Plain}
use Rattle.zone_lexing.specs.Word.Written.{Unclosed as no_word}

-- what is read of an argument, where no word stands after it
abbrev pub alone : {A : Type 0} → A → List Written → Result A Cause
alone x [] = Ok x
alone x (word ∷ words) = Err (surplus_of word)

-- what a directive's one argument is; a missing one is a fault of the directive
abbrev pub argument_of : {A : Type 0} → (Written → Result A Cause) → List Written → Result A Cause
argument_of read [] = Err Directive
argument_of read (word ∷ words) = and_then (read word) (λ x. alone x words)

-- what is in force after a directive: `$ORIGIN` has a name, relative to the origin before it, and `$TTL` a TTL; both are
-- read in upper case alone (RFC 1035, 5.1; RFC 2308, 4; own)
unfoldable pub directed : Context → List ℕ → List Written → Result Context Cause
directed context directive arguments =
    if bytes_eq directive (codes "$ORIGIN") then on_ok (λ name. record context { origin = name }) (argument_of (owner_of context.origin) arguments)
    else if bytes_eq directive (codes "$TTL") then on_ok (λ ttl. record context { default_ttl = Some ttl }) (argument_of ttl_of arguments)
    else Err Directive

-- the directive that an entry's words begin with, and its arguments: a word outside quotes that begins with `$`, on a
-- line that begins with no blank (RFC 1035, 5.1)
abbrev pub directive_of : Bool → List Written → Option (List ℕ × List Written)
directive_of true words = None
directive_of false (Plain text ∷ words) = if begins_with 36 text then Some (text, words) else None
directive_of false words = None

-- the owner of a record, and the words after it: a line that begins with a blank takes the owner of the record before
-- (RFC 1035, 5.1). Owners are in lower case
abbrev pub owned_of : Context → Bool → List Written → Result (Name × List Written) Cause
owned_of context true words = on_ok (λ owner. (owner, words)) (ok_or context.owner NoOwner)
owned_of context false [] = Err BadData
owned_of context false (word ∷ words) = on_ok (λ owner. (fold_name owner, words)) (owner_of context.origin word)

-- the TTL of a record: its own, else that of `$TTL`, else that of the record before (RFC 2308, 4; RFC 1035, 5.1)
abbrev pub ttl_in : Context → Option Ttl → Result Ttl Cause
ttl_in context own = ok_or (option_or own (option_or context.default_ttl context.ttl)) NoTtl

-- the record of an owner that words stand for: TTL, class and type, then its data
abbrev pub rr_of : Context → ℕ → Name → List Written → Result RecordEntry Cause
rr_of context line owner words =
    and_then (front_of words) (λ front. and_then (ttl_in context front.ttl) (λ ttl.
    on_ok (λ octets. record { line = line; owner = owner; ttl = ttl; rdata = record { rtype = front.rtype; octets = octets } })
    (data_of_words front.rtype context.origin front.words)))

-- the record that an entry's words stand for; whether its line begins with a blank
abbrev pub record_of : Context → ℕ → Bool → List Written → Result RecordEntry Cause
record_of context line indented words = and_then (owned_of context indented words) (λ owned. rr_of context line owned.0 owned.1)

-- what is in force after a record
abbrev pub behind : Context → RecordEntry → Context
behind context rr = record context { owner = Some rr.owner; ttl = Some rr.ttl }

-- what is in force after an entry, and its record where it has one
abbrev pub judged : Context → ℕ → Bool → List Written → Result (Context × Option RecordEntry) Cause
judged context line indented words = elim (directive_of indented words) [
  | Some directive ↦ on_ok (λ next. (next, None)) (directed context directive.0 directive.1)
  | None ↦ on_ok (λ rr. (behind context rr, Some rr)) (record_of context line indented words)
]

-- the words of an entry; a quote or a parenthesis without its other one stands after them
abbrev pub words_of : Entry → List Written
words_of entry = elim entry.unclosed [ None ↦ entry.words | Some line ↦ entry.words ++ no_word ∷ [] ]

-- the line of a fault of an entry: its own, that of a quote or a parenthesis without its other one where that is the
-- fault, and none for want of memory, which is no fault of the entry
abbrev pub fault_line : ℕ → Option ℕ → Cause → ℕ
fault_line line unclosed Unclosed = unwrap_or unclosed line
fault_line line unclosed NoMemory = 0
fault_line line unclosed cause = line

-- a fault of an entry, by its line and that of a quote or a parenthesis without its other one
abbrev pub fault_at : ℕ → Option ℕ → Cause → FileFault
fault_at line unclosed cause = record { line = fault_line line unclosed cause; cause = cause }

-- what is read of a text: its records in order, up to its first fault, and that fault
pub record Read : Type 0 where
  pub rrs : List RecordEntry
  pub fault : Option FileFault

-- what is read where nothing is left, and where the first that is left is a fault
abbrev pub nothing : Read
nothing = record { rrs = []; fault = None }

abbrev pub faulty : FileFault → Read
faulty fault = record { rrs = []; fault = Some fault }

-- one record before what is read
abbrev pub in_front : RecordEntry → Read → Read
in_front rr rest = record { rrs = rr ∷ rest.rrs; fault = rest.fault }

-- the records of entries, in order, up to the first fault
abbrev pub records_from : Context → List Entry → Read
records_from context [] = nothing
records_from context (entry ∷ entries) = elim (judged context entry.line entry.indented (words_of entry)) [
  | Err cause ↦ faulty (fault_at entry.line entry.unclosed cause)
  | Ok (next, None) ↦ records_from next entries
  | Ok (next, Some rr) ↦ in_front rr (records_from next entries)
]

-- what is in force where a text begins
abbrev pub start : Name → Context
start origin = record { origin = origin; default_ttl = None; owner = None; ttl = None }

-- the records of a zone's text, in order, up to its first fault (RFC 1035, 5.1)
abbrev pub records_of : Name → List ℕ → Read
records_of origin text = records_from (start origin) (entries_of text)

-- an entry stands before the others, with these words
pub record IsFirst (before after : List Entry) (head : EntryHead) (words : List Written) : Type 0 where
  pub entry : Entry
  pub first : before ≡ entry ∷ after
  pub line : entry.line ≡ head.line
  pub indented : entry.indented ≡ head.indented
  pub unclosed : entry.unclosed ≡ head.unclosed
  pub all : words ≡ words_of entry

-- the owner in force is in lower case (RFC 4343, 3), and the TTLs last at most 2^31 - 1 seconds (RFC 2181, 8)
pub record IsInForce (context : Context) : Type 0 where
  pub owner : IfSome context.owner (λ owner. owner ≡ fold_name owner)
  pub default_ttl : IfSome context.default_ttl (λ ttl. ttl.0 < 2 ^ 31)
  pub ttl : IfSome context.ttl (λ ttl. ttl.0 < 2 ^ 31)
