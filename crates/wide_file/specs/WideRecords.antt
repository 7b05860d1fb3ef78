-- A zone file as records in order, up to its first fault, by the words of any type and with units of times (RFC 1035, 5.1; RFC 2308, 4).
use Rattle.std.specs.Prelude.{◌≡◌, ◌<◌, ◌^◌, ℕ, Bool, true, false, ◌&&◌, ◌==◌, nat_lt, List, [], ◌∷◌, codes, if◌then◌else◌, Option, Some, None, IfSome, Result, Ok, Err, ok_or}
use Rattle.std.specs.Option.{option_or}
use Rattle.dns_name.specs.Name.{Name, fold_name}
use Rattle.dns_rdata.specs.Data.{minimum_of}
use Rattle.dns_rdata.specs.Numbers.{type_SOA}
use Rattle.dns_rdata.specs.declared.numbers.Ttl.{Ttl}
use Rattle.master_file.specs.Records.{argument_of, directive_of, fault_at, words_of}
use Rattle.master_file.specs.declared.fault.FileFault.{FileFault}
use Rattle.master_file.specs.declared.record_entry.RecordEntry.{RecordEntry}
use Rattle.record_text.specs.Front.{Front}
use Rattle.record_text.specs.Mnemonics.{is_word}
use Rattle.record_text.specs.NameWord.{owner_of}
use Rattle.record_text.specs.Reading.{on_ok, and_then}
use Rattle.record_text.specs.declared.cause.Cause.{Cause}
use Rattle.record_text.specs.declared.cause.Cause.TheVariants.{Directive, BadData, NoTtl, NoOwner}
use Rattle.record_text.specs.declared.cause.Cause.TheVariants.{Unclosed as no_word}
use Rattle.wide_file.specs.declared.context.Context.{Context}
use Rattle.wide_file.specs.declared.record_entry.IncludeEntry.{IncludeEntry}
use Rattle.wide_file.specs.declared.record_entry.WideEntry.{WideEntry}
use Rattle.wide_file.specs.declared.record_entry.WideEntry.TheVariants as entry
use Rattle.wide_text.specs.Data.{wide_data}
use Rattle.wide_text.specs.Front.{wide_front}
use Rattle.wide_text.specs.Signing.{left_out}
use Rattle.wide_text.specs.Times.{ttl_of}
use Rattle.zone_lexing.specs.Entries.{Entry, entries_of}
use Rattle.zone_lexing.specs.Word.{Written}
use Rattle.zone_lexing.specs.Word.Written.{Plain, Quoted, Unclosed}

-- what is in force after a directive, whose word may be in any case: `$ORIGIN` has a name, relative to the origin before it, and `$TTL` a TTL,
-- which may have units (RFC 1035, 5.1; RFC 2308, 4)
unfoldable pub directed : Context → List ℕ → List Written → Result Context Cause
directed context directive arguments =
    if is_word directive (codes "$ORIGIN") then on_ok (λ name. record context { origin = name }) (argument_of (owner_of context.origin) arguments)
    else if is_word directive (codes "$TTL") then on_ok (λ ttl. record context { default_ttl = Some ttl }) (argument_of ttl_of arguments)
    else Err Directive

-- the path that a word is, outside quotes or between two: its octets as they are written (own)
abbrev pub path_of : Written → Result (List ℕ) Cause
path_of (Plain octets) = Ok octets
path_of (Quoted octets) = Ok octets
path_of Unclosed = Err no_word

-- the origin that stands after a path, else the one in force
abbrev pub origin_after : Name → List Written → Result Name Cause
origin_after origin [] = Ok origin
origin_after origin (word ∷ words) = argument_of (owner_of origin) (word ∷ words)

-- the file that `$INCLUDE` names, and what is in force where it begins: its names are under its own origin, where there is one (RFC 1035, 5.1)
abbrev pub include_of : Context → ℕ → List Written → Result IncludeEntry Cause
include_of context line [] = Err Directive
include_of context line (word ∷ words) =
    and_then (path_of word) (λ path. on_ok (λ origin. record { line = line; path = path; context = record context { origin = origin } }) (origin_after context.origin words))

-- what is in force after a directive, and the file where it includes one
unfoldable pub obeyed : Context → ℕ → List ℕ → List Written → Result (Context × Option WideEntry) Cause
obeyed context line directive arguments =
    if is_word directive (codes "$INCLUDE") then on_ok (λ own. (context, Some (entry.Include own))) (include_of context line arguments)
    else on_ok (λ next. (next, None)) (directed context directive arguments)

-- the owner of a record, and the words after it: a line that begins with a blank takes the owner of the record before
-- (RFC 1035, 5.1). Owners are in lower case
abbrev pub owned_of : Context → Bool → List Written → Result (Name × List Written) Cause
owned_of context true words = on_ok (λ owner. (owner, words)) (ok_or context.owner NoOwner)
owned_of context false [] = Err BadData
owned_of context false (word ∷ words) = on_ok (λ owner. (fold_name owner, words)) (owner_of context.origin word)

-- the TTL that an SOA's MINIMUM is, at most 2^31 - 1; none of another type (RFC 2308, 4)
abbrev pub minimum_ttl : ℕ → List ℕ → Option Ttl
minimum_ttl rtype octets = if rtype == type_SOA && nat_lt (minimum_of octets) (2 ^ 31) then Some (record { 0 = minimum_of octets }) else None

-- the TTL of a record: its own, else that of `$TTL`, else that of the record before, else an SOA's MINIMUM (RFC 2308, 4; RFC 1035, 5.1; own)
abbrev pub ttl_in : Context → Option Ttl → ℕ → List ℕ → Result Ttl Cause
ttl_in context own rtype octets = ok_or (option_or own (option_or context.default_ttl (option_or context.ttl (minimum_ttl rtype octets)))) NoTtl

-- the record of an owner, by what stands before its data, and its data
abbrev pub rr_of : Context → ℕ → Name → Front → Result RecordEntry Cause
rr_of context line owner front =
    and_then (wide_data front.rtype context.origin front.words) (λ octets.
    on_ok (λ ttl. record { line = line; owner = owner; ttl = ttl; rdata = record { rtype = front.rtype; octets = octets } })
    (ttl_in context front.ttl front.rtype octets))

-- the entry of an owner, by what stands before its data: a record that signers make is left out, its data not read (own)
abbrev pub entry_with : Context → ℕ → Name → Front → Result WideEntry Cause
entry_with context line owner front =
    and_then (left_out front.rtype front.words) (λ left.
    if left then Ok (entry.LeftOut (record { line = line; owner = owner; ttl = front.ttl }))
    else on_ok entry.Record (rr_of context line owner front))

-- the entry that words stand for; whether its line begins with a blank
abbrev pub entry_of : Context → ℕ → Bool → List Written → Result WideEntry Cause
entry_of context line indented words =
    and_then (owned_of context indented words) (λ owned. and_then (wide_front owned.1) (λ front. entry_with context line owned.0 front))

-- what is in force after a record, and after a file that is included: what was before it; one that is left out has an owner too, and a TTL where one is written
abbrev pub after_entry : Context → WideEntry → Context
after_entry context (entry.Record rr) = record context { owner = Some rr.owner; ttl = Some rr.ttl }
after_entry context (entry.LeftOut left) = record context { owner = Some left.owner; ttl = option_or left.ttl context.ttl }
after_entry context (entry.Include own) = context

-- what is in force after an entry, and the entry where it is a record or includes a file
abbrev pub judged : Context → ℕ → Bool → List Written → Result (Context × Option WideEntry) Cause
judged context line indented words = elim (directive_of indented words) [
  | Some directive ↦ obeyed context line directive.0 directive.1
  | None ↦ on_ok (λ own. (after_entry context own, Some own)) (entry_of context line indented words)
]

-- what is read of a zone file: its records and the files that it includes, in order, up to its first fault, and that fault
pub record WideRead : Type 0 where
  pub entries : List WideEntry
  pub fault : Option FileFault

-- what is read where nothing is left, and where the first that is left is a fault
abbrev pub nothing : WideRead
nothing = record { entries = []; fault = None }

abbrev pub faulty : FileFault → WideRead
faulty fault = record { entries = []; fault = Some fault }

-- one entry before what is read
abbrev pub in_front : WideEntry → WideRead → WideRead
in_front own rest = record { entries = own ∷ rest.entries; fault = rest.fault }

-- what is read of entries, in order, up to the first fault
abbrev pub records_from : Context → List Entry → WideRead
records_from context [] = nothing
records_from context (entry ∷ entries) = elim (judged context entry.line entry.indented (words_of entry)) [
  | Err cause ↦ faulty (fault_at entry.line entry.unclosed cause)
  | Ok (next, None) ↦ records_from next entries
  | Ok (next, Some own) ↦ in_front own (records_from next entries)
]

-- what is in force where a text begins
abbrev pub start : Name → Context
start origin = record { origin = origin; default_ttl = None; owner = None; ttl = None }

-- what is read of a text, where this is in force at its start
abbrev pub records_in : Context → List ℕ → WideRead
records_in context text = records_from context (entries_of text)

-- what is read of a zone file
abbrev pub wide_records : Name → List ℕ → WideRead
wide_records origin text = records_in (start origin) text

-- the owner in force is in lower case (RFC 4343, 3), and the TTLs last at most 2^31 - 1 seconds (RFC 2181, 8)
pub record IsInForce (context : Context) : Type 0 where
  pub owner : IfSome context.owner (λ owner. owner ≡ fold_name owner)
  pub default_ttl : IfSome context.default_ttl (λ ttl. ttl.0 < 2 ^ 31)
  pub ttl : IfSome context.ttl (λ ttl. ttl.0 < 2 ^ 31)

-- an owner is in lower case, and a TTL lasts at most 2^31 - 1 seconds; so it is with what is in force where a file begins
abbrev pub IsLawful : WideEntry → Type 0
IsLawful (entry.Include own) = IsInForce own.context
IsLawful (entry.Record rr) = (rr.owner ≡ fold_name rr.owner) × (rr.ttl.0 < 2 ^ 31)
IsLawful (entry.LeftOut left) = (left.owner ≡ fold_name left.owner) × IfSome left.ttl (λ ttl. ttl.0 < 2 ^ 31)
