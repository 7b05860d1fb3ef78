-- The records of a file stand on lines below each other.
use Rattle.std.proofs.Common.{◌≡◌, ℕ, ◌+◌, ◌<◌, ◌≤◌, Bool, true, false, cond, List, [], ◌∷◌, codes, Option, Some, None, MatchOption, Result, Ok, Err, refl, sym, subst, arith}
use Rattle.dns_rdata.specs.declared.numbers.Ttl.{Ttl}
use Rattle.record_text.specs.Front.{Front}
use Rattle.record_text.specs.Mnemonics.{is_word}
use Rattle.record_text.specs.Reading.{on_ok, and_then}
use Rattle.record_text.specs.declared.cause.Cause.{Cause}
use Rattle.zone_lexing.specs.Entries.{Entry}
use Rattle.zone_lexing.specs.Order.{AreInOrder}
use Rattle.zone_lexing.specs.Word.{Written}
use Rattle.master_file.specs.Records.{directive_of, fault_at, words_of}
use Rattle.master_file.specs.declared.record_entry.RecordEntry.{RecordEntry}
use Rattle.wide_text.specs.Data.{wide_data}
use Rattle.wide_text.specs.Front.{wide_front}
use Rattle.wide_text.specs.Signing.{left_out}
use Rattle.wide_file.specs.WideRecords.{WideRead, after_entry, directed, entry_of, entry_with, faulty, in_front, include_of, judged, obeyed, owned_of, records_from, rr_of, ttl_in}
use Rattle.wide_file.specs.declared.context.Context.{Context}
use Rattle.wide_file.specs.declared.record_entry.IncludeEntry.{IncludeEntry}
use Rattle.wide_file.specs.declared.record_entry.WideEntry.{WideEntry}
use Rattle.wide_file.specs.declared.record_entry.WideEntry.TheVariants as entry
use Rattle.wide_file.proofs.TextBackLemmas.{AreBelow}

-- the records among entries
abbrev pub kept : List WideEntry → List RecordEntry
kept [] = []
kept (entry.Record rr ∷ entries) = rr ∷ kept entries
kept (entry.LeftOut left ∷ entries) = kept entries
kept (entry.Include own ∷ entries) = kept entries

-- the records of a file stand below each other
abbrev IsAt : ℕ → WideEntry → Type 0
IsAt line (entry.Record rr) = rr.line ≡ line
IsAt line (entry.LeftOut left) = Unit {0}
IsAt line (entry.Include own) = Unit {0}

abbrev GivesAt : ℕ → Result WideEntry Cause → Type 0
GivesAt line (Ok own) = IsAt line own
GivesAt line (Err cause) = Unit {0}

abbrev GivesRecordAt : ℕ → Result RecordEntry Cause → Type 0
GivesRecordAt line (Ok rr) = rr.line ≡ line
GivesRecordAt line (Err cause) = Unit {0}

then_record : {A : Type 0} (line : ℕ) (r : Result A Cause) (h : A → Result RecordEntry Cause) → ((x : A) → GivesRecordAt line (h x)) → GivesRecordAt line (and_then r h)
then_record line (Ok x) h k = k x
then_record line (Err cause) h k = tt

on_record : {A : Type 0} (line : ℕ) (g : A → RecordEntry) (r : Result A Cause) → ((x : A) → (g x).line ≡ line) → GivesRecordAt line (on_ok g r)
on_record line g (Ok x) k = k x
on_record line g (Err cause) k = tt

then_at : {A : Type 0} (line : ℕ) (r : Result A Cause) (h : A → Result WideEntry Cause) → ((x : A) → GivesAt line (h x)) → GivesAt line (and_then r h)
then_at line (Ok x) h k = k x
then_at line (Err cause) h k = tt

as_record : (line : ℕ) (r : Result RecordEntry Cause) → GivesRecordAt line r → GivesAt line (on_ok (λ (rr : RecordEntry). entry.Record rr) r)
as_record line (Ok rr) h = h
as_record line (Err cause) h = tt

either_at : (line : ℕ) (b : Bool) (r s : Result WideEntry Cause) → GivesAt line r → GivesAt line s → GivesAt line (cond b r s)
either_at line true r s h k = h
either_at line false r s h k = k

rr_at_line : (context : Context) (line : ℕ) (owner : List (List ℕ)) (front : Front) → GivesRecordAt line (rr_of context line owner front)
rr_at_line context line owner front =
    then_record line (wide_data front.rtype context.origin front.words) _ (λ (octets : List ℕ).
    on_record line (λ (ttl : Ttl). record { line = line; owner = owner; ttl = ttl; rdata = record { rtype = front.rtype; octets = octets } }) (ttl_in context front.ttl front.rtype octets) (λ ttl. refl))

with_at : (context : Context) (line : ℕ) (owner : List (List ℕ)) (front : Front) → GivesAt line (entry_with context line owner front)
with_at context line owner front =
    then_at line (left_out front.rtype front.words) _ (λ (left : Bool).
    either_at line left (Ok (entry.LeftOut (record { line = line; owner = owner; ttl = front.ttl }))) (on_ok (λ (rr : RecordEntry). entry.Record rr) (rr_of context line owner front)) tt
    (as_record line (rr_of context line owner front) (rr_at_line context line owner front)))

own_at : (context : Context) (line : ℕ) (indented : Bool) (words : List Written) → GivesAt line (entry_of context line indented words)
own_at context line indented words =
    then_at line (owned_of context indented words) _ (λ (owned : List (List ℕ) × List Written). then_at line (wide_front owned.1) _ (λ (front : Front). with_at context line owned.0 front))

abbrev GivesEntryAt : ℕ → Result (Context × Option WideEntry) Cause → Type 0
GivesEntryAt line (Ok (next, None)) = Unit {0}
GivesEntryAt line (Ok (next, Some own)) = IsAt line own
GivesEntryAt line (Err cause) = Unit {0}

in_force_at : (line : ℕ) (r : Result Context Cause) → GivesEntryAt line (on_ok (λ (next : Context). (next, None)) r)
in_force_at line (Ok context) = tt
in_force_at line (Err cause) = tt

included_at : (context : Context) (line : ℕ) (r : Result IncludeEntry Cause) → GivesEntryAt line (on_ok (λ (own : IncludeEntry). (context, Some (entry.Include own))) r)
included_at context line (Ok own) = tt
included_at context line (Err cause) = tt

obeyed_by : (context : Context) (line : ℕ) (directive : List ℕ) (arguments : List Written) (b : Bool) → GivesEntryAt line (cond b (on_ok (λ (own : IncludeEntry). (context, Some (entry.Include own))) (include_of context line arguments)) (on_ok (λ (next : Context). (next, None)) (directed context directive arguments)))
obeyed_by context line directive arguments true = included_at context line (include_of context line arguments)
obeyed_by context line directive arguments false = in_force_at line (directed context directive arguments)

obeyed_at : (context : Context) (line : ℕ) (directive : List ℕ) (arguments : List Written) → GivesEntryAt line (obeyed context line directive arguments)
unfolding obeyed
obeyed_at context line directive arguments = obeyed_by context line directive arguments (is_word directive (codes "$INCLUDE"))

passed_at : (context : Context) (line : ℕ) (r : Result WideEntry Cause) → GivesAt line r → GivesEntryAt line (on_ok (λ (own : WideEntry). (after_entry context own, Some own)) r)
passed_at context line (Ok own) h = h
passed_at context line (Err cause) h = tt

entry_at : (context : Context) (line : ℕ) (d : Option (List ℕ × List Written)) (r : Result WideEntry Cause) → GivesAt line r → GivesEntryAt line (elim d as (λ _. Result (Context × Option WideEntry) Cause) [
  | Some directive ↦ obeyed context line directive.0 directive.1
  | None ↦ on_ok (λ own. (after_entry context own, Some own)) r
])
entry_at context line None r h = passed_at context line r h
entry_at context line (Some directive) r h = obeyed_at context line directive.0 directive.1

still_below : (line more : ℕ) (rrs : List RecordEntry) → line ≤ more → AreBelow more rrs → AreBelow line rrs
still_below line more [] h k = tt
still_below line more (rr ∷ rrs) h k = let below = k.0 in (omega arith, k.1)

rest_in_order : (line : ℕ) (unclosed : Option ℕ) (entries : List Entry) → MatchOption unclosed (AreInOrder (line + 1) entries) (λ (fault : ℕ). (line ≤ fault) × (entries ≡ [])) → AreInOrder (line + 1) entries
rest_in_order line None entries h = h
rest_in_order line (Some fault) entries h = subst (λ (es : List Entry). AreInOrder (line + 1) es) (sym h.1) tt

-- what the first entry makes of those after it
abbrev pub wide_then : ℕ → Option ℕ → List Entry → Result (Context × Option WideEntry) Cause → WideRead
wide_then line unclosed entries r = elim r [
  | Err cause ↦ faulty (fault_at line unclosed cause)
  | Ok (next, None) ↦ records_from next entries
  | Ok (next, Some own) ↦ in_front own (records_from next entries)
]

then_below : (line at : ℕ) (unclosed : Option ℕ) (entries : List Entry) (r : Result (Context × Option WideEntry) Cause) → line < at → GivesEntryAt at r → ((next : Context) → AreBelow at (kept (records_from next entries).entries)) → AreBelow line (kept (wide_then at unclosed entries r).entries)
then_below line at unclosed entries (Err cause) h k more = tt
then_below line at unclosed entries (Ok (next, None)) h k more = still_below line at (kept (records_from next entries).entries) (omega arith) (more next)
then_below line at unclosed entries (Ok (next, Some (entry.LeftOut left))) h k more = still_below line at (kept (records_from next entries).entries) (omega arith) (more next)
then_below line at unclosed entries (Ok (next, Some (entry.Include own))) h k more = still_below line at (kept (records_from next entries).entries) (omega arith) (more next)
then_below line at unclosed entries (Ok (next, Some (entry.Record rr))) h k more =
    let same : rr.line ≡ at = k in
    (omega arith, subst (λ (m : ℕ). AreBelow m (kept (records_from next entries).entries)) (sym same) (more next))

pub records_below : (context : Context) (line : ℕ) (entries : List Entry) → AreInOrder (line + 1) entries → AreBelow line (kept (records_from context entries).entries)
records_below context line [] h = tt
records_below context line (first ∷ entries) h =
    let from = h.0.below in
    then_below line first.line first.unclosed entries (judged context first.line first.indented (words_of first)) (omega arith)
    (entry_at context first.line (directive_of first.indented (words_of first)) (entry_of context first.line first.indented (words_of first)) (own_at context first.line first.indented (words_of first)))
    (λ next. records_below next first.line entries (rest_in_order first.line first.unclosed entries h.1))
