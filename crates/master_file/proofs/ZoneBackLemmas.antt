-- What is written of a zone is read as its records.
use Rattle.std.proofs.Common.{◌≡◌, ℕ, ◌+◌, ◌≤◌, length, Bool, false, cond, List, [], ◌∷◌, map, codes, decimal, Option, Some, None, Result, Ok, Err, All, refl, sym, ap, ◌∙◌}
use Rattle.std.proofs.lemmas.List.Elements.{All-head, All-tail}
use Rattle.dns_name.specs.Name.{fold_name}
use Rattle.dns_name.specs.Text.{text_of}
use Rattle.dns_rdata.specs.Record.{Record, IsLawful}
use Rattle.record_text.specs.declared.cause.Cause.{Cause}
use Rattle.master_file.specs.declared.context.Context.{Context}
use Rattle.master_file.specs.declared.record_entry.RecordEntry.{RecordEntry}
use Rattle.record_text.specs.Data.{data_of_words}
use Rattle.zone_lexing.specs.Entries.{Entry}
use Rattle.record_text.specs.Front.{Front}
use Rattle.master_file.specs.Records.{directive_of, directed, owned_of, ttl_in, rr_of, record_of, behind, judged, fault_at, records_from, Read, faulty, in_front}
use Rattle.zone_lexing.specs.Spelling.{one_a_line}
use Rattle.record_text.specs.Text.{words_of}
use Rattle.zone_lexing.specs.Word.{Written}
use Rattle.record_text.specs.Reading.{on_ok, and_then}
use Rattle.zone_lexing.specs.Word.Written.{Plain}
use Rattle.record_text.specs.Mnemonics.{type_word}
use Rattle.master_file.specs.WrittenZone.{line_words, rr_at, rrs_from}
use Rattle.record_text.proofs.FrontLemmas.{not_directive, owner_is, front_is, type_is}
use Rattle.record_text.proofs.FormLemmas.{data_back}

-- a record's line
abbrev rest_of : Record → List Written
rest_of r = Plain (decimal r.ttl) ∷ Plain (codes "IN") ∷ Plain (type_word r.rtype) ∷ words_of r.rtype r.rdata

owned_is : (context : Context) (r : Record) → IsLawful r → owned_of context false (line_words r) ≡ Ok (r.owner, rest_of r)
owned_is context r h =
    ap (on_ok (λ (owner : List (List ℕ)). (fold_name owner, rest_of r))) (owner_is r.owner context.origin h.name h.owner_octets)
    ∙ ap (λ (owner : List (List ℕ)). Ok (owner, rest_of r)) (sym h.folded)

placed_is : (context : Context) (line : ℕ) (r : Record) → IsLawful r → length r.rdata ≤ 4096 → rr_of context line r.owner (rest_of r) ≡ Ok (rr_at line r)
placed_is context line r h short =
    ap (λ (f : Result Front Cause). and_then f (λ front. and_then (ttl_in context front.ttl) (λ ttl.
    on_ok (λ octets. record { line = line; owner = r.owner; ttl = ttl; rdata = record { rtype = front.rtype; octets = octets } })
    (data_of_words front.rtype context.origin front.words))))
    (front_is r.ttl r.rtype (type_word r.rtype) (words_of r.rtype r.rdata) h.lasts (type_is r.rtype r.rdata h.form))
    ∙ ap (on_ok (λ (octets : List ℕ). record { line = line; owner = r.owner; ttl = record { 0 = r.ttl }; rdata = record { rtype = r.rtype; octets = octets } }))
    (data_back r.rtype r.rdata context.origin h.form short h.octets)

record_is : (context : Context) (line : ℕ) (r : Record) → IsLawful r → length r.rdata ≤ 4096 → record_of context line false (line_words r) ≡ Ok (rr_at line r)
record_is context line r h short =
    ap (λ (o : Result (List (List ℕ) × List Written) Cause). and_then o (λ owned. rr_of context line owned.0 owned.1)) (owned_is context r h) ∙ placed_is context line r h short

abbrev by_directive : Context → Result RecordEntry Cause → Option (List ℕ × List Written) → Result (Context × Option RecordEntry) Cause
by_directive context rr directive = elim directive [
  | Some d ↦ on_ok (λ (next : Context). (next, None)) (directed context d.0 d.1)
  | None ↦ on_ok (λ (p : RecordEntry). (behind context p, Some p)) rr
]

no_directive : (r : Record) → directive_of false (line_words r) ≡ None
no_directive r = ap (λ (b : Bool). cond b (Some (text_of r.owner, rest_of r)) None) (not_directive r.owner)

pub record_judged : (context : Context) (line : ℕ) (r : Record) → IsLawful r → length r.rdata ≤ 4096 → judged context line false (line_words r) ≡ Ok (behind context (rr_at line r), Some (rr_at line r))
record_judged context line r h short =
    ap (by_directive context (record_of context line false (line_words r))) (no_directive r)
    ∙ ap (on_ok (λ (rr : RecordEntry). (behind context rr, Some rr))) (record_is context line r h short)

-- the records of lines
abbrev then : ℕ → List Entry → Result (Context × Option RecordEntry) Cause → Read
then line entries r = elim r [
  | Err cause ↦ faulty (fault_at line None cause)
  | Ok (next, None) ↦ records_from next entries
  | Ok (next, Some rr) ↦ in_front rr (records_from next entries)
]

pub records_are : (context : Context) (line : ℕ) (rs : List Record) → All IsLawful rs → All (λ r. length r.rdata ≤ 4096) rs → records_from context (one_a_line line (map line_words rs)) ≡ record { rrs = rrs_from line rs; fault = None }
records_are context line [] h short = refl
records_are context line (r ∷ rs) h short =
    ap (then line (one_a_line (line + 1) (map line_words rs))) (record_judged context line r (All-head IsLawful r rs h) (All-head (λ (s : Record). length s.rdata ≤ 4096) r rs short))
    ∙ ap (in_front (rr_at line r)) (records_are (behind context (rr_at line r)) (line + 1) rs (All-tail IsLawful r rs h) (All-tail (λ (s : Record). length s.rdata ≤ 4096) r rs short))
