-- The lines of a record, one warning's behind another's; and that a text which is a zone has no fault.
use Rattle.std.proofs.Common.{◌≡◌, ℕ, List, [], ◌∷◌, ◌++◌, Option, None, Some, Result, Ok, Err, refl, sym, ap, ◌∙◌}
use Rattle.std.proofs.lemmas.List.{append_assoc, append-nil}
use Rattle.dns_name.specs.Name.{Name}
use Rattle.dns_rdata.specs.Record.{Record}
use Rattle.record_text.specs.declared.cause.Cause.{Cause}
use Rattle.record_text.specs.declared.cause.Cause.TheVariants.{Limit}
use Rattle.master_file.specs.declared.fault.FileFault.{FileFault}
use Rattle.master_file.specs.Fault.{no_memory}
use Rattle.master_file.specs.Records.{Read, records_of, faulty}
use Rattle.master_file.specs.ZoneText.{reported, first_line, is_too_many, zone_of_all, zone_of_text}

-- six texts, one behind the other
pub six_parts : (text a b c d e f : List ℕ) → (((((text ++ a) ++ b) ++ c) ++ d) ++ e) ++ f ≡ text ++ (a ++ (b ++ (c ++ (d ++ (e ++ (f ++ []))))))
six_parts text a b c d e f =
    append_assoc (((((text ++ a) ++ b) ++ c) ++ d)) e f
    ∙ append_assoc ((((text ++ a) ++ b) ++ c)) d (e ++ f)
    ∙ append_assoc (((text ++ a) ++ b)) c (d ++ (e ++ f))
    ∙ append_assoc ((text ++ a)) b (c ++ (d ++ (e ++ f)))
    ∙ append_assoc text a (b ++ (c ++ (d ++ (e ++ f))))
    ∙ ap (λ (os : List ℕ). text ++ (a ++ (b ++ (c ++ (d ++ (e ++ os)))))) (sym (append-nil f))

-- where a text is a zone, no fault is told of it
told_ok : (line : Option ℕ) (next : Result (List Record) FileFault) (zone : List Record) → reported Limit line next ≡ Ok zone → next ≡ Ok zone
told_ok None next zone e = e
told_ok (Some line) next zone e = cc

fault_none : (fault : Option FileFault) (next : Result (List Record) FileFault) (zone : List Record)
    → ◌≡◌ {A = Result (List Record) FileFault} (elim fault [ Some f ↦ Err f | None ↦ next ]) (Ok zone) → fault ≡ None
fault_none None next zone e = refl
fault_none (Some f) next zone e = cc

pub no_fault : (origin : Name) (text : List ℕ) (zone : List Record) → zone_of_text origin text ≡ Ok zone → (records_of origin text).fault ≡ None
no_fault origin text zone e =
    let read = records_of origin text in
    fault_none read.fault (zone_of_all read.rrs) zone (told_ok (first_line is_too_many [] read.rrs) _ zone e)

-- and none is found
pub never_faulty : (read : Read) (fault : FileFault) → read ≡ faulty fault → read.fault ≡ None → ⊥
never_faulty read fault is none = cc (ap (λ (r : Read). r.fault) is)
