-- What is written of files, entry after entry.
use Rattle.std.proofs.Common.{◌≡◌, ℕ, suc, ◌+◌, ◌<◌, ◌⊎◌, inl, inr, List, [], ◌∷◌, ◌++◌, Option, Some, None, option_map, Result, Err, refl, sym, ap, subst, ◌∙◌, arith}
use Rattle.dns_name.specs.Name.{Name}
use Rattle.dns_rdata.specs.Record.{Record}
use Rattle.master_file.specs.Fault as file
use Rattle.master_file.specs.Records.{Read, records_of}
use Rattle.master_file.specs.ZoneText.{zone_of_read, zone_of_text}
use Rattle.master_file.specs.declared.fault.FileFault.{FileFault}
use Rattle.wide_file.specs.Fault.{at_file, no_memory, not_included}
use Rattle.wide_file.specs.Included.{Files, Placed, Whole, entries_read, entry_read, found_in, included_to, max_depth, read_to, refused, then_read, whole_of}
use Rattle.wide_file.specs.Mark.{after_mark}
use Rattle.wide_file.specs.PlainText.{Spelled, put, put_all, unwritten}
use Rattle.wide_file.specs.Private.{AreOfZone, put_whole}
use Rattle.wide_file.specs.WideRecords.{WideRead, in_front, nothing, start}
use Rattle.wide_file.specs.WideZone.{fault_in, laid_read, placed_fault, zone_of_whole}
use Rattle.wide_file.specs.declared.context.Context.{Context}
use Rattle.wide_file.specs.declared.record_entry.IncludeEntry.{IncludeEntry}
use Rattle.wide_file.specs.declared.record_entry.WideEntry.{WideEntry}
use Rattle.wide_file.specs.declared.wide_fault.WideFault.{WideFault}

put_both : (plain : Spelled) (first rest : List Placed) → put_all plain (first ++ rest) ≡ put_all (put_all plain first) rest
put_both plain [] rest = refl
put_both plain (placed ∷ first) rest = put_both (put plain placed.file placed.own) first rest

both_of_zone : (first rest : List Placed) → AreOfZone first → AreOfZone rest → AreOfZone (first ++ rest)
both_of_zone [] rest h k = k
both_of_zone (placed ∷ first) rest h k = (h.0, both_of_zone first rest h.1 k)

-- what is read after what has no fault
then_by : (plain : Spelled) (entries : List Placed) (fault : Option WideFault) (rest : Whole) → fault ≡ None → put_whole plain (then_read (record { entries = entries; fault = fault }) rest) ≡ put_whole (put_all plain entries) rest
then_by plain entries None rest e = ap (λ (p : Spelled). (p, rest.fault)) (put_both plain entries rest.entries)
then_by plain entries (Some fault) rest e = cc

pub then_put : (plain next : Spelled) (first rest : Whole) → put_whole plain first ≡ (next, None) → put_whole plain (then_read first rest) ≡ put_whole next rest
then_put plain next first rest e =
    then_by plain first.entries first.fault rest (ap (λ (p : Spelled × Option WideFault). p.1) e)
    ∙ ap (λ (p : Spelled × Option WideFault). put_whole p.0 rest) e

lawful_by : (entries : List Placed) (fault : Option WideFault) (rest : Whole) → fault ≡ None → AreOfZone entries → AreOfZone rest.entries → AreOfZone (then_read (record { entries = entries; fault = fault }) rest).entries
lawful_by entries None rest e h k = both_of_zone entries rest.entries h k
lawful_by entries (Some fault) rest e h k = cc

pub then_of_zone : (plain next : Spelled) (first rest : Whole) → put_whole plain first ≡ (next, None) → AreOfZone first.entries → AreOfZone rest.entries → AreOfZone (then_read first rest).entries
then_of_zone plain next first rest e h k = lawful_by first.entries first.fault rest (ap (λ (p : Spelled × Option WideFault). p.1) e) h k

-- the first fault is that of the whole
fault_by : (entries : List Placed) (told : Option WideFault) (rest : Whole) (fault : WideFault) → told ≡ Some fault → (then_read (record { entries = entries; fault = told }) rest).fault ≡ Some fault
fault_by entries None rest fault e = cc
fault_by entries (Some own) rest fault e = e

pub then_fault : (first rest : Whole) (fault : WideFault) → first.fault ≡ Some fault → (then_read first rest).fault ≡ Some fault
then_fault first rest fault e = fault_by first.entries first.fault rest fault e

-- what is left to be read of a file
abbrev pub left : (IncludeEntry → Whole) → List ℕ → WideRead → Whole
left included file records = entries_read included file records.fault records.entries

pub step_read : (included : IncludeEntry → Whole) (file : List ℕ) (own : WideEntry) (before after : WideRead) (plain next : Spelled) → before ≡ in_front own after
    → put_whole plain (entry_read included file own) ≡ (next, None) → put_whole plain (left included file before) ≡ put_whole next (left included file after)
step_read included file own before after plain next e h =
    ap (λ (r : WideRead). put_whole plain (left included file r)) e ∙ then_put plain next (entry_read included file own) (left included file after) h

pub step_of_zone : (included : IncludeEntry → Whole) (file : List ℕ) (own : WideEntry) (before after : WideRead) (plain next : Spelled) → before ≡ in_front own after
    → put_whole plain (entry_read included file own) ≡ (next, None) → AreOfZone (entry_read included file own).entries → AreOfZone (left included file after).entries → AreOfZone (left included file before).entries
step_of_zone included file own before after plain next e h first rest =
    subst (λ (r : WideRead). AreOfZone (left included file r).entries) (sym e)
    (then_of_zone plain next (entry_read included file own) (left included file after) h first rest)

pub end_read : (included : IncludeEntry → Whole) (file : List ℕ) (records : WideRead) (plain : Spelled) → records ≡ nothing → put_whole plain (left included file records) ≡ (plain, None)
end_read included file records plain e = ap (λ (r : WideRead). put_whole plain (left included file r)) e

pub end_of_zone : (included : IncludeEntry → Whole) (file : List ℕ) (records : WideRead) → records ≡ nothing → AreOfZone (left included file records).entries
end_of_zone included file records e = subst (λ (r : WideRead). AreOfZone (left included file r).entries) (sym e) tt

pub fault_next : (included : IncludeEntry → Whole) (file : List ℕ) (records : WideRead) (fault : WideFault) → records.entries ≡ [] → option_map (at_file file) records.fault ≡ Some fault → (left included file records).fault ≡ Some fault
fault_next included file records fault e h = ap (λ (entries : List WideEntry). (entries_read included file records.fault entries).fault) e ∙ h

pub fault_entry : (included : IncludeEntry → Whole) (file : List ℕ) (own : WideEntry) (before after : WideRead) (fault : WideFault) → before ≡ in_front own after → (entry_read included file own).fault ≡ Some fault → (left included file before).fault ≡ Some fault
fault_entry included file own before after fault e h =
    ap (λ (r : WideRead). (left included file r).fault) e ∙ then_fault (entry_read included file own) (left included file after) fault h

pub same_fault : (plain next : Spelled) (first whole : Whole) (fault : WideFault) → put_whole plain first ≡ put_whole next whole → first.fault ≡ Some fault → whole.fault ≡ Some fault
same_fault plain next first whole fault e h = sym (ap (λ (p : Spelled × Option WideFault). p.1) e) ∙ h

-- the file that is included
pub opened : (depth deeper : ℕ) (files : Files) (file : List ℕ) (own : IncludeEntry) (path text : List ℕ) → depth ≡ deeper + 1 → found_in files file own.path ≡ Some (path, text)
    → included_to depth files file own ≡ read_to deeper files path own.context (after_mark text)
opened depth deeper files file own path text e h =
    let is : depth ≡ suc deeper = omega (arith, e) in
    ap (λ (d : ℕ). included_to d files file own) is
    ∙ ap (λ (found : Option (List ℕ × List ℕ)). elim found as (λ _. Whole) [
      | Some pair ↦ read_to deeper files pair.0 own.context (after_mark pair.1)
      | None ↦ refused (not_included file own.line)
    ]) h

pub not_opened : (depth deeper : ℕ) (files : Files) (file : List ℕ) (own : IncludeEntry) → depth ≡ deeper + 1 → found_in files file own.path ≡ None → included_to depth files file own ≡ refused (not_included file own.line)
not_opened depth deeper files file own e h =
    let is : depth ≡ suc deeper = omega (arith, e) in
    ap (λ (d : ℕ). included_to d files file own) is
    ∙ ap (λ (found : Option (List ℕ × List ℕ)). elim found as (λ _. Whole) [
      | Some pair ↦ read_to deeper files pair.0 own.context (after_mark pair.1)
      | None ↦ refused (not_included file own.line)
    ]) h

pub too_deep : (depth : ℕ) (files : Files) (file : List ℕ) (own : IncludeEntry) → depth ≡ 0 → included_to depth files file own ≡ refused (not_included file own.line)
too_deep depth files file own e = ap (λ (d : ℕ). included_to d files file own) e

-- what is read of a zone file, as it begins
pub same_whole : (files : Files) (origin : Name) (text file : List ℕ) (depth : ℕ) (context : Context) → file ≡ [] → depth ≡ max_depth → context ≡ start origin
    → read_to depth files file context text ≡ whole_of files origin text
same_whole files origin text file depth context f d c =
    ap (λ (name : List ℕ). read_to depth files name context text) f
    ∙ ap (λ (n : ℕ). read_to n files [] context text) d
    ∙ ap (λ (begun : Context). read_to max_depth files [] begun text) c

pub whole_put : (before after : Spelled) (read whole : Whole) → before ≡ unwritten → read ≡ whole → put_whole before read ≡ (after, None) → put_whole unwritten whole ≡ (after, None)
whole_put before after read whole b w e = ap (λ (plain : Spelled). put_whole plain whole) (sym b) ∙ ap (put_whole before) (sym w) ∙ e

-- what is told where a file can't be included
pub told_deep : (depth : ℕ) (files : Files) (file : List ℕ) (own : IncludeEntry) (fault : WideFault) → depth < 1 → (fault ≡ no_memory) ⊎ (fault ≡ not_included file own.line)
    → (fault ≡ no_memory) ⊎ ((included_to depth files file own).fault ≡ Some fault)
told_deep depth files file own fault d (inl e) = inl e
told_deep depth files file own fault d (inr e) =
    let none : depth ≡ 0 = omega arith in
    inr (ap (λ (w : Whole). w.fault) (too_deep depth files file own none) ∙ ap Some (sym e))

pub told_none : (depth deeper : ℕ) (files : Files) (file : List ℕ) (own : IncludeEntry) (fault : WideFault) → depth ≡ deeper + 1 → found_in files file own.path ≡ None
    → (fault ≡ no_memory) ⊎ (fault ≡ not_included file own.line) → (fault ≡ no_memory) ⊎ ((included_to depth files file own).fault ≡ Some fault)
told_none depth deeper files file own fault d n (inl e) = inl e
told_none depth deeper files file own fault d n (inr e) = inr (ap (λ (w : Whole). w.fault) (not_opened depth deeper files file own d n) ∙ ap Some (sym e))

-- what is told of a file
pub told_next : (included : IncludeEntry → Whole) (file : List ℕ) (records : WideRead) (plain begun : Spelled) (whole : Whole) (fault : WideFault)
    → put_whole plain (left included file records) ≡ put_whole begun whole → (fault ≡ no_memory) ⊎ ((records.entries ≡ []) × (option_map (at_file file) records.fault ≡ Some fault))
    → (fault ≡ no_memory) ⊎ (whole.fault ≡ Some fault)
told_next included file records plain begun whole fault e (inl none) = inl none
told_next included file records plain begun whole fault e (inr told) = inr (same_fault plain begun (left included file records) whole fault e (fault_next included file records fault told.0 told.1))

pub told_entry : (included : IncludeEntry → Whole) (file : List ℕ) (own : WideEntry) (before after : WideRead) (plain begun : Spelled) (whole : Whole) (fault : WideFault)
    → put_whole plain (left included file before) ≡ put_whole begun whole → before ≡ in_front own after → (fault ≡ no_memory) ⊎ ((entry_read included file own).fault ≡ Some fault)
    → (fault ≡ no_memory) ⊎ (whole.fault ≡ Some fault)
told_entry included file own before after plain begun whole fault e is (inl none) = inl none
told_entry included file own before after plain begun whole fault e is (inr told) =
    inr (same_fault plain begun (left included file before) whole fault e (fault_entry included file own before after fault is told))

-- the fault of a zone, by its line in the plain text
zone_fault : (whole : Whole) (plain : Spelled) (origin : Name) (fault : FileFault) → whole.fault ≡ None → put_all unwritten whole.entries ≡ plain
    → records_of origin plain.text ≡ laid_read whole.entries → zone_of_text origin plain.text ≡ Err fault → zone_of_whole whole ≡ Err (fault_in plain fault)
zone_fault whole plain origin fault none put read e =
    ap (λ (told : Option WideFault). elim told as (λ _. Result (List Record) WideFault) [
      | Some own ↦ Err own
      | None ↦ placed_fault (put_all unwritten whole.entries) (zone_of_read (laid_read whole.entries))
    ]) none
    ∙ ap (λ (own : Read). placed_fault (put_all unwritten whole.entries) (zone_of_read own)) (sym read)
    ∙ ap (placed_fault (put_all unwritten whole.entries)) e
    ∙ ap (λ (own : Spelled). Err (fault_in own fault)) put

pub told_zone : (whole : Whole) (plain : Spelled) (origin : Name) (text : List ℕ) (fault : FileFault) (told : WideFault) → whole.fault ≡ None → put_all unwritten whole.entries ≡ plain
    → ((other : Name) → records_of other plain.text ≡ laid_read whole.entries) → text ≡ plain.text
    → (fault ≡ file.no_memory → told ≡ no_memory) → (told ≡ no_memory) ⊎ (told ≡ fault_in plain fault)
    → (fault ≡ file.no_memory) ⊎ (zone_of_text origin text ≡ Err fault) → (told ≡ no_memory) ⊎ (zone_of_whole whole ≡ Err told)
told_zone whole plain origin text fault told none put read is memory placed (inl e) = inl (memory e)
told_zone whole plain origin text fault told none put read is memory (inl e) (inr z) = inl e
told_zone whole plain origin text fault told none put read is memory (inr e) (inr z) =
    inr (zone_fault whole plain origin fault none put (read origin) (ap (zone_of_text origin) (sym is) ∙ z) ∙ ap (λ (own : WideFault). Err own) (sym e))
