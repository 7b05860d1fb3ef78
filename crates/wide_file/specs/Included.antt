-- A zone file with the files that it includes, in order (RFC 1035, 5.1).
use Rattle.std.specs.Prelude.{ℕ, zero, suc, List, [], ◌∷◌, ◌++◌, bytes_eq, if◌then◌else◌, Option, Some, None, option_map}
use Rattle.std.specs.Option.{option_and_then}
use Rattle.dns_name.specs.Name.{Name}
use Rattle.wide_file.specs.declared.context.Context.{Context}
use Rattle.master_file.specs.declared.fault.FileFault.{FileFault}
use Rattle.wide_file.specs.Fault.{at_file, not_included}
use Rattle.wide_file.specs.Mark.{after_mark}
use Rattle.wide_file.specs.Paths.{resolved}
use Rattle.wide_file.specs.WideRecords.{records_in, start}
use Rattle.wide_file.specs.declared.included.IncludedFile.{IncludedFile}
use Rattle.wide_file.specs.declared.record_entry.IncludeEntry.{IncludeEntry}
use Rattle.wide_file.specs.declared.record_entry.WideEntry.{WideEntry}
use Rattle.wide_file.specs.declared.record_entry.WideEntry.TheVariants as entry
use Rattle.wide_file.specs.declared.wide_fault.WideFault.{WideFault}

-- the texts of files, by their paths from the zone file's directory on
abbrev pub Files : Type 0
Files = List ℕ → Option (List ℕ)

-- those of files in a list: of those with a path the first
abbrev pub text_at : List IncludedFile → List ℕ → Option (List ℕ)
text_at [] path = None
text_at (file ∷ files) path = if bytes_eq file.path path then Some file.text.items else text_at files path

-- how many files at most stand between the zone file and a record, with the record's own (own)
unfoldable pub max_depth : ℕ
max_depth = 20

-- a record, or one that is left out, and its file
pub record Placed : Type 0 where
  pub file : List ℕ
  pub own : WideEntry

-- what is read of files: the records in order, up to the first fault, and that fault
pub record Whole : Type 0 where
  pub entries : List Placed
  pub fault : Option WideFault

-- what is read where the first thing is a fault
abbrev pub refused : WideFault → Whole
refused fault = record { entries = []; fault = Some fault }

-- what is read first, and then, where that has no fault
abbrev pub then_read : Whole → Whole → Whole
then_read first rest = elim first.fault [
  | Some fault ↦ first
  | None ↦ record { entries = first.entries ++ rest.entries; fault = rest.fault }
]

-- one record
abbrev pub one : List ℕ → WideEntry → Whole
one file own = record { entries = record { file = file; own = own } ∷ []; fault = None }

-- what is read of an entry of a file: its record, or what is read of the file that it includes
abbrev pub entry_read : (IncludeEntry → Whole) → List ℕ → WideEntry → Whole
entry_read included file (entry.Record rr) = one file (entry.Record rr)
entry_read included file (entry.LeftOut left) = one file (entry.LeftOut left)
entry_read included file (entry.Include own) = included own

-- what is read of a file's entries, and then its fault
abbrev pub entries_read : (IncludeEntry → Whole) → List ℕ → Option FileFault → List WideEntry → Whole
entries_read included file fault [] = record { entries = []; fault = option_map (at_file file) fault }
entries_read included file fault (own ∷ entries) = then_read (entry_read included file own) (entries_read included file fault entries)

-- the file that a path names in a file, by its own path, and its text
abbrev pub found_in : Files → List ℕ → List ℕ → Option (List ℕ × List ℕ)
found_in files file path = option_and_then (λ name. option_map (λ text. (name, text)) (files name)) (resolved file path)

-- what is read of a file that is included in a file, with what is in force there; a fault where there is none
abbrev pub included_by : (List ℕ → Context → List ℕ → Whole) → Files → List ℕ → IncludeEntry → Whole
included_by read files file own = elim (found_in files file own.path) [
  | Some found ↦ read found.0 own.context (after_mark found.1)
  | None ↦ refused (not_included file own.line)
]

-- what is read of a file with those that it includes, by their paths, at most so many deep
abbrev pub included_to : ℕ → Files → List ℕ → IncludeEntry → Whole
included_to zero files file own = refused (not_included file own.line)
included_to (suc depth) files file own =
    included_by (λ name context text. entries_read (included_to depth files name) name (records_in context text).fault (records_in context text).entries) files file own

-- what is read of a file of this path: an included one leaves what is in force as it was (RFC 1035, 5.1)
abbrev pub read_to : ℕ → Files → List ℕ → Context → List ℕ → Whole
read_to depth files file context text = entries_read (included_to depth files file) file (records_in context text).fault (records_in context text).entries

-- what is read of a zone file with the files that it includes
abbrev pub whole_of : Files → Name → List ℕ → Whole
whole_of files origin text = read_to max_depth files [] (start origin) text
