-- A zone file with the files that it includes as plain text, each record on a line of its own.
use Rattle.std.specs.Prelude.{ℕ, suc, zero, ◌+◌, ◌-◌, Bool, ◌&&◌, nat_le, nat_lt, List, [], ◌∷◌, ◌++◌, bytes_eq, if◌then◌else◌, Option, Some, None}
use Rattle.std.specs.Option.{option_or}
use Rattle.master_file.specs.WrittenZone.{record_line}
use Rattle.master_file.specs.ZoneText.{record_in}
use Rattle.master_file.specs.declared.record_entry.RecordEntry.{RecordEntry}
use Rattle.wide_file.specs.Included.{Placed}
use Rattle.wide_file.specs.declared.part.Part.{Part}
use Rattle.wide_file.specs.declared.part.Place.{Place}
use Rattle.wide_file.specs.declared.record_entry.WideEntry.{WideEntry}
use Rattle.wide_file.specs.declared.record_entry.WideEntry.TheVariants as entry

-- so many empty lines
abbrev pub empty_lines : ℕ → List ℕ
empty_lines zero = []
empty_lines (suc n) = 10 ∷ empty_lines n

-- a plain text: how many lines it has; the part of a file that its last line is of, and the parts before that; how many records are left out, and where
-- the first of them is
pub record Spelled : Type 0 where
  pub text : List ℕ
  pub line : ℕ
  pub part : Part
  pub parts : List Part
  pub left_out : ℕ
  pub first_left_out : Option Place

-- where nothing is written: the text's lines are the zone file's
abbrev pub unwritten : Spelled
unwritten = record { text = []; line = 0; part = record { at = 0; file = []; from = 0 }; parts = []; left_out = 0; first_left_out = None }

-- the line of the text for a line of a part's file
abbrev pub line_in : Part → ℕ → ℕ
line_in part line = part.at + (line - part.from)

-- whether a record on this line of a file may stand in a part, after so many lines of the text
abbrev pub goes_on : Part → ℕ → List ℕ → ℕ → Bool
goes_on part lines file line = bytes_eq part.file file && (nat_le part.from line && nat_lt lines (line_in part line))

-- the part that begins with a record on this line of a file, below so many lines of the text
abbrev pub part_from : ℕ → List ℕ → ℕ → Part
part_from lines file line = record { at = lines + 1; file = file; from = line }

-- a text before a record on this line of a file: a part begins where the last one doesn't go on
abbrev pub turned : Spelled → List ℕ → ℕ → Spelled
turned plain file line =
    if goes_on plain.part plain.line file line then plain
    else record plain { part = part_from plain.line file line; parts = plain.parts ++ plain.part ∷ [] }

-- the line that this record has
abbrev pub line_for : Spelled → List ℕ → ℕ → ℕ
line_for plain file line = line_in (turned plain file line).part line

-- a text with a record on this line of it, in its last part
abbrev pub on_line : Spelled → ℕ → RecordEntry → Spelled
on_line plain line rr = record plain { text = plain.text ++ (empty_lines (line - plain.line - 1) ++ record_line (record_in rr)); line = line }

-- a text with one entry more: a record's line, or one more record left out
abbrev pub put : Spelled → List ℕ → WideEntry → Spelled
put plain file (entry.Record rr) = on_line (turned plain file rr.line) (line_for plain file rr.line) rr
put plain file (entry.LeftOut left) =
    record plain { left_out = plain.left_out + 1; first_left_out = option_or plain.first_left_out (Some (record { file = file; line = left.line })) }
put plain file (entry.Include own) = plain

abbrev pub put_all : Spelled → List Placed → Spelled
put_all plain [] = plain
put_all plain (placed ∷ entries) = put_all (put plain placed.file placed.own) entries

-- the records of entries, each on its line of the text
abbrev pub at_line : ℕ → RecordEntry → RecordEntry
at_line line rr = record rr { line = line }

abbrev pub laid_one : Spelled → List ℕ → WideEntry → List RecordEntry
laid_one plain file (entry.Record rr) = at_line (line_for plain file rr.line) rr ∷ []
laid_one plain file (entry.LeftOut left) = []
laid_one plain file (entry.Include own) = []

abbrev pub laid : Spelled → List Placed → List RecordEntry
laid plain [] = []
laid plain (placed ∷ entries) = laid_one plain placed.file placed.own ++ laid (put plain placed.file placed.own) entries

-- of these parts the last that begins at this line of the text or above; the one where there is none is given
abbrev pub part_at : Part → List Part → ℕ → Part
part_at found [] line = found
part_at found (part ∷ parts) line = if nat_le part.at line then part_at part parts line else part_at found parts line

-- the file and the line of it for a line of the text
abbrev pub place_in : Part → ℕ → Place
place_in part line = record { file = part.file; line = part.from + (line - part.at) }

abbrev pub place_of : Spelled → ℕ → Place
place_of plain line = place_in (if nat_le plain.part.at line then plain.part else part_at plain.part plain.parts line) line
