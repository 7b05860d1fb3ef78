use Rattle.std.proofs.Common.{◌≡◌, ◌+◌, length}
use Rattle.wide_file.specs.Included.{included_to, read_to, text_at}
use Rattle.wide_file.specs.Private.{AreOfZone, put_whole}
use Rattle.wide_file.proofs.SpellLemmas.{left}
use Rattle.wide_file.proofs.spelling.+spelling.Given as goal

-- an entry that includes a file is a step above it
abbrev pub decreases-spell_file : goal.decreases-spell_file
decreases-spell_file l = l.depth + l.depth + 1

abbrev pub decreases-spell_entry : goal.decreases-spell_entry
decreases-spell_entry l = l.depth + l.depth

abbrev pub invariant-spell_file-loop-records : goal.invariant-spell_file-loop-records
invariant-spell_file-loop-records l = record {
  read : put_whole l.plain (left (included_to l.depth (text_at l.files) l.file) l.file l.records)
      ≡ put_whole l.fn.plain (read_to l.depth (text_at l.files) l.file l.fn.context l.text);
  lawful : AreOfZone (left (included_to l.depth (text_at l.files) l.file) l.file l.records).entries
      → AreOfZone (read_to l.depth (text_at l.files) l.file l.fn.context l.text).entries;
}

abbrev pub decreases-spell_file-loop-records : goal.decreases-spell_file-loop-records
decreases-spell_file-loop-records l = length l.records.entries
