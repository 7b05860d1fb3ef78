use Rattle.std.proofs.Common.{filter, flat_map}
use Rattle.master_file.specs.WrittenZone.{record_line, is_other}
use Rattle.master_file.proofs.ZoneTextLemmas.{other_lines}
use Rattle.commands.proofs.LinesLemmas.{IsWritten}
use Rattle.commands.proofs.check.put_others.Given as goal

-- all lines are written but those of the sets that are left
abbrev pub invariant-loop-set : goal.invariant-loop-set
invariant-loop-set g l = IsWritten (g.W.Write.contents l.initial.writer) (g.W.Write.contents l.writer) (flat_map record_line (filter is_other l.zone)) (other_lines l.set-iterator)
