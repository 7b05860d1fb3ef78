use Rattle.std.proofs.Common.{◌≡◌, drop}
use Rattle.wide_file.specs.PlainText.{part_at}
use Rattle.wide_file.proofs.plain.part_at.Given as goal

abbrev pub invariant-loop-part : goal.invariant-loop-part
invariant-loop-part l = part_at l.last (drop l.part-index l.parts) l.line ≡ part_at l.found l.parts l.line
