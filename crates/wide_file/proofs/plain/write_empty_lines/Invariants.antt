use Rattle.std.proofs.Common.{◌≡◌, ◌++◌, string_bytes}
use Rattle.wide_file.specs.PlainText.{empty_lines}
use Rattle.wide_file.proofs.plain.write_empty_lines.Given as goal

abbrev pub invariant-loop-left : goal.invariant-loop-left
invariant-loop-left l = string_bytes l.text ++ empty_lines l.left ≡ string_bytes l.initial.text ++ empty_lines l.count

abbrev pub decreases-loop-left : goal.decreases-loop-left
decreases-loop-left l = l.left
