use Rattle.std.proofs.Common.{◌≡◌, drop}
use Rattle.master_file.specs.ZoneText.{outside_line}
use Rattle.master_file.proofs.faulty.first_outside.Given as goal

abbrev pub invariant-loop-kept : goal.invariant-loop-kept
invariant-loop-kept l = outside_line l.fn.apex (drop l.kept-index l.fn.records) ≡ outside_line l.fn.apex l.fn.records
