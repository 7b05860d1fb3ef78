use Rattle.std.proofs.Common.{◌≡◌, ◌++◌, drop, take}
use Rattle.master_file.proofs.faulty.first_of.Given as goal

abbrev pub invariant-loop-kept : goal.invariant-loop-kept
invariant-loop-kept l = l.first.items ++ drop l.kept-index l.kept-items ≡ take l.fn.count l.fn.records
