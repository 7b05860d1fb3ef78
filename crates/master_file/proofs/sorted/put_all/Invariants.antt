use Rattle.std.proofs.Common.{◌≡◌, []}
use Rattle.master_file.specs.SetOrder.{sets_with}
use Rattle.master_file.proofs.sorted.put_all.Given as goal

abbrev pub invariant-loop-kept : goal.invariant-loop-kept
invariant-loop-kept l = l.sets.items ≡ sets_with [] l.yielded
