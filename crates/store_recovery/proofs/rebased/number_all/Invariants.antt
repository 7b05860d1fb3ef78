-- The versions so far have their numbers.
use Rattle.std.proofs.Common.{◌≡◌, ◌+◌, ◌++◌, take, drop}
use Rattle.store_recovery.specs.Rebased.{numbered_from}
use Rattle.store_recovery.proofs.rebased.number_all.Given as goal

abbrev pub invariant-loop-version : goal.invariant-loop-version
invariant-loop-version l = record {
  number : l.number ≡ l.version-index + 1;
  items : l.version-items ≡ numbered_from 1 (take l.version-index l.initial.version-items) ++ drop l.version-index l.initial.version-items;
}
