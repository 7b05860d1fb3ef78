use Rattle.std.proofs.Common.{◌≡◌, true}
use Rattle.std.specs.List.{AllWithin}
use Rattle.notify.specs.Copies.{is_due}
use Rattle.notify.proofs.notifier.first_due.Given as goal

abbrev pub invariant-loop-index : goal.invariant-loop-index
invariant-loop-index l = AllWithin (λ other. is_due l.time l.number other ≡ true → ⊥) l.secondaries 0 l.index
