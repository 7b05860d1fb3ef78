use Rattle.std.specs.List.{AllWithin}
use Rattle.notify.specs.Turns.{IsAnsweredBy}
use Rattle.notify.proofs.notifier.first_answering.Given as goal

abbrev pub invariant-loop-index : goal.invariant-loop-index
invariant-loop-index l = AllWithin (λ other. IsAnsweredBy l.apex l.from l.octets other → ⊥) l.secondaries 0 l.index
