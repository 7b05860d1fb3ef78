use Rattle.std.proofs.Common.{◌≡◌, map, drop}
use Rattle.notify.specs.Copies.{due_in, sooner, soonest}
use Rattle.notify.proofs.notifier.soonest_due.Given as goal

abbrev pub invariant-loop-secondary : goal.invariant-loop-secondary
invariant-loop-secondary l =
    sooner l.found (soonest (map (due_in l.time l.number) (drop l.secondary-index l.secondaries)))
    ≡ soonest (map (due_in l.time l.number) l.secondaries)
