use Rattle.std.proofs.Common.{◌≡◌, map, take}
use Rattle.notify.specs.Notified.{untold}
use Rattle.notify.proofs.notifier.Notifier.new.Given as goal

abbrev pub invariant-loop-address : goal.invariant-loop-address
invariant-loop-address l = l.secondaries.items ≡ map untold (take l.address-index l.addresses)
