use Rattle.std.proofs.Common.{◌≤◌, ◌==◌, length, arith}
use Rattle.dns_rdata.specs.Numbers.{class_IN}
use Rattle.update_core.proofs.OrderedLemmas.{few_kept}
use Rattle.update_core.proofs.ordered.gather.Goals as goal

-- there is room: the list has no more than were seen
pub push-requires : goal.push-requires
push-requires c =
    let few : length c.loop-raw.list.items ≤ c.loop-raw.raw-index = rw c.loop-raw.invariant (few_kept (λ r. r.class == class_IN) c.args.raws.now c.loop-raw.raw-index (omega arith)) in
    (omega arith, omega (arith, few, c.requires.few))
