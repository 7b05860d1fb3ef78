use Rattle.std.proofs.Common.{◌+◌, ◌<◌, length, arith}
use Rattle.zone_tree.proofs.CheckLemmas.{length-records_more, length-records_upto}
use Rattle.stored_changes.proofs.walk.count_in.Goals as goal

pub overflow_add-count : goal.overflow_add-count
overflow_add-count c =
    let sets = c.args.sets.now in
    let within : c.loop-set.set-index < length sets = c.loop-set-test.true in
    let more = length-records_more sets c.loop-set.set-index c.set-item.result within c.set-item.is in
    let whole = length-records_upto sets (c.loop-set.set-index + 1) in
    let few = c.requires in
    let counted = c.loop-set.invariant in
    let len = c.len_of-count.ensures in
    omega (arith, more, whole, few, counted, len)

pub loop-set-preserved : goal.loop-set-preserved
loop-set-preserved c =
    let within : c.loop-set.set-index < length c.args.sets.now = c.loop-set-test.true in
    let more = length-records_more c.args.sets.now c.loop-set.set-index c.set-item.result within c.set-item.is in
    let counted = c.loop-set.invariant in
    let len = c.len_of-count.ensures in
    omega (arith, more, counted, len)
