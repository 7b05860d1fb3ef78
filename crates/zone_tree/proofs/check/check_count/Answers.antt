-- One more set is counted.
use Rattle.std.proofs.Common.{arith, ◌+◌, ◌<◌, length, subst, refl}
use Rattle.std.proofs.lemmas.List.Elements.{All-more}
use Rattle.zone_tree.specs.Sets.{IsRRset, records_in}
use Rattle.zone_tree.proofs.FaultLemmas.{none_at_first}
use Rattle.zone_tree.proofs.CheckLemmas.{length-records_more, length-records_upto}
use Rattle.zone_tree.proofs.check.check_count.Goals as goal

pub returns-then-left-len-clause-fault : goal.returns-then-left-len-clause-fault
returns-then-left-len-clause-fault c =
    let more = length-records_more c.args.sets.now c.loop-set.set-index c.set-item.result (omega arith) c.set-item.is in
    let whole = length-records_upto c.args.sets.now (c.loop-set.set-index + 1) in
    let sets = c.args.sets.now in
    let many : 1000000 < length (records_in sets) = omega (arith, more, whole) in
    (refl, record { broken = many; first = none_at_first sets })

pub loop-set-preserved : goal.loop-set-preserved
loop-set-preserved c =
    let within : c.loop-set.set-index < length c.args.sets.now = c.loop-set-test.true in
    let more = length-records_more c.args.sets.now c.loop-set.set-index c.set-item.result within c.set-item.is in
    record {
      counted = omega (arith, more);
      each = All-more IsRRset c.args.sets.now c.loop-set.set-index c.set-item.result within c.loop-set.invariant.each (subst IsRRset c.set-item.is c.len_of-len.ensures.lawful);
    }
