use Rattle.std.proofs.Common.{subst, ◌++◌}
use Rattle.std.specs.Option.{option_copied}
use Rattle.zone_tree.specs.Delta.{DifferOnlyAt}
use Rattle.zone_change.specs.Apart.{records_left}
use Rattle.zone_change.proofs.ApartLemmas.{passed_next}
use Rattle.zone_change.proofs.apart.pass_before.Goals as goal

pub loop-left-preserved : goal.loop-left-preserved
loop-left-preserved c = λ front other h.
    let before = c.loop-left.invariant front other h in
    let was = subst (λ o. DifferOnlyAt c.loop-left.owners.items (front ++ records_left (option_copied o) c.loop-left.others) other) c.in-Some.is before in
    passed_next c.loop-left.owners.items c.push.new.self.items c.owner.result c.in-Some.there.now c.loop-left.others c.next-left.new.self c.next-left.result c.owner.ensures.shared c.in_ok-push.ensures.items c.next-left.ensures.steps front other was
