use Rattle.zone_change.proofs.ApartLemmas.{passed_given, none_left}
use Rattle.zone_change.proofs.apart.pass_rest.Goals as goal

pub loop-there-preserved : goal.loop-there-preserved
loop-there-preserved c = λ front other h.
    passed_given c.loop-there.owners.items c.push.new.self.items c.owner.result c.in-Some.there.now c.loop-there.others c.next.new.self c.owner.ensures.shared c.in_ok-push.ensures.items c.in-Some.ensures.steps front other (c.loop-there.invariant front other h)

pub returns : goal.returns
returns c = λ front other h. none_left c.loop-there.owners.items c.loop-there.others c.in_default.ensures.steps.0 front other (c.loop-there.invariant front other h)
