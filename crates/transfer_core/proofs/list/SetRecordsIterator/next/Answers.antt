use Rattle.std.proofs.Common.{◌≡◌}
use Rattle.dns_rdata.specs.declared.data.RData.{RData}
use Rattle.dns_rdata.specs.Record.{rtype_of}
use Rattle.transfer_core.proofs.WalkLemmas.{rest_each}
use Rattle.transfer_core.proofs.list.SetRecordsIterator.next.Goals as goal

pub invariant_of-self : goal.invariant_of-self
invariant_of-self c = rest_each (λ (d : RData). d.rtype ≡ rtype_of c.self.inside.set.now) _ _ _ c.self.invariant c.in_ok-rdata.ensures.cases.0
