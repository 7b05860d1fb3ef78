use Rattle.std.proofs.Common.{take, All}
use Rattle.zone_tree.specs.Zone.{rrset_of}
use Rattle.update_core.specs.Ordered.{LeadsOn}
use Rattle.update_core.proofs.ordered.do_all_lead_on.Given as goal

-- each record so far leads to the next of its set
abbrev pub invariant-loop-one : goal.invariant-loop-one
invariant-loop-one g l = All (λ r. LeadsOn (rrset_of (g.Z.ZoneRead.records l.zone) r.owner r.rtype) l.list r) (take l.one-index l.list)
