use Rattle.std.proofs.Common.{map, ap, ◌∙◌}
use Rattle.transfer_core.specs.Lists.{as_sent}
use Rattle.transfer_core.specs.Take.{take}
use Rattle.transfer_core.proofs.VersionLemmas.{begun, list_told, list_taken}
use Rattle.transfer_core.proofs.changes.steps.Goals as goal

pub returns-clause-list : goal.returns-clause-list
returns-clause-list g c zone h =
    begun c.new.result c.soa-soa.result.now c.new-2.result (g.C.VersionList.versions c.args.chain.now) (g.Z.ZoneRead.records c.args.served.now) c.new.ensures.all c.soa-soa.ensures.set c.new-2.ensures
    ∙ list_told zone (g.C.VersionList.versions c.args.chain.now) (g.Z.ZoneRead.records c.args.served.now) h.behind h.last

pub returns-clause-taken : goal.returns-clause-taken
returns-clause-taken g c zone h k =
    ap (λ l. take zone (map as_sent l)) (begun c.new.result c.soa-soa.result.now c.new-2.result (g.C.VersionList.versions c.args.chain.now) (g.Z.ZoneRead.records c.args.served.now) c.new.ensures.all c.soa-soa.ensures.set c.new-2.ensures
    ∙ list_told zone (g.C.VersionList.versions c.args.chain.now) (g.Z.ZoneRead.records c.args.served.now) h.behind h.last)
    ∙ list_taken zone (g.C.VersionList.versions c.args.chain.now) (g.Z.ZoneRead.records c.args.served.now) h k
