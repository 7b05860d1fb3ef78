use Rattle.std.proofs.Common.{◌∙◌}
use Rattle.transfer_core.specs.Packed.{listed}
use Rattle.transfer_core.proofs.PackedLemmas.{none_first, some_first}
use Rattle.transfer_core.proofs.packer.SpeltListRecordList.first.Goals as goal

pub returns-in-None-clause-shown : goal.returns-in-None-clause-shown
returns-in-None-clause-shown g c = none_first c.args.self.now.name.now c.args.self.now.next (listed c.args.self.now.rest) c.in-None.is (c.args.self.now.ended c.in-None.is)

pub returns-in-Some-clause-shown : goal.returns-in-Some-clause-shown
returns-in-Some-clause-shown g c =
    some_first c.args.self.now.name.now c.args.self.now.next (listed c.args.self.now.rest) _ _ c.in-Some.is
    (c.sent_to.ensures.shown ∙ c.args.self.now.owned _ c.in-Some.is)
