use Rattle.std.proofs.Common.{◌∙◌}
use Rattle.transfer_in.proofs.GroupLemmas.{with_record_behind}
use Rattle.transfer_in.proofs.grouped.with_last.Goals as goal

pub returns-in-Ok : goal.returns-in-Ok
returns-in-Ok c = c.in-Ok.ensures.ok ∙ with_record_behind _ c.args.set c.requires.behind
