-- In the first part, or behind it in the second one.
use Rattle.zone_tree.specs.Zone.{soa_of}
use Rattle.transfer_core.proofs.PlaceLemmas.{step_old, step_later, step_behind}
use Rattle.transfer_core.proofs.step.pass_both.Goals as goal

pub returns-in-Ok-clause-inside : goal.returns-in-Ok-clause-inside
returns-in-Ok-clause-inside c = step_old (soa_of c.args.version.now.zone) c.args.version.now.changes c.in-Ok.at c.args.from c.args.sent c.in-Ok.ensures.part c.in-Ok.ensures.inside

pub returns-in-Err-clause-inside : goal.returns-in-Err-clause-inside
returns-in-Err-clause-inside c = step_later (soa_of c.args.version.now.zone) c.args.version.now.changes c.pass_part-in-Err.result c.args.from c.args.sent c.in-Err.left c.in-Err.ensures.behind c.pass_part-in-Err.ensures.part c.pass_part-in-Err.ensures.inside

pub returns-in-Err-clause-behind : goal.returns-in-Err-clause-behind
returns-in-Err-clause-behind c = step_behind (soa_of c.args.version.now.zone) c.args.version.now.changes c.pass_part-in-Err.result c.args.from c.args.sent c.in-Err.left c.in-Err.ensures.behind c.pass_part-in-Err.ensures.behind
