-- As of the sets that the part has.
use Rattle.transfer_core.proofs.PlaceLemmas.{none_led, inside_of, behind_of}
use Rattle.transfer_core.proofs.step.pass_part.Goals as goal

pub returns-in_default-clause-behind : goal.returns-in_default-clause-behind
returns-in_default-clause-behind c = none_led c.args.from c.args.sent _ c.in_default.ensures

pub returns-in-Ok-clause-inside : goal.returns-in-Ok-clause-inside
returns-in-Ok-clause-inside c = inside_of c.args.from c.args.sent c.in-Ok.set c.in-Ok.sent _ _ c.in-Some.ensures c.in-Ok.ensures.inside

pub returns-in-Err-clause-behind : goal.returns-in-Err-clause-behind
returns-in-Err-clause-behind c = behind_of c.args.from c.args.sent c.in-Err.left _ _ c.in-Some.ensures c.in-Err.ensures.behind
