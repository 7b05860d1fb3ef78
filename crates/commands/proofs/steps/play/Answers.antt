use Rattle.std.proofs.Common.{sym, ap, ◌∙◌}
use Rattle.commands.proofs.ScriptLemmas.{at_limit}
use Rattle.world_run.specs.World.{replies_of}
use Rattle.commands.proofs.steps.play.Goals as goal

pub returns-in-Err-clause-limit : goal.returns-in-Err-clause-limit
returns-in-Err-clause-limit c = at_limit c.in-Err.fault _ (λ is. ap (replies_of c.args.zone c.args.options.keep c.args.options.window) (sym (c.as_slice.ensures.value ∙ c.in_ok-steps.ensures)) ∙ c.in-Err.ensures.limit is)
