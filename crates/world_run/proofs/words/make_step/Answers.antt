use Rattle.std.proofs.Common.{ap, ◌∙◌, Err}
use Rattle.world_run.proofs.StepLemmas.{no_step}
use Rattle.world_run.proofs.words.make_step.Goals as goal

pub returns-in-Err-NotEnabled-clause-ok : goal.returns-in-Err-NotEnabled-clause-ok
returns-in-Err-NotEnabled-clause-ok c =
    (no_step c.args.machine.now c.args.phase.now c.in-Ok.taken c.in-Ok.ensures.ok (c.step.ensures.not_enabled.0 (c.in-Err-NotEnabled.is ∙ ap Err c.in-Err-NotEnabled.field-0-is)), c.in-Err-NotEnabled.ensures.unchanged)
