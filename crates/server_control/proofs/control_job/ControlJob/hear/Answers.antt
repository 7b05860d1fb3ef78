-- One more client was heard.
use Rattle.std.proofs.Common.{refl, ◌∙◌}
use Rattle.requests.proofs.TurnLemmas.{grows_itself, grows_more}
use Rattle.server_control.proofs.control_job.ControlJob.hear.Goals as goal

pub loop-at-init : goal.loop-at-init
loop-at-init g c = record { grows = grows_itself _; number = refl }

pub loop-at-preserved : goal.loop-at-preserved
loop-at-preserved g c = record { grows = grows_more _ _ _ c.loop-at.invariant.grows c.hear_at-reload.ensures.grows; number = c.hear_at-reload.ensures.number ∙ c.loop-at.invariant.number }
