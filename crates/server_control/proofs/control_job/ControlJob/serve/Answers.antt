-- It has looked once more.
use Rattle.std.proofs.Common.{refl, ◌∙◌}
use Rattle.requests.proofs.TurnLemmas.{grows_itself, grows_more}
use Rattle.server_control.proofs.control_job.ControlJob.serve.Goals as goal

pub loop-init : goal.loop-init
loop-init g c = record { grows = grows_itself _; number = refl }

pub loop-preserved : goal.loop-preserved
loop-preserved g c = record { grows = grows_more _ _ _ c.loop.invariant.grows c.look.ensures.grows; number = c.look.ensures.number ∙ c.loop.invariant.number }

pub returns-in-Ends-clause-grows : goal.returns-in-Ends-clause-grows
returns-in-Ends-clause-grows g c = grows_more _ _ _ c.loop.invariant.grows c.look.ensures.grows
