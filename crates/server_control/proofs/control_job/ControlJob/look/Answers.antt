-- What is known of versions grows at each step.
use Rattle.requests.proofs.TurnLemmas.{grows_more}
use Rattle.server_control.proofs.control_job.ControlJob.look.Goals as goal

pub returns-then-is_over-clause-grows : goal.returns-then-is_over-clause-grows
returns-then-is_over-clause-grows g c = grows_more _ _ _ (grows_more _ _ _ c.hear-reload.ensures.grows c.go_on-reload.ensures.grows) c.give_up.ensures.grows

pub returns-clause-grows : goal.returns-clause-grows
returns-clause-grows g c = grows_more _ _ _ c.hear-reload.ensures.grows c.go_on-reload.ensures.grows
