-- A turn is taken, and what is counted and told of it leaves its connections.
use Rattle.std.proofs.Common.{ℕ, subst, ◌∙◌}
use Rattle.tcp_connections.specs.Requests.{EachGrows}
use Rattle.tcp_connections.specs.Served.{Knowledge}
use Rattle.tcp_loop.specs.Steps.{unturned}
use Rattle.zone_tree.specs.Version.{Version}
use Rattle.worker_jobs.proofs.TurnedLemmas.{rested_turned}
use Rattle.worker_jobs.proofs.connections_job.ConnectionsJob.turn.Goals as goal

pub returns-then-is_over-clause-turned : goal.returns-then-is_over-clause-turned
returns-then-is_over-clause-turned g c = unturned

pub returns-in-Ok-clause-turned : goal.returns-in-Ok-clause-turned
returns-in-Ok-clause-turned g c = rested_turned _ _ _ _ _ _ _ _ _ _ _ c.rest.ensures.same c.poll_once-taken.ensures.turned (c.tell.ensures.event_loop ∙ c.count.ensures.event_loop)

pub returns-in-Err-clause-turned : goal.returns-in-Err-clause-turned
returns-in-Err-clause-turned g c = rested_turned _ _ _ _ _ _ _ _ _ _ _ c.rest.ensures.same c.poll_once-taken.ensures.turned (c.tell.ensures.event_loop ∙ c.count.ensures.event_loop)

pub returns-in-Ok-clause-grows : goal.returns-in-Ok-clause-grows
returns-in-Ok-clause-grows g c = subst (λ (seen : ℕ → Knowledge Version). EachGrows {T = Version} (g.A.Handler.seen c.poll_once-taken.new.handler) seen) c.rest.ensures.same c.poll_once-taken.ensures.grows

pub returns-in-Err-clause-grows : goal.returns-in-Err-clause-grows
returns-in-Err-clause-grows g c = subst (λ (seen : ℕ → Knowledge Version). EachGrows {T = Version} (g.A.Handler.seen c.poll_once-taken.new.handler) seen) c.rest.ensures.same c.poll_once-taken.ensures.grows
