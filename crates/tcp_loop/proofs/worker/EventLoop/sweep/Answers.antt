-- Those that are over go, by the limits as many open connections have them.
use Rattle.std.proofs.Common.{refl}
use Rattle.tcp_loop.proofs.StepLemmas.{sweeps_over, swept_over}
use Rattle.tcp_loop.proofs.worker.EventLoop.sweep.Goals as goal

pub returns-clause-swept : goal.returns-clause-swept
returns-clause-swept g c =
    sweeps_over g.S.Remote.origin g.S.Blocking.octets c.args.now c.args.plan.limits c.limits_at-limits.result c.args.self.now.connections c.sweep.new.connections c.limits_at-limits.ensures.either c.sweep.ensures.swept

pub returns-clause-due : goal.returns-clause-due
returns-clause-due g c = λ since.
    (swept_over g.S.Remote.origin g.S.Blocking.octets c.args.now c.args.plan.limits c.limits_at-limits.result c.args.self.now.connections c.sweep.new.connections c.limits_at-limits.ensures.either c.sweep.ensures.swept, refl)
