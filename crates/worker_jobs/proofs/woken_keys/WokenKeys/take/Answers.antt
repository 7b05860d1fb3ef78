-- Those that are left are told once.
use Rattle.std.proofs.Common.{ℕ, ◌≤◌, sym, subst}
use Rattle.worker_jobs.proofs.WokenLemmas.{told_left}
use Rattle.worker_jobs.proofs.woken_keys.WokenKeys.take.Goals as goal

pub invariant_of-self : goal.invariant_of-self
invariant_of-self c =
    (told_left c.self.inside.most c.self.inside.keys.items c.pop.new.self.items c.pop.result c.pop.ensures.items c.self.invariant.0, subst (λ (n : ℕ). c.self.inside.most ≤ n) (sym c.pop.ensures.capacity) c.self.invariant.1)
