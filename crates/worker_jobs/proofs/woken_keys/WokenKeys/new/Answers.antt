-- None is told.
use Rattle.std.proofs.Common.{ℕ, List, sym, subst}
use Rattle.worker_jobs.specs.WokenKeys.{AreWoken}
use Rattle.worker_jobs.proofs.WokenLemmas.{none_told}
use Rattle.worker_jobs.proofs.woken_keys.WokenKeys.new.Goals as goal

pub invariant_of-result : goal.invariant_of-result
invariant_of-result c = (subst (λ (l : List ℕ). AreWoken c.args.most l) (sym c.in_ok-keys.ensures.items) (none_told c.args.most), c.in_ok-keys.ensures.capacity)
