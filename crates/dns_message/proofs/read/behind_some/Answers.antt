use Rattle.std.proofs.Common.{sym, ◌∙◌}
use Rattle.dns_message.proofs.ReadLemmas.{IsPast-start, IsPast-passed, IsPast-stop, IsPast-end, IsPassed-at, not_passed}
use Rattle.dns_message.proofs.read.behind_some.Goals as goal

pub loop-init : goal.loop-init
loop-init c = IsPast-start _ _ _

pub returns-in_err-next : goal.returns-in_err-next
returns-in_err-next c =
    c.from_residual.ensures
    ∙ sym (IsPast-stop _ _ _ _ _ c.loop.invariant c.loop-test.true (not_passed _ _ _ c.type_at.ensures c.in_err-next.was))

pub loop-preserved : goal.loop-preserved
loop-preserved c = IsPast-passed _ _ _ _ _ _ _ c.loop.invariant c.loop-test.true (IsPassed-at _ _ _ _ _ c.type_at.ensures c.in_ok-next.was)

pub returns : goal.returns
returns c = sym (IsPast-end _ _ _ _ _ c.loop.invariant c.loop-test.false)
