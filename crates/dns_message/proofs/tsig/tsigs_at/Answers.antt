use Rattle.std.proofs.Common.{sym, ◌∙◌}
use Rattle.dns_message.proofs.ReadLemmas.{IsPassed-at, not_passed}
use Rattle.dns_message.proofs.TsigLemmas.{IsHad-start, IsHad-passed, IsHad-stop, IsHad-end}
use Rattle.dns_message.proofs.tsig.tsigs_at.Goals as goal

pub loop-init : goal.loop-init
loop-init c = IsHad-start _ _ _

pub returns-in_err-rtype : goal.returns-in_err-rtype
returns-in_err-rtype c =
    c.from_residual.ensures
    ∙ sym (IsHad-stop _ _ _ _ _ _ c.loop.invariant c.loop-test.true (not_passed _ _ _ c.type_at.ensures c.in_err-rtype.was))

pub loop-preserved : goal.loop-preserved
loop-preserved c = IsHad-passed _ _ _ _ _ _ _ _ _ c.loop.invariant c.loop-test.true (IsPassed-at _ _ _ _ _ c.type_at.ensures c.in_ok-rtype.was) c.has_more-has.ensures

pub returns : goal.returns
returns c = sym (IsHad-end _ _ _ _ _ _ c.loop.invariant c.loop-test.false)
