use Rattle.std.proofs.Common.{refl, sym, ◌∙◌}
use Rattle.dns_message.proofs.OptLemmas.{IsHearing-start, IsHearing-heard, IsHearing-stop, IsHearing-end}
use Rattle.dns_message.proofs.edns.opt_among.Goals as goal

pub loop-init : goal.loop-init
loop-init c = IsHearing-start _ _ _ _ refl

pub returns-in_err-heard : goal.returns-in_err-heard
returns-in_err-heard c =
    c.from_residual.ensures
    ∙ sym (IsHearing-stop _ _ _ _ _ _ c.loop.invariant c.loop-test.true c.in_err-heard.ensures)

pub loop-preserved : goal.loop-preserved
loop-preserved c = IsHearing-heard _ _ _ _ _ _ _ _ c.loop.invariant c.loop-test.true c.in_ok-heard.ensures

pub returns : goal.returns
returns c = sym (IsHearing-end _ _ _ _ _ _ c.loop.invariant c.loop-test.false)
