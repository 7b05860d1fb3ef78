use Rattle.std.proofs.Common.{sym, ◌∙◌}
use Rattle.dns_message.proofs.ReceivedLemmas.{IsBehind-start, IsBehind-passed, IsBehind-unread, IsBehind-end}
use Rattle.dns_message.proofs.received.behind_questions.Goals as goal

pub loop-init : goal.loop-init
loop-init c = IsBehind-start _ _ _

pub returns-in_err-place : goal.returns-in_err-place
returns-in_err-place c =
    c.from_residual.ensures
    ∙ sym (IsBehind-unread _ _ _ _ _ _ c.loop.invariant c.loop-test.true c.behind_question.ensures c.in_err-place.was)

pub loop-preserved : goal.loop-preserved
loop-preserved c = IsBehind-passed _ _ _ _ _ _ _ c.loop.invariant c.loop-test.true c.behind_question.ensures c.in_ok-place.was

pub returns : goal.returns
returns c = sym (IsBehind-end _ _ _ _ _ c.loop.invariant c.loop-test.false)
