use Rattle.std.proofs.Common.{arith}
use Rattle.commands.proofs.AnswerLinesLemmas.{IsOnTheWay-start, IsOnTheWay-line, IsOnTheWay-end, Begins-on_the_way, Begins-early}
use Rattle.commands.proofs.LinesLemmas.{IfSome-each, OnErr-each}
use Rattle.commands.proofs.answer.answer_lines.Goals as goal

pub loop-line-init : goal.loop-line-init
loop-line-init g c = (omega (arith, c.requires), λ past holds input e. IsOnTheWay-start c.args.transport past c.args.kept.now input _ _ holds e)

pub returns-then-not-branch-clause-ok : goal.returns-then-not-branch-clause-ok
returns-then-not-branch-clause-ok g c =
    λ past holds. IfSome-each _ _ (λ input e. IsOnTheWay-end _ _ _ _ input _ _ _ _ _ _ (c.loop-line.invariant.1 past holds input e) c.if-not-branch.true c.in_ok-answer_next.ensures.ok)

pub loop-line-preserved : goal.loop-line-preserved
loop-line-preserved g c = (
  omega (arith, c.loop-line.invariant.0, c.answer_next.ensures.counted),
  λ past holds input e. IsOnTheWay-line _ _ _ _ input _ _ _ _ _ _ (c.loop-line.invariant.1 past holds input e) c.if-not-branch.false c.in_ok-answer_next.ensures.ok,
)

pub returns-in_err-answer_next-clause-err : goal.returns-in_err-answer_next-clause-err
returns-in_err-answer_next-clause-err g c =
    λ past holds. OnErr-each _ _ (IfSome-each _ _ (λ input e. Begins-on_the_way _ _ _ input _ _ _ _ (c.loop-line.invariant.1 past holds input e) c.in_err-answer_next.ensures.err))

pub returns-clause-err : goal.returns-clause-err
returns-clause-err g c = λ past holds. IfSome-each _ _ (λ input e. Begins-early _ _ _ input _ _ _ (c.loop-line.invariant.1 past holds input e))
