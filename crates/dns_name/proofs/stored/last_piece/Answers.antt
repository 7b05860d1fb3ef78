use Rattle.std.proofs.Common.{◌≡◌, ◌<◌, ◌-◌, get_or, refl, arith}
use Rattle.dns_name.proofs.LastLemmas.{begins, goes_on, cut}
use Rattle.dns_name.proofs.stored.last_piece.Goals.{then-loop-start-test+else-labels-start-ne-CLOSING, else-loop-start-test}
use Rattle.dns_name.proofs.stored.last_piece.Goals as goal

pub loop-start-init : goal.loop-start-init
loop-start-init c = begins _ _ c.in_ok-labels.field-0-0.now c.requires c.in_ok-labels.ensures.cases.0

pub loop-start-preserved : goal.loop-start-preserved
loop-start-preserved c =
    goes_on _ c.in_ok-labels.labels.now c.loop-start.start (get_or c.in_ok-labels.labels.now (c.loop-start.start - 1) 0) c.loop-start.invariant c.loop-start-test.true refl c.if-labels-start-ne-CLOSING.true

pub returns : goal.returns
returns c =
    let labels = c.in_ok-labels.labels.now in
    let start = c.loop-start.start in
    let closes : 0 < start → get_or labels (start - 1) 0 ≡ 0 =
    elim c.loop-start-test.branch [
      | then-loop-start-test+else-labels-start-ne-CLOSING w ↦ λ some. w.if-labels-start-ne-CLOSING.false
      | else-loop-start-test w ↦ λ some. absurd (omega (arith, w.loop-start-test.false, some))
    ] in
    rw (c.split_at.ensures.front, c.split_at.ensures.back) (cut _ labels start c.loop-start.invariant closes)
