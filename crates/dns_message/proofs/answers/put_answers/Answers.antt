use Rattle.std.proofs.Common.{arith}
use Rattle.dns_message.proofs.AnswersLemmas.{Filling-start, Filling-more, Filling-few, Filling-end}
use Rattle.dns_message.proofs.answers.put_answers.Goals as goal

pub loop-behind-init : goal.loop-behind-init
loop-behind-init g c = Filling-start _ _ _ _ c.requires.within c.requires.table

pub overflow_add-count : goal.overflow_add-count
overflow_add-count g c =
    let more = Filling-more _ _ _ _ _ _ _ _ _ _ _ _ c.loop-behind.invariant c.in-Some.ensures in
    omega (arith, Filling-few _ _ _ _ _ _ _ _ _ more)

pub loop-behind-preserved : goal.loop-behind-preserved
loop-behind-preserved g c =
    rw c.advance.ensures (Filling-more _ _ _ _ _ _ _ _ _ _ _ _ c.loop-behind.invariant c.in-Some.ensures)

pub returns : goal.returns
returns g c = Filling-end _ _ _ _ _ _ _ _ _ _ _ c.loop-behind.invariant c.in_default.ensures
