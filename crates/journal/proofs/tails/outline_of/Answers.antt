use Rattle.std.proofs.Common.{arith}
use Rattle.journal.proofs.PartLemmas.{split_again}
use Rattle.journal.proofs.OutlineLemmas.{outline_from}
use Rattle.journal.proofs.tails.outline_of.Goals as goal

pub returns : goal.returns
returns c = (
  c.in_ok-whole.field-0-1.now,
  outline_from c.args.mark c.args.next c.in_ok-size.size c.in_ok-number.number c.args.octets.now c.in_ok-behind.behind.now c.in_ok-size.behind_size.now c.in_ok-number.field-0-1.now
      c.in_ok-whole.whole.now c.in_ok-whole.field-0-1.now c.in_ok-size.ensures.2 c.in_ok-number.ensures.2 c.if-number-next.false
      c.in_ok-behind.ensures c.in_ok-size.ensures.0 c.in_ok-number.ensures.0 (omega (arith, c.in_ok-whole.ensures.cases.3))
      (split_again c.args.octets.now _ c.in_ok-whole.whole.now c.in_ok-whole.field-0-1.now c.in_ok-whole.ensures.cases),
)
