use Rattle.std.proofs.Common.{◌++◌, arith}
use Rattle.journal.specs.declared.heads.Head.{Head}
use Rattle.journal.proofs.HeadLemmas.{split_is}
use Rattle.journal.proofs.head_octets.split_head.Goals as goal

pub returns : goal.returns
returns c =
    let head : Head = record { number = c.in_ok-number.number; random = c.in_ok-random.random.now; text = c.in_ok-text.text; serial = c.in_ok-serial.serial; origin = c.in_ok-origin.origin } in (
      omega (arith, c.in_ok-rest.ensures.2, c.in_ok-number.ensures.1, c.in_ok-random.ensures.2, c.in_ok-text.ensures.2, c.in_ok-serial.ensures.1, c.in_ok-origin.ensures.2, c.in_ok-sum.ensures.2),
      record { number = c.in_ok-number.ensures.2; random = c.in_ok-random.ensures.1; text = c.in_ok-text.ensures.0; serial = c.in_ok-serial.ensures.2; origin = c.in_ok-origin.ensures.0 },
      c.in_ok-sum.ensures.1,
      split_is c.args.octets.now c.in_ok-rest.field-0-0.now c.in_ok-rest.rest.now c.in_ok-number.rest.now c.in_ok-random.rest.now c.in_ok-text.rest.now c.in_ok-serial.rest.now c.in_ok-origin.rest.now
          (c.in_ok-sum.sum.now ++ c.in_ok-sum.rest.now) head c.in_ok-rest.ensures.1 c.in_ok-rest.ensures.0 c.in_ok-number.ensures.0 c.in_ok-random.ensures.0 c.in_ok-text.ensures.1
          c.in_ok-serial.ensures.0 c.in_ok-origin.ensures.1 c.in_ok-sum.ensures.0,
    )
