-- The message stands before what was in the buffer.
use Rattle.std.proofs.Common.{◌≡◌, [], ◌∷◌, refl, arith, take, set, length-set}
use Rattle.std.proofs.lemmas.Grind.{take-set_at}
use Rattle.test_network.proofs.echo.BothMessages.next_message.Goals as goal

pub returns-then-self : goal.returns-then-self
returns-then-self c =
    let front : take 1 (set c.args.out.now 0 1) ≡ 1 ∷ [] = take-set_at c.args.out.now 0 1 1 refl (omega arith) in
    (rw c.if-self.true (cc (front)), omega (arith, length-set c.args.out.now 0 1), omega arith)

pub returns-then-self-2 : goal.returns-then-self-2
returns-then-self-2 c =
    let front : take 1 (set c.args.out.now 0 2) ≡ 2 ∷ [] = take-set_at c.args.out.now 0 1 2 refl (omega arith) in
    (rw (c.if-self.false, c.if-self-2.true) (cc (front)), omega (arith, length-set c.args.out.now 0 2), omega arith)
