use Rattle.std.proofs.Common.{◌≡◌, ◌↔◌, length, take}
use Rattle.hmac.proofs.same.is_same.Given as goal

abbrev pub invariant-loop-i : goal.invariant-loop-i
invariant-loop-i l = (length l.a ≡ length l.b) × ((l.differ ≡ 0) ↔ (take l.i l.a ≡ take l.i l.b))
