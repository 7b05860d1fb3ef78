use Rattle.std.proofs.Common.{◌≡◌, take, map, bit_xor}
use Rattle.hmac.proofs.key.under_pad.Given as goal

abbrev pub invariant-loop-octet : goal.invariant-loop-octet
invariant-loop-octet l = l.out.items ≡ map (λ octet. bit_xor octet l.pad) (take l.octet-index l.block.items)
