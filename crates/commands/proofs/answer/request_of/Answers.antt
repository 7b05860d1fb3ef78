use Rattle.std.proofs.Common.{arith}
use Rattle.hex.proofs.HexLemmas.{decode_of-ok}
use Rattle.commands.proofs.answer.request_of.Goals as goal

-- a line's octets are half as many as its digits
pub returns-then-len-out : goal.returns-then-len-out
returns-then-len-out c octets e = let digits = decode_of-ok _ octets e in omega (arith, digits.2)
