use Rattle.std.proofs.Common.{◌+◌, arith}
use Rattle.transfer_core.proofs.PlaceLemmas.{pass_more}
use Rattle.transfer_core.proofs.place.sum.Goals as goal

pub returns : goal.returns
returns c = λ list. pass_more c.args.sent c.args.count (c.from.result + c.from-2.result) list (omega (arith, c.from.ensures, c.from-2.ensures))
