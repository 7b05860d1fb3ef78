use Rattle.std.proofs.Common.{ℕ, ◌<◌, get_or, arith}
use mir.Val.{Fits}
use mir.Syntax.{w8}
use Rattle.dns_name.proofs.FrontLemmas.{eight}
use Rattle.dns_name.proofs.front.number_of.Goals as goal

pub returns : goal.returns
returns c =
    let octets = c.args.octets.now in
    let each : (i : ℕ) → get_or octets i 0 < 256 = λ i. let fit : Fits w8 (get_or octets i 0) = c.type_inv.octets i in omega (arith, fit) in
    let whole = eight octets each in
    omega (arith, c.four_at.ensures.is, c.four_at-2.ensures.is)
