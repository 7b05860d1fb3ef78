use Rattle.std.proofs.Common.{arith, ap, ◌∙◌, length}
use Rattle.dns_name.specs.Name.{wire_of}
use Rattle.tsig.proofs.SizeLemmas.{name_size}
use Rattle.tsig.proofs.signing.tsig_size.Goals as goal

pub returns-clause-most : goal.returns-clause-most
returns-clause-most c =
    omega (
      arith,
      ap length c.wire.ensures.octets,
      c.name.ensures.short,
      ap length c.wire-2.ensures.octets ∙ ap (λ n. length (wire_of n)) c.algorithm.ensures ∙ name_size c.args.key.now.secret.algorithm,
      c.mac_size.ensures.most,
      c.other.ensures.few,
    )
