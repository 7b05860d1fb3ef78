use Rattle.wire_names.specs.Sizes.{AreSizes}
use Rattle.wire_names.proofs.pass.write_sizes.Given as goal

abbrev pub invariant-loop-at : goal.invariant-loop-at
invariant-loop-at l = AreSizes l.octets l.sizes l.at
