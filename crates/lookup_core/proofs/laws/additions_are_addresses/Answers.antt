use Rattle.lookup_core.specs.Chain.{chain}
use Rattle.lookup_core.specs.Sections.{authority_of, sections}
use Rattle.lookup_core.proofs.AdditionLemmas.{additions}
use Rattle.lookup_core.proofs.laws.additions_are_addresses.Goals as goal

pub returns : goal.returns
returns c = λ zone name rtype. additions zone (sections zone name rtype).answer (authority_of zone (chain zone name rtype).end)
