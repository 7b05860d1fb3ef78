use Rattle.lookup_core.proofs.LawLemmas.{short, single_aliases}
use Rattle.lookup_core.proofs.laws.chains_are_short.Goals as goal

pub returns : goal.returns
returns c = record { single = single_aliases; short = λ zone name rtype is. short zone name rtype (single_aliases zone is) }
