use Rattle.lookup_core.proofs.LawLemmas.{reached}
use Rattle.lookup_core.proofs.laws.owners_are_reached.Goals as goal

pub returns : goal.returns
returns c = reached
