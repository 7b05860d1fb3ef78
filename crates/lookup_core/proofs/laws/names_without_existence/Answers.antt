use Rattle.lookup_core.proofs.LawLemmas.{no_name}
use Rattle.lookup_core.proofs.laws.names_without_existence.Goals as goal

pub returns : goal.returns
returns c = no_name
