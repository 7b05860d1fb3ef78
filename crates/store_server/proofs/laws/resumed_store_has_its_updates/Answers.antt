use Rattle.store_server.proofs.LawLemmas.{resumed_has}
use Rattle.store_server.proofs.laws.resumed_store_has_its_updates.Goals as goal

pub returns : goal.returns
returns c = resumed_has
