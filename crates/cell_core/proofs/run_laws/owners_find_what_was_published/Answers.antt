-- What is published stays at its place.
use Rattle.cell_core.proofs.RunLawLemmas.{owner_has, last_has}
use Rattle.cell_core.proofs.run_laws.owners_find_what_was_published.Goals as goal

pub returns-clause-owner : goal.returns-clause-owner
returns-clause-owner g c = owner_has

pub returns-clause-last : goal.returns-clause-last
returns-clause-last g c = last_has
