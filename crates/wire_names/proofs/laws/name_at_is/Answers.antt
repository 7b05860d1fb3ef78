use Rattle.wire_names.proofs.GrammarLemmas.{name_at_spelt, name_at_fault}
use Rattle.wire_names.proofs.laws.name_at_is.Goals as goal

pub returns-clause-spelt : goal.returns-clause-spelt
returns-clause-spelt c = name_at_spelt

pub returns-clause-refused : goal.returns-clause-refused
returns-clause-refused c = name_at_fault
