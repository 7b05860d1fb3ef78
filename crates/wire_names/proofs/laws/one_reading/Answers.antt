use Rattle.wire_names.proofs.GrammarLemmas.{once, spelt_labels, apart}
use Rattle.wire_names.proofs.laws.one_reading.Goals as goal

pub returns-clause-once : goal.returns-clause-once
returns-clause-once c = once

pub returns-clause-labels : goal.returns-clause-labels
returns-clause-labels c = spelt_labels

pub returns-clause-apart : goal.returns-clause-apart
returns-clause-apart c = apart
