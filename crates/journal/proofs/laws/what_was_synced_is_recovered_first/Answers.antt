use Rattle.journal.proofs.RecoveredLemmas.{synced_recovered}
use Rattle.journal.proofs.laws.what_was_synced_is_recovered_first.Goals as goal

pub returns : goal.returns
returns c = synced_recovered
