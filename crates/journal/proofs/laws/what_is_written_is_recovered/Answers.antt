use Rattle.journal.proofs.RecoveredLemmas.{written_recovered, written_accepted}
use Rattle.journal.proofs.laws.what_is_written_is_recovered.Goals as goal

pub returns : goal.returns
returns c = record { taken = written_recovered; accepted = written_accepted }
