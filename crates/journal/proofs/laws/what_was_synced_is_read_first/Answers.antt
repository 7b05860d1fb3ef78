use Rattle.journal.proofs.FramesLemmas.{synced_first}
use Rattle.journal.proofs.laws.what_was_synced_is_read_first.Goals as goal

pub returns : goal.returns
returns c = synced_first
