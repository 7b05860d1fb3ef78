use Rattle.journal.proofs.FramesLemmas.{written_read}
use Rattle.journal.proofs.laws.what_is_written_is_read.Goals as goal

pub returns : goal.returns
returns c = written_read
