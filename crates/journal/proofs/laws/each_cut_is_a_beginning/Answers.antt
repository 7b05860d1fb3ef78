use Rattle.journal.proofs.FramesLemmas.{cut_read}
use Rattle.journal.proofs.laws.each_cut_is_a_beginning.Goals as goal

pub returns : goal.returns
returns c = cut_read
