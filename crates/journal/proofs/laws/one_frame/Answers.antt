use Rattle.journal.proofs.FrameLemmas.{one_frame}
use Rattle.journal.proofs.laws.one_frame.Goals as goal

pub returns : goal.returns
returns c = one_frame
