use Rattle.journal.proofs.TailLemmas.{none_torn, written_torn}
use Rattle.journal.proofs.laws.no_later_frame_is_torn.Goals as goal

pub returns : goal.returns
returns c = record { none = none_torn; written = written_torn }
