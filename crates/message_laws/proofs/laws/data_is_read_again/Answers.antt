use Rattle.message_laws.proofs.ExpandedLemmas.{data_read}
use Rattle.message_laws.proofs.laws.data_is_read_again.Goals as goal

pub returns : goal.returns
returns c = data_read
