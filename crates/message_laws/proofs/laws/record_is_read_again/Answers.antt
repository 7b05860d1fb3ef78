use Rattle.message_laws.proofs.AgainLemmas.{record_read, record_enters}
use Rattle.message_laws.proofs.laws.record_is_read_again.Goals as goal

pub returns : goal.returns
returns c = record { read = record_read; table = record_enters }
