use Rattle.record_text.proofs.FormLemmas.{data_back}
use Rattle.record_text.proofs.laws.written_data_is_read_back.Goals as goal

pub returns : goal.returns
returns c = data_back
