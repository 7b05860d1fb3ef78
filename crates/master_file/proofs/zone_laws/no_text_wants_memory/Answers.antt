use Rattle.master_file.proofs.OwnLemmas.{text_own}
use Rattle.master_file.proofs.zone_laws.no_text_wants_memory.Goals as goal

pub returns : goal.returns
returns c = text_own
