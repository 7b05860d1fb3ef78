use Rattle.master_file.proofs.TextRecordLemmas.{zone_has}
use Rattle.master_file.proofs.text_laws.zone_has_the_records_of_its_text.Goals as goal

pub returns : goal.returns
returns c = zone_has
