use Rattle.dns_name.proofs.RoundLemmas.{name_of_text-text_of}
use Rattle.dns_name.proofs.laws.text_is_read_back.Goals as goal

pub returns : goal.returns
returns c = name_of_text-text_of
