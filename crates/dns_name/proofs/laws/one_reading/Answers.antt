use Rattle.dns_name.proofs.LawLemmas.{name_in-is_present, name_in-wire_of}
use Rattle.dns_name.proofs.laws.one_reading.Goals as goal

pub returns-clause-is_present : goal.returns-clause-is_present
returns-clause-is_present c = name_in-is_present

pub returns-clause-back : goal.returns-clause-back
returns-clause-back c = name_in-wire_of
