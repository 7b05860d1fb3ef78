use Rattle.dns_rdata.proofs.StringLemmas.{row_of_strings}
use Rattle.dns_rdata.proofs.laws.strings_in_a_row.Goals as goal

pub returns : goal.returns
returns c = row_of_strings
