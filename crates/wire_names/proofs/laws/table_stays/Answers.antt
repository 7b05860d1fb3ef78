use Rattle.wire_names.proofs.TabledLemmas.{IsTable-longer, table_goes_on}
use Rattle.wire_names.proofs.laws.table_stays.Goals as goal

pub returns : goal.returns
returns c = λ msg more positions table. (IsTable-longer msg more positions table, table_goes_on msg more positions table)
