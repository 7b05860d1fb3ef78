use Rattle.tsig.proofs.ReadBack.{read_back}
use Rattle.tsig.proofs.laws.fields_are_read_back.Goals as goal

pub returns : goal.returns
returns c = read_back
