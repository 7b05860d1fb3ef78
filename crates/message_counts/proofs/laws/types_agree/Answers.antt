use Rattle.message_counts.proofs.TypeLemmas.{types_agree}
use Rattle.message_counts.proofs.laws.types_agree.Goals as goal

pub returns : goal.returns
returns c = types_agree
