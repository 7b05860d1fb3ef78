use Rattle.tsig.proofs.SignedAlone.{taken}
use Rattle.tsig.proofs.laws.signed_alone.Goals as goal

pub returns : goal.returns
returns c = taken
