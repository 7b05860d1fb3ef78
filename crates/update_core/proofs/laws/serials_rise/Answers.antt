use Rattle.update_core.proofs.SerialLaw.{rises}
use Rattle.update_core.proofs.laws.serials_rise.Goals as goal

pub returns : goal.returns
returns c = rises
