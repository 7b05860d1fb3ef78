use Rattle.transfer_in.proofs.WholeLemmas.{current_stays}
use Rattle.transfer_in.proofs.laws.current_zones_stay.Goals as goal

pub returns : goal.returns
returns c = current_stays
