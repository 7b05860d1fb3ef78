-- Strictly ascending lists of the same records are equal.
use Rattle.zone_tree.proofs.LawLemmas.{same_zones}
use Rattle.zone_tree.proofs.laws.same_records.Goals as goal

pub returns : goal.returns
returns c = same_zones
