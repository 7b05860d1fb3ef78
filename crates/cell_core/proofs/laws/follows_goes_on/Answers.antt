-- By the values in front.
use Rattle.cell_core.proofs.LawLemmas.{each_one_more}
use Rattle.cell_core.proofs.laws.follows_goes_on.Goals as goal

pub returns : goal.returns
returns g c = each_one_more g.F.Follows.follows
