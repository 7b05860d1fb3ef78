use Rattle.shared_tree.proofs.WayLemmas.{taken}
use Rattle.shared_tree.proofs.walk.take_lowest.Goals as goal

pub returns : goal.returns
returns g c = taken c.args.way.now.items c.pop.new.self.items c.in_ok-lowest.lowest c.requires c.in_ok-lowest.ensures.items
