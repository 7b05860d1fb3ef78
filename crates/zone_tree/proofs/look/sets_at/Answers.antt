-- The sets of a name lie between those before it and those that aren't after it.
use Rattle.std.proofs.Common.{sym}
use Rattle.zone_tree.proofs.LookLemmas.{sets_at}
use Rattle.zone_tree.proofs.look.sets_at.Goals as goal

pub returns : goal.returns
returns c =
    sym (sets_at c.args.sets.now c.requires c.args.name.now c.count_before-low.result c.count_before-low.ensures.place c.count_upto-high.result c.count_upto-high.ensures.bound c.count_upto-high.ensures.place c.count_before-low.ensures.bound)
