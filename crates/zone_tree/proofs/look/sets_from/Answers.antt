-- The sets from a type on are those behind the sets of lower types.
use Rattle.std.proofs.Common.{sym}
use Rattle.zone_tree.proofs.FromLemmas.{types_from}
use Rattle.zone_tree.proofs.look.sets_from.Goals as goal

pub returns : goal.returns
returns c = sym (types_from c.args.sets.now c.args.rtype.0 c.count_lower-low.result c.count_lower-low.ensures.bound c.count_lower-low.ensures.place)
