-- No place is empty, and the entry there is upgraded.
use Rattle.std.proofs.Common.{◌∙◌}
use Rattle.weak_history.proofs.PlaceLemmas.{place_full}
use Rattle.weak_history.proofs.ChainLemmas.{upgraded_here}
use Rattle.weak_history.proofs.history.upgrade_in.Goals as goal

pub unreachable-requires : goal.unreachable-requires
unreachable-requires g c =
    place_full c.args.places.now c.args.at c.index-places-at.result c.requires.full c.requires.within c.index-places-at.is (c.index-places-at.is ∙ c.in-None.is)

pub returns-clause-upgraded : goal.returns-clause-upgraded
returns-clause-upgraded g c =
    upgraded_here c.upgrade.result c.args.places.now c.args.at c.index-places-at.result c.in-Some.entry c.args.reader.now c.upgrade.new.reader c.requires.full c.requires.within c.in-Some.is c.upgrade.ensures.upgraded
