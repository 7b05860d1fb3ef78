-- The records of the sets at the owner, and that they are whole.
use Rattle.zone_tree.proofs.FiledLemmas.{rrsets_at_key, whole_at_key}
use Rattle.zone_tree.proofs.zone.ZoneZoneRead.sets_at.Goals as goal

pub returns-clause-records : goal.returns-clause-records
returns-clause-records c = rw (c.sets_of.ensures, ← c.self.view_is) (rrsets_at_key c.self.inside.owners.pairs c.self.invariant.filed c.args.owner.now)

pub returns-clause-whole : goal.returns-clause-whole
returns-clause-whole c = rw (c.sets_of.ensures, ← c.self.view_is) (whole_at_key c.self.inside.owners.pairs c.self.invariant.filed c.args.owner.now)
