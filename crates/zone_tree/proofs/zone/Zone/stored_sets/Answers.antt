-- The records of the sets at the owner, that they are whole, and that each is a set.
use Rattle.std.proofs.Common.{◌≡◌, true, [], sym, subst}
use Rattle.std.specs.List.{AllByRecursion}
use Rattle.dns_name.specs.Name.{is_same}
use Rattle.dns_rdata.specs.Record.{owner_of}
use Rattle.zone_tree.specs.Sets.{IsRRset}
use Rattle.zone_tree.proofs.EditLemmas.{own_sets}
use Rattle.zone_tree.proofs.FiledLemmas.{rrsets_at_key, whole_at_key}
use Rattle.zone_tree.proofs.Rising.{each_weaker}
use Rattle.zone_tree.proofs.zone.Zone.stored_sets.Goals as goal

pub returns-clause-records : goal.returns-clause-records
returns-clause-records c = rw (c.sets_of.ensures, ← c.self.view_is) (rrsets_at_key c.self.inside.owners.pairs c.self.invariant.filed c.args.owner.now)

pub returns-clause-whole : goal.returns-clause-whole
returns-clause-whole c = rw (c.sets_of.ensures, ← c.self.view_is) (whole_at_key c.self.inside.owners.pairs c.self.invariant.filed c.args.owner.now)

pub returns-clause-each : goal.returns-clause-each
returns-clause-each c =
    subst (AllByRecursion IsRRset) (sym c.sets_of.ensures)
    (each_weaker (λ s. IsRRset s × (is_same (owner_of s) c.args.owner.now ≡ true)) IsRRset (λ s h. h.0) _ (own_sets c.args.owner.now 0 [] c.self.inside.owners.pairs c.self.invariant.filed))
