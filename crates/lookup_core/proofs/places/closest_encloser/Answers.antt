use Rattle.std.proofs.Common.{sym, ap, ◌∙◌}
use Rattle.std.specs.List.{find}
use Rattle.zone_tree.specs.Zone.{exists}
use Rattle.lookup_core.proofs.WalkLemmas.{names_from, find-self_and_ancestors}
use Rattle.lookup_core.proofs.places.closest_encloser.Goals as goal

-- the name in hand exists
pub returns-then-exists-clause-is : goal.returns-then-exists-clause-is
returns-then-exists-clause-is g c =
    sym
    (c.loop-at.invariant.encloser
    ∙ ap (λ at. find (exists (g.Z.ZoneRead.records c.args.zone.now)) (names_from at)) c.in-Some.is
    ∙ find-self_and_ancestors (exists (g.Z.ZoneRead.records c.args.zone.now)) c.in-Some.ancestor (sym c.if-exists.ensures))
