use Rattle.std.proofs.Common.{◌≡◌}
use Rattle.std.specs.List.{AllByRecursion}
use Rattle.zone_tree.specs.Zone.{rrsets_of}
use Rattle.update_core.proofs.overlay.Overlay.differs_at_any.Given as goal

-- the same stands at the owners so far
abbrev pub invariant-loop-owner : goal.invariant-loop-owner
invariant-loop-owner l =
    AllByRecursion (λ own. rrsets_of l.self.made own.0 ≡ rrsets_of l.self.base own.0) l.owner-iterator → AllByRecursion (λ own. rrsets_of l.self.made own.0 ≡ rrsets_of l.self.base own.0) l.owners.entries
