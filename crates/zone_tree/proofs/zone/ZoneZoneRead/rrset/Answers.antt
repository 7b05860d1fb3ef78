-- The set of the type among the sets of the owner is the one of that owner and type.
use Rattle.std.proofs.Common.{sym, ◌∙◌, ◌≡◌, []}
use Rattle.std.specs.Prelude.{◌↔◌}
use Rattle.std.specs.Option.{IsNone, IfSome, option_copied}
use Rattle.zone_tree.specs.Zone.{rrset_of}
use Rattle.zone_tree.specs.Filed.{sets_under}
use Rattle.zone_tree.proofs.LookLemmas.{rrset_found, rrset_clauses}
use Rattle.zone_tree.proofs.FiledLemmas.{sets_at_key}
use Rattle.zone_tree.proofs.zone.ZoneZoneRead.rrset.Goals as goal

both : (c : goal.After-set_of_type) → (IsNone c.set_of_type.result ↔ (rrset_of c.args.self.now c.args.owner.now c.args.rtype.0 ≡ [])) × IfSome c.set_of_type.result (λ set. set.now ≡ rrset_of c.args.self.now c.args.owner.now c.args.rtype.0)
both c =
    let pairs = c.self.inside.owners.pairs in
    let filed = c.self.invariant.filed in
    let at = sets_at_key pairs filed c.args.owner.now ∙ sym c.sets_at.ensures in
    let found = rrset_found (sets_under pairs) filed.rising c.args.owner.now c.args.rtype.0 c.sets_at.result.now at (option_copied c.set_of_type.result) c.set_of_type.ensures in
    rw (← c.self.view_is) (rrset_clauses _ c.set_of_type.result found)

pub returns-clause-none : goal.returns-clause-none
returns-clause-none c = (both c).0

pub returns-clause-set : goal.returns-clause-set
returns-clause-set c = (both c).1
