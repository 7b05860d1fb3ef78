-- The name is an owner, or the owner after it is under it.
use Rattle.std.proofs.Common.{sym, ap, ◌∙◌, Some, None}
use Rattle.std.specs.Option.{option_copied}
use Rattle.zone_tree.specs.Zone.{exists}
use Rattle.zone_tree.proofs.FiledLemmas.{owner_exists, next_exists, same_value, same_after}
use Rattle.zone_tree.proofs.zone.ZoneZoneRead.exists.Goals as goal

pub returns-then-is_some : goal.returns-then-is_some
returns-then-is_some c =
    sym (ap (λ zone. exists zone c.args.name.now) (sym c.self.view_is) ∙ owner_exists c.self.inside.owners.pairs c.self.invariant.filed c.args.name.now c.get.result (c.get.ensures ∙ same_value c.new-sought.result c.args.name.now c.new-sought.ensures.order c.self.inside.owners.pairs) (sym c.is_some.ensures ∙ c.if-is_some.true))

pub returns-in-Some : goal.returns-in-Some
returns-in-Some c =
    c.is_under.ensures ∙ c.new-sought.ensures.above c.in-Some.pair.now.0
    ∙ sym (ap (λ zone. exists zone c.args.name.now) (sym c.self.view_is) ∙ next_exists c.self.inside.owners.pairs c.self.invariant.filed c.args.name.now c.get.result (c.get.ensures ∙ same_value c.new-sought.result c.args.name.now c.new-sought.ensures.order c.self.inside.owners.pairs) (sym c.is_some.ensures ∙ c.if-is_some.false) (Some c.in-Some.pair.now) (ap option_copied (sym c.in-Some.is) ∙ c.owner_behind.ensures ∙ same_after c.new-sought.result c.args.name.now c.new-sought.ensures.order c.self.inside.owners.pairs))

pub returns-in-None : goal.returns-in-None
returns-in-None c =
    sym (ap (λ zone. exists zone c.args.name.now) (sym c.self.view_is) ∙ next_exists c.self.inside.owners.pairs c.self.invariant.filed c.args.name.now c.get.result (c.get.ensures ∙ same_value c.new-sought.result c.args.name.now c.new-sought.ensures.order c.self.inside.owners.pairs) (sym c.is_some.ensures ∙ c.if-is_some.false) None (ap option_copied (sym c.in-None.is) ∙ c.owner_behind.ensures ∙ same_after c.new-sought.result c.args.name.now c.new-sought.ensures.order c.self.inside.owners.pairs))
