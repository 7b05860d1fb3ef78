use Rattle.std.proofs.Common.{◌≡◌, ◌≢◌, MatchBool, Option, sym, subst}
use Rattle.std.specs.Option.{IfSome}
use Rattle.zone_tree.specs.Filed.{Owned}
use Rattle.zone_tree.specs.Zone.{rrsets_of}
use Rattle.update_core.proofs.OverlayLooks.{StaysAt, reported}
use Rattle.update_core.proofs.overlay.Overlay.is_changed.Goals as goal

pub returns-in_default-clause-changed : goal.returns-in_default-clause-changed
returns-in_default-clause-changed c =
    let v = c.args.self.now in
    reported c.self.inside.zone.now c.self.inside.last c.self.inside.others.entries c.self.inside.count c.self.invariant v c.self.view_is
    (subst (λ (l : Option Owned). IfSome l (λ own. StaysAt v own.0)) (sym c.in_default.is) tt)
    c.differs_at_any.result c.differs_at_any.ensures

pub returns-clause-changed : goal.returns-clause-changed
returns-clause-changed c =
    let v = c.args.self.now in
    let owner = c.in-Some.last.0 in
    let stays = subst (λ b. MatchBool b (rrsets_of v.made owner ≢ rrsets_of v.base owner) (rrsets_of v.made owner ≡ rrsets_of v.base owner)) c.if-differs_at.false c.differs_at.ensures in
    reported c.self.inside.zone.now c.self.inside.last c.self.inside.others.entries c.self.inside.count c.self.invariant v c.self.view_is
    (subst (λ (l : Option Owned). IfSome l (λ own. StaysAt v own.0)) (sym c.in-Some.is) stays)
    c.differs_at_any-2.result c.differs_at_any-2.ensures
