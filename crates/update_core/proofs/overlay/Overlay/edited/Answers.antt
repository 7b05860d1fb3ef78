use Rattle.std.proofs.Common.{◌≡◌, ◌+◌, ◌<◌, ◌≤◌, List, Some, length, refl, sym, ap, subst, ◌∙◌, arith, rules}
use Rattle.dns_name.specs.Name.{fold_name}
use Rattle.dns_rdata.specs.Record.{Record}
use Rattle.dns_rdata.specs.Raw.{RawRecord}
use Rattle.zone_tree.specs.Zone.{apex_of}
use Rattle.zone_tree.specs.Sets.{records_in}
use Rattle.zone_tree.specs.Change.{edited}
use Rattle.update_core.specs.Verdict.{prescan_of}
use Rattle.update_core.specs.Act.{effect}
use Rattle.update_core.specs.Applied.{AreOf}
use Rattle.update_core.specs.Overlay.{Overlaid, own_of, made_of}
use Rattle.update_core.proofs.OverlayLooks.{made_at}
use Rattle.update_core.proofs.OverlayEdits.{own_from_key, found_from_key, few_go, counted, over_limit, effect_is, made_is, made_apex, made_overlay}
use Rattle.update_core.proofs.overlay.Overlay.edited.Goals as goal

pub change_all-requires-clause-own : goal.change_all-requires-clause-own
change_all-requires-clause-own c =
    let r = c.args.raw.now in
    own_from_key c.args.owner c.raw.inside.owner (c.requires.key ∙ ap (λ (r : RawRecord). fold_name r.owner) (sym c.raw.view_is)) c.in_ok-own.own.items c.in_ok-own.ensures.own

pub count_with-requires : goal.count_with-requires
count_with-requires c =
    let base = c.self.inside.zone.now in
    let last = c.self.inside.last in
    let others = c.self.inside.others.entries in
    let count = c.self.inside.count in
    let h = c.self.invariant in
    let r = c.args.raw.now in
    let of = subst (λ (v : Overlaid). AreOf v.made r c.args.changes.items) (sym c.self.view_is) c.requires.of in
    let changes = c.args.changes.items in
    let own = c.in_ok-own.own.items in
    let mine = own_from_key c.args.owner r.owner c.requires.key own c.in_ok-own.ensures.own in
    let records = c.in_ok-own.ensures.records ∙ sym (made_at base last others count h c.args.owner (own_of c.args.owner last others) refl) ∙ found_from_key c.args.owner r.owner c.requires.key (made_of base last others) in
    let before = c.in_ok-before.ensures ∙ ap (λ (l : List (List Record)). length (records_in l)) c.deref.ensures.value in
    subst (λ n. n ≤ count) (sym before) (few_go base last others count h r changes of c.requires.at own mine records)

pub returns-in_err-count-clause-limit : goal.returns-in_err-count-clause-limit
returns-in_err-count-clause-limit c =
    let base = c.self.inside.zone.now in
    let last = c.self.inside.last in
    let others = c.self.inside.others.entries in
    let count = c.self.inside.count in
    let h = c.self.invariant in
    let r = c.args.raw.now in
    let of = subst (λ (v : Overlaid). AreOf v.made r c.args.changes.items) (sym c.self.view_is) c.requires.of in
    let changes = c.args.changes.items in
    let own = c.in_ok-own.own.items in
    let mine = own_from_key c.args.owner r.owner c.requires.key own c.in_ok-own.ensures.own in
    let records = c.in_ok-own.ensures.records ∙ sym (made_at base last others count h c.args.owner (own_of c.args.owner last others) refl) ∙ found_from_key c.args.owner r.owner c.requires.key (made_of base last others) in
    let before = c.in_ok-before.ensures ∙ ap (λ (l : List (List Record)). length (records_in l)) c.deref.ensures.value in
    let sets = c.change_all.new.own.items in
    let after = c.in_ok-after.ensures ∙ ap (λ (l : List (List Record)). length (records_in l)) c.deref-2.ensures.value in
    let sum = counted base last others count h r changes of c.requires.at own mine records sets c.in_ok-change_all.ensures in
    λ fault.
    let over : 1000000 + c.in_ok-before.before < count + c.in_ok-after.after = search rules in
    ap (λ (v : Overlaid). effect v.made r) (sym c.self.view_is) ∙ over_limit base last others count h r changes of c.requires.at own mine records (omega (arith, sum, over, before, after))

pub invariant_of-result : goal.invariant_of-result
invariant_of-result c =
    let base = c.self.inside.zone.now in
    let last = c.self.inside.last in
    let others = c.self.inside.others.entries in
    let count = c.self.inside.count in
    let h = c.self.invariant in
    let r = c.args.raw.now in
    let of = subst (λ (v : Overlaid). AreOf v.made r c.args.changes.items) (sym c.self.view_is) c.requires.of in
    let changes = c.args.changes.items in
    let own = c.in_ok-own.own.items in
    let mine = own_from_key c.args.owner r.owner c.requires.key own c.in_ok-own.ensures.own in
    let records = c.in_ok-own.ensures.records ∙ sym (made_at base last others count h c.args.owner (own_of c.args.owner last others) refl) ∙ found_from_key c.args.owner r.owner c.requires.key (made_of base last others) in
    let before = c.in_ok-before.ensures ∙ ap (λ (l : List (List Record)). length (records_in l)) c.deref.ensures.value in
    let sets = c.change_all.new.own.items in
    let after = c.in_ok-after.ensures ∙ ap (λ (l : List (List Record)). length (records_in l)) c.deref-2.ensures.value in
    let more = c.in_ok-count.count in
    let sum = counted base last others count h r changes of c.requires.at own mine records sets c.in_ok-change_all.ensures in
    let e : more ≡ length (edited (made_of base last others) changes) = omega (arith, sum, before, after, c.in_ok-count.ensures.counted.0) in
    let few = c.in_ok-count.ensures.counted.1 in
    made_overlay base last others count h r changes of c.requires.at own mine records more e few c.args.owner c.requires.key c.change_all.new.own c.in_ok-change_all.ensures c.taken.new.others.entries c.in_ok-own.ensures.each c.in_ok-own.ensures.ordered c.in_ok-own.ensures.others c.requires.sent (ap (λ (v : Overlaid). prescan_of v.made r) c.self.view_is ∙ c.requires.passed)

pub returns-clause-after : goal.returns-clause-after
returns-clause-after c =
    let base = c.self.inside.zone.now in
    let last = c.self.inside.last in
    let others = c.self.inside.others.entries in
    let count = c.self.inside.count in
    let h = c.self.invariant in
    let r = c.args.raw.now in
    let of = subst (λ (v : Overlaid). AreOf v.made r c.args.changes.items) (sym c.self.view_is) c.requires.of in
    let changes = c.args.changes.items in
    let own = c.in_ok-own.own.items in
    let mine = own_from_key c.args.owner r.owner c.requires.key own c.in_ok-own.ensures.own in
    let records = c.in_ok-own.ensures.records ∙ sym (made_at base last others count h c.args.owner (own_of c.args.owner last others) refl) ∙ found_from_key c.args.owner r.owner c.requires.key (made_of base last others) in
    let before = c.in_ok-before.ensures ∙ ap (λ (l : List (List Record)). length (records_in l)) c.deref.ensures.value in
    let sets = c.change_all.new.own.items in
    let after = c.in_ok-after.ensures ∙ ap (λ (l : List (List Record)). length (records_in l)) c.deref-2.ensures.value in
    let more = c.in_ok-count.count in
    let sum = counted base last others count h r changes of c.requires.at own mine records sets c.in_ok-change_all.ensures in
    let e : more ≡ length (edited (made_of base last others) changes) = omega (arith, sum, before, after, c.in_ok-count.ensures.counted.0) in
    let few = c.in_ok-count.ensures.counted.1 in
    ap (λ (v : Overlaid). effect v.made r) (sym c.self.view_is) ∙ effect_is base last others count h r changes of c.requires.at own mine records more e few
    ∙ ap Some (sym (made_is base last others count h r changes of c.requires.at own mine records more e few c.args.owner c.requires.key c.change_all.new.own c.in_ok-change_all.ensures c.taken.new.others.entries c.in_ok-own.ensures.each c.in_ok-own.ensures.ordered c.in_ok-own.ensures.others))

pub returns-clause-apex : goal.returns-clause-apex
returns-clause-apex c =
    let base = c.self.inside.zone.now in
    let last = c.self.inside.last in
    let others = c.self.inside.others.entries in
    let count = c.self.inside.count in
    let h = c.self.invariant in
    let r = c.args.raw.now in
    let of = subst (λ (v : Overlaid). AreOf v.made r c.args.changes.items) (sym c.self.view_is) c.requires.of in
    let changes = c.args.changes.items in
    let own = c.in_ok-own.own.items in
    let mine = own_from_key c.args.owner r.owner c.requires.key own c.in_ok-own.ensures.own in
    let records = c.in_ok-own.ensures.records ∙ sym (made_at base last others count h c.args.owner (own_of c.args.owner last others) refl) ∙ found_from_key c.args.owner r.owner c.requires.key (made_of base last others) in
    let before = c.in_ok-before.ensures ∙ ap (λ (l : List (List Record)). length (records_in l)) c.deref.ensures.value in
    let sets = c.change_all.new.own.items in
    let after = c.in_ok-after.ensures ∙ ap (λ (l : List (List Record)). length (records_in l)) c.deref-2.ensures.value in
    let more = c.in_ok-count.count in
    let sum = counted base last others count h r changes of c.requires.at own mine records sets c.in_ok-change_all.ensures in
    let e : more ≡ length (edited (made_of base last others) changes) = omega (arith, sum, before, after, c.in_ok-count.ensures.counted.0) in
    let few = c.in_ok-count.ensures.counted.1 in
    made_apex base last others count h r changes of c.requires.at own mine records more e few c.args.owner c.requires.key c.change_all.new.own c.in_ok-change_all.ensures c.taken.new.others.entries c.in_ok-own.ensures.each c.in_ok-own.ensures.ordered c.in_ok-own.ensures.others ∙ ap (λ (v : Overlaid). apex_of v.made) c.self.view_is
