use Rattle.std.proofs.Common.{◌≡◌, ◌+◌, ◌<◌, [], ◌∷◌, Some, length, refl, sym, ap, subst, ◌∙◌, arith, rules}
use Rattle.zone_tree.specs.Zone.{apex_of}
use Rattle.zone_tree.specs.Change.{edited}
use Rattle.update_core.specs.Verdict.{prescan_of}
use Rattle.update_core.specs.Act.{effect}
use Rattle.update_core.specs.Overlay.{Overlaid, IsOfOneSet, own_of, made_of, set_left, change_for}
use Rattle.update_core.proofs.OverlayLooks.{made_at}
use Rattle.update_core.proofs.OverlayEdits.{own_from_key, found_from_key, left_at, one_counted, one_fits, over_limit, effect_is, made_is, made_apex, made_overlay}
use Rattle.update_core.proofs.overlay.Overlay.with_set.Goals as goal

pub change_set-requires-clause-own : goal.change_set-requires-clause-own
change_set-requires-clause-own c = own_from_key c.args.owner c.args.raw.now.owner c.requires.key c.in_ok-own.own.items c.in_ok-own.ensures.own

pub returns-in_err-before-clause-limit : goal.returns-in_err-before-clause-limit
returns-in_err-before-clause-limit c =
    let base = c.self.inside.zone.now in
    let last = c.self.inside.last in
    let others = c.self.inside.others.entries in
    let count = c.self.inside.count in
    let h = c.self.invariant in
    let r = c.args.raw.now in
    let cur = made_of base last others in
    let row = subst (λ (v : Overlaid). IsOfOneSet v.made r c.args.rdata) (sym c.self.view_is) c.requires.row in
    let own = c.in_ok-own.own.items in
    let mine = own_from_key c.args.owner r.owner c.requires.key own c.in_ok-own.ensures.own in
    let records = c.in_ok-own.ensures.records ∙ sym (made_at base last others count h c.args.owner (own_of c.args.owner last others) refl) ∙ found_from_key c.args.owner r.owner c.requires.key cur in
    λ fault. ap (λ (v : Overlaid). effect v.made r) (sym c.self.view_is) ∙ (let over = c.in_err-before.ensures.limit cur h.lawful records (search rules) in row.limit over.0 over.1)

pub count_with-requires : goal.count_with-requires
count_with-requires c =
    let base = c.self.inside.zone.now in
    let last = c.self.inside.last in
    let others = c.self.inside.others.entries in
    let count = c.self.inside.count in
    let h = c.self.invariant in
    let r = c.args.raw.now in
    let cur = made_of base last others in
    let row = subst (λ (v : Overlaid). IsOfOneSet v.made r c.args.rdata) (sym c.self.view_is) c.requires.row in
    let own = c.in_ok-own.own.items in
    let mine = own_from_key c.args.owner r.owner c.requires.key own c.in_ok-own.ensures.own in
    let records = c.in_ok-own.ensures.records ∙ sym (made_at base last others count h c.args.owner (own_of c.args.owner last others) refl) ∙ found_from_key c.args.owner r.owner c.requires.key cur in
    let counts = c.in_ok-before.ensures.counts cur h.lawful records in
    one_fits cur r count c.in_ok-before.before h.counted counts.0

pub returns-in_err-count-clause-limit : goal.returns-in_err-count-clause-limit
returns-in_err-count-clause-limit c =
    let base = c.self.inside.zone.now in
    let last = c.self.inside.last in
    let others = c.self.inside.others.entries in
    let count = c.self.inside.count in
    let h = c.self.invariant in
    let r = c.args.raw.now in
    let cur = made_of base last others in
    let row = subst (λ (v : Overlaid). IsOfOneSet v.made r c.args.rdata) (sym c.self.view_is) c.requires.row in
    let own = c.in_ok-own.own.items in
    let mine = own_from_key c.args.owner r.owner c.requires.key own c.in_ok-own.ensures.own in
    let records = c.in_ok-own.ensures.records ∙ sym (made_at base last others count h c.args.owner (own_of c.args.owner last others) refl) ∙ found_from_key c.args.owner r.owner c.requires.key cur in
    let changed = c.in_ok-before.ensures.each cur h.lawful records in
    let counts = c.in_ok-before.ensures.counts cur h.lawful records in
    let changes = change_for r (set_left cur r) ∷ [] in
    let of = row.of changed.1 in
    let at = left_at cur r changed.1 in
    let sum = one_counted cur r count c.in_ok-before.before c.in_ok-before.after h.counted counts.0 counts.1 in
    λ fault.
    let over : 1000000 + c.in_ok-before.before < count + c.in_ok-before.after = search rules in
    ap (λ (v : Overlaid). effect v.made r) (sym c.self.view_is) ∙ over_limit base last others count h r changes of at own mine records (omega (arith, sum, over))

pub invariant_of-result : goal.invariant_of-result
invariant_of-result c =
    let base = c.self.inside.zone.now in
    let last = c.self.inside.last in
    let others = c.self.inside.others.entries in
    let count = c.self.inside.count in
    let h = c.self.invariant in
    let r = c.args.raw.now in
    let cur = made_of base last others in
    let row = subst (λ (v : Overlaid). IsOfOneSet v.made r c.args.rdata) (sym c.self.view_is) c.requires.row in
    let own = c.in_ok-own.own.items in
    let mine = own_from_key c.args.owner r.owner c.requires.key own c.in_ok-own.ensures.own in
    let records = c.in_ok-own.ensures.records ∙ sym (made_at base last others count h c.args.owner (own_of c.args.owner last others) refl) ∙ found_from_key c.args.owner r.owner c.requires.key cur in
    let changed = c.in_ok-before.ensures.each cur h.lawful records in
    let counts = c.in_ok-before.ensures.counts cur h.lawful records in
    let changes = change_for r (set_left cur r) ∷ [] in
    let of = row.of changed.1 in
    let at = left_at cur r changed.1 in
    let more = c.in_ok-count.count in
    let sum = one_counted cur r count c.in_ok-before.before c.in_ok-before.after h.counted counts.0 counts.1 in
    let e : more ≡ length (edited cur changes) = omega (arith, sum, c.in_ok-count.ensures.counted.0) in
    let few = c.in_ok-count.ensures.counted.1 in
    made_overlay base last others count h r changes of at own mine records more e few c.args.owner c.requires.key c.change_set.new.own changed.0 c.taken.new.others.entries c.in_ok-own.ensures.each c.in_ok-own.ensures.ordered c.in_ok-own.ensures.others c.requires.sent (ap (λ (v : Overlaid). prescan_of v.made r) c.self.view_is ∙ c.requires.passed)

pub returns-clause-after : goal.returns-clause-after
returns-clause-after c =
    let base = c.self.inside.zone.now in
    let last = c.self.inside.last in
    let others = c.self.inside.others.entries in
    let count = c.self.inside.count in
    let h = c.self.invariant in
    let r = c.args.raw.now in
    let cur = made_of base last others in
    let row = subst (λ (v : Overlaid). IsOfOneSet v.made r c.args.rdata) (sym c.self.view_is) c.requires.row in
    let own = c.in_ok-own.own.items in
    let mine = own_from_key c.args.owner r.owner c.requires.key own c.in_ok-own.ensures.own in
    let records = c.in_ok-own.ensures.records ∙ sym (made_at base last others count h c.args.owner (own_of c.args.owner last others) refl) ∙ found_from_key c.args.owner r.owner c.requires.key cur in
    let changed = c.in_ok-before.ensures.each cur h.lawful records in
    let counts = c.in_ok-before.ensures.counts cur h.lawful records in
    let changes = change_for r (set_left cur r) ∷ [] in
    let of = row.of changed.1 in
    let at = left_at cur r changed.1 in
    let more = c.in_ok-count.count in
    let sum = one_counted cur r count c.in_ok-before.before c.in_ok-before.after h.counted counts.0 counts.1 in
    let e : more ≡ length (edited cur changes) = omega (arith, sum, c.in_ok-count.ensures.counted.0) in
    let few = c.in_ok-count.ensures.counted.1 in
    ap (λ (v : Overlaid). effect v.made r) (sym c.self.view_is) ∙ effect_is base last others count h r changes of at own mine records more e few
    ∙ ap Some (sym (made_is base last others count h r changes of at own mine records more e few c.args.owner c.requires.key c.change_set.new.own changed.0 c.taken.new.others.entries c.in_ok-own.ensures.each c.in_ok-own.ensures.ordered c.in_ok-own.ensures.others))

pub returns-clause-apex : goal.returns-clause-apex
returns-clause-apex c =
    let base = c.self.inside.zone.now in
    let last = c.self.inside.last in
    let others = c.self.inside.others.entries in
    let count = c.self.inside.count in
    let h = c.self.invariant in
    let r = c.args.raw.now in
    let cur = made_of base last others in
    let row = subst (λ (v : Overlaid). IsOfOneSet v.made r c.args.rdata) (sym c.self.view_is) c.requires.row in
    let own = c.in_ok-own.own.items in
    let mine = own_from_key c.args.owner r.owner c.requires.key own c.in_ok-own.ensures.own in
    let records = c.in_ok-own.ensures.records ∙ sym (made_at base last others count h c.args.owner (own_of c.args.owner last others) refl) ∙ found_from_key c.args.owner r.owner c.requires.key cur in
    let changed = c.in_ok-before.ensures.each cur h.lawful records in
    let counts = c.in_ok-before.ensures.counts cur h.lawful records in
    let changes = change_for r (set_left cur r) ∷ [] in
    let of = row.of changed.1 in
    let at = left_at cur r changed.1 in
    let more = c.in_ok-count.count in
    let sum = one_counted cur r count c.in_ok-before.before c.in_ok-before.after h.counted counts.0 counts.1 in
    let e : more ≡ length (edited cur changes) = omega (arith, sum, c.in_ok-count.ensures.counted.0) in
    let few = c.in_ok-count.ensures.counted.1 in
    made_apex base last others count h r changes of at own mine records more e few c.args.owner c.requires.key c.change_set.new.own changed.0 c.taken.new.others.entries c.in_ok-own.ensures.each c.in_ok-own.ensures.ordered c.in_ok-own.ensures.others ∙ ap (λ (v : Overlaid). apex_of v.made) c.self.view_is
