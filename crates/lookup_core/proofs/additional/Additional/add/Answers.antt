use Rattle.std.proofs.Common.{◌≡◌, ◌≤◌, ◌<◌, ◌∙◌, ◌++◌, ◌∷◌, [], length, sym, ap, arith, append-nil}
use Rattle.std.specs.List.{flat_map}
use Rattle.std.proofs.lemmas.Grind.{flat_map-append}
use Rattle.dns_rdata.specs.declared.shown.Shown.{Shown}
use Rattle.lookup_core.proofs.AdditionalLemmas.{with_more-new, with_more-known, with_more-full, count_of_sets}
use Rattle.lookup_core.proofs.additional.Additional.add.Goals as goal
use Rattle.lookup_core.proofs.additional.Additional.add.Goals.{else-not-is_full-via-then-not-is_full+else-not-has, else-not-is_full-via-else-not-is_full}

-- it is the last one
pub returns-then-not-has : goal.returns-then-not-has
returns-then-not-has c =
    let sets = λ (shown : Shown). shown.sets.now in
    let count : length c.args.self.now ≡ length c.self.inside.shown.items = ap length (sym c.self.view_is) ∙ count_of_sets c.self.inside.shown.items c.self.invariant in
    let room : length c.args.self.now < 32 = grind (arith, count, c.is_full.ensures.value, c.is_full.ensures.fits, c.if-not-is_full.true) in
    ap (flat_map sets) c.push.ensures.items ∙ flat_map-append sets c.self.inside.shown.items (c.unchanged_set.result ∷ [])
    ∙ ap (λ l. l ++ flat_map sets (c.unchanged_set.result ∷ [])) c.self.view_is ∙ ap (λ l. c.args.self.now ++ l) (append-nil (sets c.unchanged_set.result) ∙ c.unchanged_set.ensures.sets)
    ∙ sym (with_more-new c.args.self.now c.args.set.now room (sym c.has.ensures ∙ c.if-not-has.true))

-- it is there already, or there is no room for it
pub returns-else-not-is_full : goal.returns-else-not-is_full
returns-else-not-is_full c =
    let count : length c.args.self.now ≡ length c.self.inside.shown.items = ap length (sym c.self.view_is) ∙ count_of_sets c.self.inside.shown.items c.self.invariant in
    elim c.else-not-is_full.branch [
      | else-not-is_full-via-then-not-is_full+else-not-has w ↦ sym (with_more-known c.args.self.now c.args.set.now (sym w.has.ensures ∙ w.if-not-has.false))
      | else-not-is_full-via-else-not-is_full w ↦ let full : 32 ≤ length c.args.self.now = grind (arith, count, c.is_full.ensures.value, w.if-not-is_full.false) in sym (with_more-full c.args.self.now (c.args.set.now ∷ []) full)
    ]
