use Rattle.std.proofs.Common.{◌≡◌, ℕ, List, ◌∷◌, true, false, refl, sym, ap, subst, ◌∙◌}
use Rattle.std.specs.Option.{option_copied, IsNone, IfSome}
use Rattle.dns_name.specs.Name.{asterisk}
use Rattle.zone_tree.specs.Zone.{exists}
use Rattle.lookup_core.specs.Shown.{AreAllAt, AreAllAtSource}
use Rattle.lookup_core.proofs.DownLemmas.{under_closest, level_exists, same_closest, has_room, own_at, at_cut, at_name, at_source, at_none}
use Rattle.lookup_core.proofs.walk.match_sought.Goals as goal

pub is_level-there-requires : goal.is_level-there-requires
is_level-there-requires g c = under_closest (g.Z.ZoneRead.records c.args.zone.now) c.args.sought.now c.around-near.result.closest c.around-near.ensures.closest

pub cut_of-requires-clause-own : goal.cut_of-requires-clause-own
cut_of-requires-clause-own g c =
    let zone = g.Z.ZoneRead.records c.args.zone.now in
    own_at zone c.around-near.result.closest c.is_level-there.result c.around-near.result.sets.now c.own_sets-own.result c.own_sets-own.ensures
    (λ there. subst (λ n. AreAllAt zone n c.around-near.result.sets.now)
    (same_closest zone c.args.sought.now c.around-near.result.closest c.around-near.ensures.closest (sym c.is_level-there.ensures ∙ there))
    (record { records = c.around-near.ensures.records; whole = c.around-near.ensures.whole }))

-- a zone cut is on the way down
pub returns-in-Some : goal.returns-in-Some
returns-in-Some g c =
    let zone = g.Z.ZoneRead.records c.args.zone.now in
    let near = rw c.requires.sought at c.around-near.ensures.closest in
    at_cut zone c.args.name.now c.around-near.result.closest near c.in-Some.servers (ap option_copied (sym c.in-Some.is) ∙ c.cut_of.ensures)

-- the name exists
pub returns-then-there : goal.returns-then-there
returns-then-there g c =
    let zone = g.Z.ZoneRead.records c.args.zone.now in
    let near = rw c.requires.sought at c.around-near.ensures.closest in
    let uncut = ap option_copied (sym c.in_default.is) ∙ c.cut_of.ensures in
    let there = sym (level_exists zone c.args.sought.now c.around-near.result.closest c.around-near.ensures.closest) ∙ sym c.is_level-there.ensures ∙ c.if-there.true in
    let all : AreAllAt zone c.args.sought.now c.around-near.result.sets.now = record { records = c.around-near.ensures.records; whole = c.around-near.ensures.whole } in
    at_name zone c.args.name.now c.around-near.result.closest near uncut c.around-near.result.sets (subst (λ (n : List (List ℕ)). exists zone n ≡ true) c.requires.sought there)
    (subst (λ (n : List (List ℕ)). AreAllAt zone n c.around-near.result.sets.now) c.requires.sought all)

-- it doesn't, and there is room for `*` in front of the closest that does
pub source_sets-requires : goal.source_sets-requires
source_sets-requires g c =
    let zone = g.Z.ZoneRead.records c.args.zone.now in
    let near = rw c.requires.sought at c.around-near.ensures.closest in
    let missing = sym (level_exists zone c.args.sought.now c.around-near.result.closest c.around-near.ensures.closest) ∙ sym c.is_level-there.ensures ∙ c.if-there.false in
    has_room zone c.args.name.now c.around-near.result.closest (subst (λ (n : List (List ℕ)). exists zone n ≡ false) c.requires.sought missing) near c.wire.ensures.lawful

-- the source of synthesis does
pub returns-in-Some-source_sets : goal.returns-in-Some-source_sets
returns-in-Some-source_sets g c =
    let zone = g.Z.ZoneRead.records c.args.zone.now in
    let closest = c.around-near.result.closest in
    let near = rw c.requires.sought at c.around-near.ensures.closest in
    let uncut = ap option_copied (sym c.in_default.is) ∙ c.cut_of.ensures in
    let missing = sym (level_exists zone c.args.sought.now c.around-near.result.closest c.around-near.ensures.closest) ∙ sym c.is_level-there.ensures ∙ c.if-there.false in
    at_source zone c.args.name.now closest near uncut (subst (λ (n : List (List ℕ)). exists zone n ≡ false) c.requires.sought missing) c.in-Some-source_sets.sets
    (subst (λ r. IfSome r (λ sets. AreAllAtSource zone (asterisk ∷ closest) sets.now)) c.in-Some-source_sets.is c.source_sets.ensures.some)

-- neither does
pub returns-in-None : goal.returns-in-None
returns-in-None g c =
    let zone = g.Z.ZoneRead.records c.args.zone.now in
    let near = rw c.requires.sought at c.around-near.ensures.closest in
    let uncut = ap option_copied (sym c.in_default.is) ∙ c.cut_of.ensures in
    let missing = sym (level_exists zone c.args.sought.now c.around-near.result.closest c.around-near.ensures.closest) ∙ sym c.is_level-there.ensures ∙ c.if-there.false in
    at_none zone c.args.name.now c.around-near.result.closest near uncut (subst (λ (n : List (List ℕ)). exists zone n ≡ false) c.requires.sought missing)
    (c.source_sets.ensures.none (subst (λ r. IsNone r) (sym c.in-None.is) refl))
