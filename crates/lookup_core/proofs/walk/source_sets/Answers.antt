use Rattle.std.proofs.Common.{◌≡◌, ℕ, List, false, sym, subst, ◌∙◌}
use Rattle.zone_tree.specs.Zone.{exists}
use Rattle.lookup_core.proofs.DownLemmas.{level_exists, under_closest}
use Rattle.lookup_core.proofs.walk.source_sets.Goals as goal

pub is_level-requires : goal.is_level-requires
is_level-requires g c = under_closest (g.Z.ZoneRead.records c.args.zone.now) c.with_asterisk-source.result c.around-near.result.closest c.around-near.ensures.closest

-- the source is there
pub returns-then-is_level-clause-some : goal.returns-then-is_level-clause-some
returns-then-is_level-clause-some g c =
    let zone = g.Z.ZoneRead.records c.args.zone.now in
    rw (← c.with_asterisk-source.ensures)
    (record {
      there = sym (level_exists zone c.with_asterisk-source.result c.around-near.result.closest c.around-near.ensures.closest) ∙ sym c.is_level.ensures ∙ c.if-is_level.true;
      all = record { records = c.around-near.ensures.records; whole = c.around-near.ensures.whole };
    })

-- it isn't
pub returns-else-is_level-clause-none : goal.returns-else-is_level-clause-none
returns-else-is_level-clause-none g c = λ _.
    let zone = g.Z.ZoneRead.records c.args.zone.now in
    subst (λ (n : List (List ℕ)). exists zone n ≡ false) c.with_asterisk-source.ensures
    (sym (level_exists zone c.with_asterisk-source.result c.around-near.result.closest c.around-near.ensures.closest) ∙ sym c.is_level.ensures ∙ c.if-is_level.false)
