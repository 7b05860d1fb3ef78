-- The records, by the sets.
use Rattle.std.proofs.Common.{◌∙◌, sym, ap, [], ◌∷◌}
use Rattle.zone_tree.specs.Change.{changed}
use Rattle.zone_tree.specs.Edit.{put_at, set_beside, IsFor}
use Rattle.zone_tree.specs.Filed.{sets_under, records_under}
use Rattle.zone_tree.specs.Sets.{records_in}
use Rattle.zone_tree.proofs.EditLemmas.{put_is, remove_is, weaker_if_ok}
use Rattle.zone_tree.proofs.draft.with_change.Goals as goal

pub returns-in-Put-clause-records : goal.returns-in-Put-clause-records
returns-in-Put-clause-records c =
    let pairs = c.args.draft.now.owners.pairs in
    let set = c.in-Put.set in
    let rising = c.requires.filed.rising in
    let fits : IsFor c.owner.result c.rtype.result.0 set = (sym c.owner.ensures.of ∙ c.owner.ensures.folded, sym c.rtype.ensures.of) in
    weaker_if_ok c.with_set.result
    (λ next e. ap records_in e ∙ (λ i. records_in (put_at (set_beside (c.owner.ensures.of i) (c.rtype.ensures.of i)) (set ∷ []) (sets_under pairs)))
    ∙ put_is (sets_under pairs) rising.each set ∙ ap (changed (records_under pairs)) (sym c.in-Put.is))
    (c.with_set.ensures.sets fits)

pub returns-in-Remove-clause-records : goal.returns-in-Remove-clause-records
returns-in-Remove-clause-records c =
    let pairs = c.args.draft.now.owners.pairs in
    let rising = c.requires.filed.rising in
    weaker_if_ok c.with_set-in-Remove.result
    (λ next e. ap records_in e ∙ remove_is (sets_under pairs) rising c.in-Remove.owner c.in-Remove.rtype.0 ∙ ap (changed (records_under pairs)) (sym c.in-Remove.is))
    (c.with_set-in-Remove.ensures.sets tt)
