use Rattle.std.proofs.Common.{◌≡◌, ◌∙◌, sym, ap, subst, [], ◌∷◌, Some, None}
use Rattle.dns_rdata.specs.Record.{owner_of, rtype_of}
use Rattle.zone_tree.specs.Change.{changed}
use Rattle.zone_tree.specs.Edit.{put_at, set_beside, IsFor}
use Rattle.zone_tree.specs.Sets.{records_in, IsRRset, AreAscending}
use Rattle.zone_tree.proofs.EditLemmas.{put_is, remove_is, put_ascends, one_each, one_rises, weaker_if_ok}
use Rattle.test_zone.proofs.edits.changed_plainly.Goals as goal

pub returns-in-Put-clause-ascending : goal.returns-in-Put-clause-ascending
returns-in-Put-clause-ascending c =
    let set = c.in-Put.set in
    let fits : IsFor c.owner.result c.rtype.result.0 set = (sym c.owner.ensures.of ∙ c.owner.ensures.folded, sym c.rtype.ensures.of) in
    weaker_if_ok c.put_plainly.result
    (λ next e. subst AreAscending (sym e) (put_ascends c.owner.result c.rtype.result.0 (set ∷ []) c.args.sets.now c.requires (c.put_plainly.ensures.lawful, tt) (fits, tt) (tt, tt)))
    c.put_plainly.ensures.sets

pub returns-in-Put-clause-records : goal.returns-in-Put-clause-records
returns-in-Put-clause-records c =
    let set = c.in-Put.set in
    weaker_if_ok c.put_plainly.result
    (λ next e. ap records_in e ∙ (λ i. records_in (put_at (set_beside (c.owner.ensures.of i) (c.rtype.ensures.of i)) (set ∷ []) c.args.sets.now))
    ∙ put_is c.args.sets.now c.requires.each set ∙ ap (changed (records_in c.args.sets.now)) (sym c.in-Put.is))
    c.put_plainly.ensures.sets

pub returns-in-Remove-clause-ascending : goal.returns-in-Remove-clause-ascending
returns-in-Remove-clause-ascending c =
    weaker_if_ok c.put_plainly-in-Remove.result
    (λ next e. subst AreAscending (sym e) (put_ascends c.in-Remove.owner c.in-Remove.rtype.0 [] c.args.sets.now c.requires tt tt tt))
    c.put_plainly-in-Remove.ensures.sets

pub returns-in-Remove-clause-records : goal.returns-in-Remove-clause-records
returns-in-Remove-clause-records c =
    weaker_if_ok c.put_plainly-in-Remove.result
    (λ next e. ap records_in e ∙ remove_is c.args.sets.now c.requires c.in-Remove.owner c.in-Remove.rtype.0 ∙ ap (changed (records_in c.args.sets.now)) (sym c.in-Remove.is))
    c.put_plainly-in-Remove.ensures.sets
