use Rattle.std.proofs.Common.{◌≡◌, ◌≢◌, ◌≤◌, [], length, List, Option, None, Err, sym, ap, subst, ◌∙◌, rules}
use Rattle.std.specs.Option.{IfSome}
use Rattle.std.specs.Result.{IsErrOf}
use Rattle.std.proofs.lemmas.List.Elements.{recursion_from_All}
use Rattle.dns_rdata.specs.Limits.{max_set}
use Rattle.dns_rdata.specs.Raw.{RawRecord}
use Rattle.dns_rdata.specs.Record.{Record, rtype_of}
use Rattle.zone_tree.specs.From.{DoTypesAscend}
use Rattle.zone_tree.specs.Sets.{IsRRset}
use Rattle.update_core.specs.Overlay.{set_or_none}
use Rattle.update_core.specs.declared.rows.ActFault.TheVariants.{Limit}
use Rattle.update_core.proofs.OwnSets.{types_rise, types_kept}
use Rattle.update_core.proofs.TypePlaces.{found_of}
use Rattle.update_core.proofs.OneSets.{old_is, found_as, kept_as, changed_put, changed_gone}
use Rattle.update_core.proofs.one_set.change_set.Goals as goal

pub remove_set-old-requires : goal.remove_set-old-requires
remove_set-old-requires c = types_rise c.args.raw.now.owner c.args.own.now.items c.requires.own

pub set_after-requires-clause-old : goal.set_after-requires-clause-old
set_after-requires-clause-old c =
    let own = c.args.own.now.items in
    let rtype = c.args.raw.now.rtype in
    let found = found_as own c.remove_set-old.result _ rtype (ap (λ (r : RawRecord). r.rtype) c.raw.view_is) c.remove_set-old.ensures.set in
    subst (λ (old : Option (List Record)). IfSome old (λ set. (set ≢ []) × (rtype_of set ≡ rtype))) (sym found) (found_of rtype own (recursion_from_All IsRRset own c.requires.own.rising.each))

pub returns-in_err-new-clause-limit : goal.returns-in_err-new-clause-limit
returns-in_err-new-clause-limit c = λ zone lawful is fault.
    let own = c.args.own.now.items in
    let r = c.args.raw.now in
    let found = found_as own c.remove_set-old.result _ r.rtype (ap (λ (r : RawRecord). r.rtype) c.raw.view_is) c.remove_set-old.ensures.set in
    let at : IsErrOf {T = Option (List Record)} (Err c.in_err-new.field-0.0) Limit = search rules in
    c.in_err-new.ensures.limit zone lawful (old_is zone r.owner own c.requires.own is r.rtype c.remove_set-old.result found) at

pub put_set-requires : goal.put_set-requires
put_set-requires c =
    subst DoTypesAscend (sym c.remove_set-old.ensures.left) (types_kept _ c.args.own.now.items (types_rise c.args.raw.now.owner c.args.own.now.items c.requires.own))

pub returns-in_ok-put_set-clause-each : goal.returns-in_ok-put_set-clause-each
returns-in_ok-put_set-clause-each c = λ zone lawful is.
    let own = c.args.own.now.items in
    let r = c.args.raw.now in
    let typed = ap (λ (r : RawRecord). r.rtype) c.raw.view_is in
    let found = found_as own c.remove_set-old.result _ r.rtype typed c.remove_set-old.ensures.set in
    let kept = kept_as own c.remove_set-old.new.own.items _ r.rtype typed c.remove_set-old.ensures.left in
    let left = c.in_ok-new.ensures.set zone lawful (old_is zone r.owner own c.requires.own is r.rtype c.remove_set-old.result found) in
    let whole = subst (λ (new : Option (List Record)). IfSome new (λ set. IsRRset set × (length set ≤ max_set))) c.in-Some.is c.count_of-after.ensures.lawful in
    changed_put zone r own c.remove_set-old.new.own.items c.put_set.new.own.items c.in-Some.set kept (ap set_or_none (sym c.in-Some.is) ∙ left) whole c.in_ok-put_set.ensures

pub returns-in_ok-put_set-clause-counts : goal.returns-in_ok-put_set-clause-counts
returns-in_ok-put_set-clause-counts c = λ zone lawful is.
    let own = c.args.own.now.items in
    let r = c.args.raw.now in
    let found = found_as own c.remove_set-old.result _ r.rtype (ap (λ (r : RawRecord). r.rtype) c.raw.view_is) c.remove_set-old.ensures.set in
    let old = old_is zone r.owner own c.requires.own is r.rtype c.remove_set-old.result found in
    (c.count_of-before.ensures.count ∙ ap length old, c.count_of-after.ensures.count ∙ ap length (c.in_ok-new.ensures.set zone lawful old))

pub returns-in_default-clause-each : goal.returns-in_default-clause-each
returns-in_default-clause-each c = λ zone lawful is.
    let own = c.args.own.now.items in
    let r = c.args.raw.now in
    let typed = ap (λ (r : RawRecord). r.rtype) c.raw.view_is in
    let found = found_as own c.remove_set-old.result _ r.rtype typed c.remove_set-old.ensures.set in
    let kept = kept_as own c.remove_set-old.new.own.items _ r.rtype typed c.remove_set-old.ensures.left in
    let left = c.in_ok-new.ensures.set zone lawful (old_is zone r.owner own c.requires.own is r.rtype c.remove_set-old.result found) in
    let none : c.in_ok-new.new ≡ None = search rules in
    changed_gone zone r own c.remove_set-old.new.own.items (ap set_or_none (sym none) ∙ left) kept

pub returns-in_default-clause-counts : goal.returns-in_default-clause-counts
returns-in_default-clause-counts c = λ zone lawful is.
    let own = c.args.own.now.items in
    let r = c.args.raw.now in
    let found = found_as own c.remove_set-old.result _ r.rtype (ap (λ (r : RawRecord). r.rtype) c.raw.view_is) c.remove_set-old.ensures.set in
    let old = old_is zone r.owner own c.requires.own is r.rtype c.remove_set-old.result found in
    (c.count_of-before.ensures.count ∙ ap length old, c.count_of-after.ensures.count ∙ ap length (c.in_ok-new.ensures.set zone lawful old))
