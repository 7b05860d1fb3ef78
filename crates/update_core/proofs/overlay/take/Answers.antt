use Rattle.std.proofs.Common.{◌≡◌, sym, ap, subst, ◌∙◌}
use Rattle.std.proofs.lemmas.Result.{IfOk-weaker}
use Rattle.zone_tree.specs.Zone.{rrsets_of}
use Rattle.zone_tree.specs.Sets.{records_in}
use Rattle.update_core.specs.Overlay.{AllOwn, at_owner, own_at}
use Rattle.update_core.proofs.OverlayLemmas.{found_own, copies_own, each_removed, other_stays}
use Rattle.update_core.proofs.TaggedLemmas.{same_lookup}
use Rattle.update_core.proofs.overlay.take.Goals as goal

pub returns-in-Some-clause-own : goal.returns-in-Some-clause-own
returns-in-Some-clause-own c =
    found_own c.args.owner.now c.args.others.now.entries c.in-Some.own c.requires (sym (same_lookup c.args.owner.now c.args.others.now.entries) ∙ sym c.remove.ensures.value ∙ c.in-Some.is)

pub returns-in-Some-clause-records : goal.returns-in-Some-clause-records
returns-in-Some-clause-records c =
    ap (at_owner (rrsets_of c.args.zone.now c.args.owner.now)) (sym c.in-Some.is ∙ c.remove.ensures.value ∙ same_lookup c.args.owner.now c.args.others.now.entries)

pub returns-in-Some-clause-each : goal.returns-in-Some-clause-each
returns-in-Some-clause-each c = subst AllOwn (sym c.remove.ensures.entries) (each_removed c.args.owner.now c.args.others.now.entries c.requires)

pub returns-in-Some-clause-others : goal.returns-in-Some-clause-others
returns-in-Some-clause-others c = λ name apart. other_stays c.args.owner.now name c.args.others.now.entries c.remove.new.self.entries (c.remove.ensures.updates.0 name) apart

pub returns-in-None-clause-each : goal.returns-in-None-clause-each
returns-in-None-clause-each c = subst AllOwn (sym c.remove.ensures.entries) (each_removed c.args.owner.now c.args.others.now.entries c.requires)

pub returns-in-None-clause-others : goal.returns-in-None-clause-others
returns-in-None-clause-others c = λ name apart. other_stays c.args.owner.now name c.args.others.now.entries c.remove.new.self.entries (c.remove.ensures.updates.0 name) apart

pub returns-in-None-clause-own : goal.returns-in-None-clause-own
returns-in-None-clause-own c =
    let zone = c.args.zone.now in
    copies_own zone c.args.owner.now c.stored_sets.result.now c.copies.result c.copies.ensures c.stored_sets.ensures.each (c.stored_sets.ensures.records ∙ ap (rrsets_of zone) c.name.ensures) c.stored_sets.ensures.whole

pub returns-in-None-clause-records : goal.returns-in-None-clause-records
returns-in-None-clause-records c =
    let zone = c.args.zone.now in
    let owner = c.args.owner.now in
    let others = c.args.others.now.entries in
    let none = sym (same_lookup owner others) ∙ sym c.remove.ensures.value ∙ c.in-None.is in
    IfOk-weaker c.copies.result (λ own. own.items ≡ c.stored_sets.result.now) (λ own. records_in own.items ≡ at_owner (rrsets_of zone owner) (own_at owner others))
    (λ own e. ap records_in e ∙ c.stored_sets.ensures.records ∙ ap (rrsets_of zone) c.name.ensures ∙ ap (at_owner (rrsets_of zone owner)) (sym none)) c.copies.ensures
