use Rattle.std.proofs.Common.{◌≡◌, true, sym, ap, ◌∙◌}
use Rattle.dns_name.specs.Name.{is_same}
use Rattle.dns_rdata.specs.Record.{owner_of}
use Rattle.zone_tree.proofs.NameOrder.{folds_from_same}
use Rattle.zone_change.proofs.change.have_one_apex.Goals as goal

pub returns-clause-one : goal.returns-clause-one
returns-clause-one c = λ e.
    let a = c.stored_owner.result.now in
    let b = c.stored_owner-2.result.now in
    let alike : is_same a b ≡ true = sym c.eq.ensures ∙ e in
    let same = c.stored_owner.ensures.folded ∙ folds_from_same a b alike ∙ sym c.stored_owner-2.ensures.folded in
    ap owner_of (sym c.soa.ensures.set) ∙ sym c.stored_owner.ensures.of ∙ same ∙ c.stored_owner-2.ensures.of ∙ ap owner_of c.soa-2.ensures.set
