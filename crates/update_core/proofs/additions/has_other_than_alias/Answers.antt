use Rattle.std.proofs.Common.{not, ◌&&◌, sym, ap, ◌∙◌}
use Rattle.dns_rdata.specs.Numbers.{type_CNAME}
use Rattle.update_core.specs.Verdict.{has_rrset}
use Rattle.update_core.proofs.RowLemmas.{other_is}
use Rattle.update_core.proofs.additions.has_other_than_alias.Goals as goal

pub returns-then-is_in_use : goal.returns-then-is_in_use
returns-then-is_in_use c =
    let zone = c.args.zone.now.made in
    let owner = c.args.zone.now.owner in
    ap not c.has_alias.ensures ∙ sym (other_is zone owner c.requires.rules ∙ ap (λ b. b && not (has_rrset zone owner type_CNAME)) (sym c.is_in_use.ensures ∙ c.if-is_in_use.true))

pub returns-else-is_in_use : goal.returns-else-is_in_use
returns-else-is_in_use c =
    let zone = c.args.zone.now.made in
    let owner = c.args.zone.now.owner in
    c.if-is_in_use.false ∙ sym (other_is zone owner c.requires.rules ∙ ap (λ b. b && not (has_rrset zone owner type_CNAME)) (sym c.is_in_use.ensures ∙ c.if-is_in_use.false))
