-- One set of one record; or no sets; or more than one, and so more than one record.
use Rattle.std.proofs.Common.{sym, ap, ◌∙◌, arith}
use Rattle.std.specs.Prelude.{◌==◌}
use Rattle.zone_tree.proofs.RuleLemmas.{one_at, not_one_at, not_one, single}
use Rattle.zone_tree.proofs.rules.has_one_record.Goals as goal

pub returns-in-len1 : goal.returns-in-len1
returns-in-len1 c =
    let only = c.only-item.result in
    let at = sym c.sets_at.ensures ∙ single c.sets_at.result.now only c.in-len1.len_at_least c.in-len1.len_below c.only-item.is in
    ap (λ n. n == 1) (c.len_of.ensures.len ∙ sym (one_at c.args.sets.now c.requires c.args.owner.now only at))

pub returns-in_default : goal.returns-in_default
returns-in_default c = not_one _ (not_one_at c.args.sets.now c.requires c.args.owner.now c.sets_at.result.now (sym c.sets_at.ensures) (omega (arith, c.in_default.len_below)))

pub returns-in_default-2 : goal.returns-in_default-2
returns-in_default-2 c = not_one _ (not_one_at c.args.sets.now c.requires c.args.owner.now c.sets_at.result.now (sym c.sets_at.ensures) (omega (arith, c.in_default.len_at_least)))
