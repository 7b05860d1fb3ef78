use Rattle.std.proofs.Common.{◌≤◌, length, sym, ap, ◌∙◌, arith, take_all}
use Rattle.std.proofs.lemmas.List.Folds.{list_any_at}
use Rattle.dns_name.specs.Name.{is_same}
use Rattle.lookup_core.proofs.AliasLemmas.{list_any-searched_before}
use Rattle.lookup_core.proofs.aliases.is_searched.Goals as goal

-- the alias in hand was found at the name
pub returns-then-is_same : goal.returns-then-is_same
returns-then-is_same c =
    sym
    (list_any-searched_before c.args.name.now c.args.aliases.now
    ∙ list_any_at (λ alias. is_same alias.owner c.args.name.now) c.args.aliases.now c.loop-alias.alias-index c.alias-item.result (omega arith)
    (ap (λ alias. is_same alias.owner c.args.name.now) (sym c.alias-item.is) ∙ sym c.is_same.ensures ∙ c.if-is_same.true))

-- all aliases were seen
pub returns : goal.returns
returns c =
    let all : length c.args.aliases.now ≤ c.loop-alias.alias-index = omega arith in
    sym (list_any-searched_before c.args.name.now c.args.aliases.now ∙ (rw take_all at c.loop-alias.invariant))
