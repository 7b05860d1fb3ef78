use Rattle.std.proofs.Common.{sym, ap, ◌∙◌, arith, bytes_eq}
use Rattle.std.specs.Cmp.Lexicographic.{pointwise}
use Rattle.std.proofs.lemmas.List.Folds.{list_any_at}
use Rattle.lookup_core.proofs.aliases.is_among.Goals as goal

-- the name in hand is spelt so
pub returns-then-is_spelt_as : goal.returns-then-is_spelt_as
returns-then-is_spelt_as c =
    sym
    (list_any_at (λ other. pointwise bytes_eq other c.args.name.now) c.args.names.now c.loop-other.other-index c.other-item.result (omega arith)
    (ap (λ other. pointwise bytes_eq other c.args.name.now) (sym c.other-item.is) ∙ sym c.is_spelt_as.ensures ∙ c.if-is_spelt_as.true))
