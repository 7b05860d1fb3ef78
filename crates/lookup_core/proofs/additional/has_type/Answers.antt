use Rattle.std.proofs.Common.{◌==◌, ◌∙◌, sym, ap, arith}
use Rattle.std.specs.List.{list_any}
use Rattle.lookup_core.proofs.AdditionalLemmas.{any_flat_at, any_flat_none}
use Rattle.lookup_core.proofs.additional.has_type.Goals as goal

-- the set in hand has records of the type
pub returns-then-is_of_type : goal.returns-then-is_of_type
returns-then-is_of_type c =
    sym
    (any_flat_at (λ r. r.rtype == c.args.rtype.0) (λ set. set) c.args.sets.now c.loop-set.set-index c.set-item.result (omega arith)
    (ap (list_any (λ r. r.rtype == c.args.rtype.0)) (sym c.set-item.is) ∙ sym c.is_of_type.ensures ∙ c.if-is_of_type.true))

-- all sets were seen
pub returns : goal.returns
returns c = sym (any_flat_none (λ r. r.rtype == c.args.rtype.0) (λ set. set) c.args.sets.now c.loop-set.set-index (omega arith) c.loop-set.invariant)
