-- The SOA's set has none, and of another all records count.
use Rattle.std.proofs.Common.{true, false, not, sym, ap, ◌∙◌}
use Rattle.transfer_core.proofs.PlaceLemmas.{others, set_len}
use Rattle.transfer_core.proofs.place.count_others.Goals as goal

pub returns-then-eq-clause-count : goal.returns-then-eq-clause-count
returns-then-eq-clause-count c = sym (others c.args.set.now c.rtype.result.0 false c.rtype.ensures.shared (ap not (sym c.eq.ensures ∙ c.if-eq.true)))

pub returns-clause-count : goal.returns-clause-count
returns-clause-count c =
    set_len c.args.set.now _ _ _ c.data.result.now c.data.ensures.records
    ∙ sym (others c.args.set.now c.rtype.result.0 true c.rtype.ensures.shared (ap not (sym c.eq.ensures ∙ c.if-eq.false)))
