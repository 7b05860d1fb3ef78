use Rattle.std.proofs.Common.{refl, sym, ap, ◌∙◌}
use Rattle.zone_tree.specs.Sets.{records_in}
use Rattle.transfer_core.specs.Lists.{beside_soa}
use Rattle.transfer_core.proofs.WalkLemmas.{kept_set, passed_set}
use Rattle.transfer_core.proofs.list.next_other.Goals as goal

pub loop-set-init : goal.loop-set-init
loop-set-init c = refl

-- no set is left
pub returns-in_err-set : goal.returns-in_err-set
returns-in_err-set c = rw (c.from_residual.ensures) (c.loop-set.invariant ∙ ap (λ sets. beside_soa (records_in sets)) c.in_err-set.ensures.steps.0, ap (λ sets. beside_soa (records_in sets)) c.in_err-set.ensures.steps.1)

-- a set of another type
pub returns-then-ne : goal.returns-then-ne
returns-then-ne c =
    c.loop-set.invariant
    ∙ ap (λ sets. beside_soa (records_in sets)) c.in_ok-set.ensures.steps
    ∙ kept_set c.in_ok-set.set.now c.next.new.self c.rtype.result.0 c.rtype.ensures.shared (sym c.ne.ensures ∙ c.if-ne.true)

-- the SOA's
pub loop-set-preserved : goal.loop-set-preserved
loop-set-preserved c =
    c.loop-set.invariant
    ∙ ap (λ sets. beside_soa (records_in sets)) c.in_ok-set.ensures.steps
    ∙ passed_set c.in_ok-set.set.now c.next.new.self c.rtype.result.0 c.rtype.ensures.shared (sym c.ne.ensures ∙ c.if-ne.false)
