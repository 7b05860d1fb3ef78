use Rattle.std.proofs.Common.{sym, ap, ◌∙◌}
use Rattle.dns_name.specs.Order.{is_same_Decides}
use Rattle.dns_rdata.specs.Record.{Record}
use Rattle.transfer_in.proofs.held.HeldRecord.is_of.Goals as goal

pub returns-then-eq-clause-owner : goal.returns-then-eq-clause-owner
returns-then-eq-clause-owner c = λ e.
    ap (λ (r : Record). r.owner) (sym c.self.view_is)
    ∙ c.self.invariant.folded
    ∙ (is_same_Decides c.self.inside.owner c.stored_owner.result.now).0 (sym c.eq.ensures ∙ c.if-eq.true)
    ∙ sym c.stored_owner.ensures.folded
    ∙ c.stored_owner.ensures.of
