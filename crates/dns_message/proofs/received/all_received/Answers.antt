use Rattle.std.proofs.Common.{List, Some, sym, ap, ◌∙◌}
use Rattle.dns_rdata.specs.Raw.{RawRecord}
use Rattle.dns_message.proofs.ReceivedLemmas.{IsTaking-start, IsTaking-one, IsTaking-stop, IsTaking-end}
use Rattle.dns_message.proofs.received.all_received.Goals as goal

pub loop-init : goal.loop-init
loop-init c = rw c.new-records.ensures.items (IsTaking-start _ _ _)

pub returns-in_default-clause-found : goal.returns-in_default-clause-found
returns-in_default-clause-found c = sym (IsTaking-stop _ _ _ _ _ _ c.loop.invariant c.loop-test.true (sym c.entry_at.ensures.read ∙ c.in_default.is))

pub loop-preserved : goal.loop-preserved
loop-preserved c =
    rw (c.in_ok-push.ensures.items, c.in_ok-one_received.ensures)
    (IsTaking-one _ _ _ _ _ _ c.in-Some.entry c.in-Some.next c.loop.invariant c.loop-test.true (sym c.entry_at.ensures.read ∙ c.in-Some.is))

pub returns-clause-found : goal.returns-clause-found
returns-clause-found c =
    ap (λ (t : List RawRecord). Some t) c.new.ensures
    ∙ sym (IsTaking-end _ _ _ _ _ _ c.loop.invariant c.loop-test.false)
