use Rattle.std.proofs.Common.{List, Some, sym, ap, ◌∙◌}
use Rattle.dns_rdata.specs.Raw.{RawRecord}
use Rattle.dns_message.proofs.SentLemmas.{IsReading-one, IsReading-stop, IsReading-end}
use Rattle.dns_message.proofs.sent.raw_records.Goals as goal

pub returns-in_default : goal.returns-in_default
returns-in_default c =
    sym (IsReading-stop _ _ _ _ _ _ _ c.loop.invariant c.loop-test.true (sym c.in_ok-record.ensures ∙ c.in_default.is))

pub loop-preserved : goal.loop-preserved
loop-preserved c =
    rw c.in_ok-push.ensures.items
    (IsReading-one _ _ _ _ _ _ _ c.in-Some.record c.in-Some.next c.loop.invariant c.loop-test.true (sym c.in_ok-record.ensures ∙ c.in-Some.is))

pub returns : goal.returns
returns c =
    ap (λ (t : List RawRecord). Some (t, c.loop.place)) c.new.ensures
    ∙ sym (IsReading-end _ _ _ _ _ _ _ c.loop.invariant c.loop-test.false)
