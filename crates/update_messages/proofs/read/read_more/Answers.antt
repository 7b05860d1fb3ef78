use Rattle.std.proofs.Common.{List, ◌++◌, refl, ap, ◌∙◌}
use Rattle.std.proofs.lemmas.Slice.{pushed}
use Rattle.dns_rdata.specs.Raw.{RawRecord}
use Rattle.update_messages.proofs.JoinedLemmas.{no_parts, lent_part, told_some, told_none}
use Rattle.update_messages.proofs.read.read_more.Goals as goal

pub returns-in_default : goal.returns-in_default
returns-in_default c =
    let none = told_none _ _ _ c.in_default.is c.in_ok-part.ensures in
    no_parts c.args.more.now c.loop-message.message-index _ c.loop-message-test.true none

pub loop-message-preserved : goal.loop-message-preserved
loop-message-preserved c =
    let some = told_some _ _ _ _ c.in-Some.is c.in_ok-part.ensures in
    let all = pushed c.taken_records-further.result.items refl c.in_ok-append.was c.append.ensures.items in
    lent_part c.args.more.now c.loop-message.message-index _ c.taken_records-records.result.items c.loop-message.records.items c.append.new.self.items c.in-Some.part
    c.loop-message.invariant c.loop-message-test.true some
    (all ∙ ap (λ (o : List RawRecord). c.loop-message.records.items ++ o) c.taken_records-further.ensures.records)
