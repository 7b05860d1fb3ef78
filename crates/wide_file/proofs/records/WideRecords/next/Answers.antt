use Rattle.std.proofs.Common.{inl, inr, ap, sym, ◌∙◌}
use Rattle.master_file.specs.Records.{fault_at}
use Rattle.wide_file.specs.WideRecords.{faulty}
use Rattle.wide_file.proofs.RecordLemmas.{fault_first}
use Rattle.wide_file.proofs.records.WideRecords.next.Goals as goal

pub returns-in-Err-clause-fault : goal.returns-in-Err-clause-fault
returns-in-Err-clause-fault c =
    elim (fault_first c.loop-head.self-inside.context c.loop-head.self-inside.entries c.next_entry.new.entries c.in-Some.head c.in_ok-head.field-0 c.next_entry.new.words.items c.deref.result.now c.in-Err.cause c.in-Some.is c.in_ok-head.ensures.first c.deref.ensures.value c.in-Err.ensures.fault) [
      | inl none ↦ inl (c.fault.ensures ∙ ap (fault_at c.in-Some.head.line c.in-Some.head.unclosed) none)
      | inr reported ↦ inr (sym c.loop-head.invariant.left ∙ reported ∙ ap faulty (sym c.fault.ensures))
    ]
