-- What a thread tells keeps its promise.
use Rattle.std.proofs.Common.{Some, ◌∙◌, ap, sym}
use Rattle.store_compaction.specs.declared.thread.Text.TheVariants.{Started}
use Rattle.store_compaction.specs.Threads.{text_of}
use Rattle.store_compaction.proofs.KeptLemmas.{taken_told}
use Rattle.store_compaction.proofs.thread.ThreadTextWriterTextWriter.take.Goals as goal

pub returns-then-load : goal.returns-then-load
returns-then-load g c = record {
  reported = taken_told text_of c.args.self.now.text c.take.new.self (Started c.in-Some-Started.writing) c.told_by.result (sym c.take.ensures.value ∙ (c.in-Some-Started.is ∙ ap Some c.in-Some-Started.field-0-is))
      c.take.ensures.after c.told_by.ensures;
}
