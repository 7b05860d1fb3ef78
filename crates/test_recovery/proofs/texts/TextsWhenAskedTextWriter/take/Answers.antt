-- The head that is told is that of the text that was wanted.
use Rattle.std.proofs.Common.{◌∙◌, sym}
use Rattle.store_compaction.specs.TextWriter.{wanted_of}
use Rattle.store_compaction.proofs.KeptLemmas.{taken_told}
use Rattle.test_recovery.specs.declared.texts.Order.{Order}
use Rattle.test_recovery.proofs.texts.TextsWhenAskedTextWriter.take.Goals as goal

pub returns-in-Some : goal.returns-in-Some
returns-in-Some g c = record {
  reported = taken_told (λ (order : Order). wanted_of order.next order.before) c.args.self.now.order c.take.new.self c.in-Some.order c.write.result (sym c.take.ensures.value ∙ c.in-Some.is)
      c.take.ensures.after c.write.ensures;
}
