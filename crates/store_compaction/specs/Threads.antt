-- Zone texts written by threads (own).
use Rattle.store_compaction.specs.declared.thread.Text.{Text}
use Rattle.store_compaction.specs.declared.thread.Text.TheVariants.{Ordered, Started}
use Rattle.store_compaction.specs.TextWriter.{Wanted, wanted_of}

-- the requested text, before its thread is started and after
abbrev pub text_of : Text → Wanted
text_of (Ordered order) = wanted_of order.next order.before
text_of (Started writing) = wanted_of writing.handle.promise.next.value writing.handle.promise.before.value
