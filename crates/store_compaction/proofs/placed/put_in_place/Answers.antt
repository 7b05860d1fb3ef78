-- What becomes of a text.
use Rattle.std.proofs.Common.{◌≡◌, Some, None, inl, inr}
use Rattle.store_compaction.specs.TextWriter.{Wanted, IsWritten}
use Rattle.store_compaction.proofs.KeptLemmas.{taken_stands, taken_placed}
use Rattle.store_compaction.proofs.placed.put_in_place.Goals as goal

pub returns-in-None-clause-is_present : goal.returns-in-None-clause-is_present
returns-in-None-clause-is_present g c = taken_stands c.args.writer.now (g.T.TextWriter.wanted c.args.texts.now) (g.T.TextWriter.wanted c.take.new.self) (inl c.in-None.ensures.reported)

pub returns-in-Some-Err-clause-is_present : goal.returns-in-Some-Err-clause-is_present
returns-in-Some-Err-clause-is_present g c = taken_stands c.args.writer.now (g.T.TextWriter.wanted c.args.texts.now) (g.T.TextWriter.wanted c.take.new.self) (inr c.in-Some-Err.ensures.reported.0)

pub returns-in-Some-Ok-clause-is_present : goal.returns-in-Some-Ok-clause-is_present
returns-in-Some-Ok-clause-is_present g c =
    let old = g.T.TextWriter.wanted c.args.texts.now in
    let new = g.T.TextWriter.wanted c.take.new.self in
    let reported : (new ≡ None) × ((text : Wanted) × (old ≡ Some text) × IsWritten text c.in-Some-Ok.head) = rw c.in-Some-Ok.field-0-is at c.in-Some-Ok.ensures.reported in
    taken_placed c.args.writer.now c.replace.new.writer old new c.in-Some-Ok.head reported.0 reported.1 c.replace.ensures.is_present
