use Rattle.std.proofs.Common.{◌∙◌}
use Rattle.store_compaction.specs.Marked.{bodies_of}
use Rattle.store_compaction.specs.Writer.{under_way_of, IsNextOf}
use Rattle.store_compaction.proofs.files.replace_with_next.Goals as goal

pub returns-in-Ok-clause-goes_on : goal.returns-in-Ok-clause-goes_on
returns-in-Ok-clause-goes_on g c =
    let is : IsNextOf (under_way_of c.args.writer.now) c.args.head c.in-Ok-Some.next = rw c.in-Ok-Some.field-0-is at c.in-Ok-Some.ensures in (
      is.compaction,
      is.is_under_way,
      is.number,
      c.switch.ensures.holds (bodies_of is.compaction) is.journal (c.in-Ok.ensures.0 ∙ c.octets.ensures) (c.in-Ok.ensures.1 ∙ c.octets.ensures),
      c.switch.ensures.head,
      c.switch.ensures.none,
    )
