-- The journal of a text that is written is in place, or isn't.
use Rattle.store_compaction.proofs.KeptLemmas.{placed_stands}
use Rattle.store_compaction.proofs.placed.replace.Goals as goal

pub returns-in-Err-clause-is_present : goal.returns-in-Err-clause-is_present
returns-in-Err-clause-is_present g c wanted is =
    placed_stands c.replace_with_next.result c.args.writer.now c.replace_with_next.new.writer c.args.head wanted c.replace_with_next.ensures.goes_on c.replace_with_next.ensures.stops
    c.replace_with_next.ensures.recent is

pub returns-in_default-clause-is_present : goal.returns-in_default-clause-is_present
returns-in_default-clause-is_present g c wanted is =
    placed_stands c.replace_with_next.result c.args.writer.now c.replace_with_next.new.writer c.args.head wanted c.replace_with_next.ensures.goes_on c.replace_with_next.ensures.stops
    c.replace_with_next.ensures.recent is

pub returns-in-Ok-false-clause-is_present : goal.returns-in-Ok-false-clause-is_present
returns-in-Ok-false-clause-is_present g c wanted is =
    placed_stands c.replace_with_next.result c.args.writer.now c.replace_with_next.new.writer c.args.head wanted c.replace_with_next.ensures.goes_on c.replace_with_next.ensures.stops
    c.replace_with_next.ensures.recent is

pub returns-in-Err-Before-clause-is_present : goal.returns-in-Err-Before-clause-is_present
returns-in-Err-Before-clause-is_present g c wanted is =
    placed_stands c.replace_with_next.result c.args.writer.now c.replace_with_next.new.writer c.args.head wanted c.replace_with_next.ensures.goes_on c.replace_with_next.ensures.stops
    c.replace_with_next.ensures.recent is

pub returns-in-Err-Unknown-clause-is_present : goal.returns-in-Err-Unknown-clause-is_present
returns-in-Err-Unknown-clause-is_present g c wanted is =
    placed_stands c.replace_with_next.result c.args.writer.now c.replace_with_next.new.writer c.args.head wanted c.replace_with_next.ensures.goes_on c.replace_with_next.ensures.stops
    c.replace_with_next.ensures.recent is
