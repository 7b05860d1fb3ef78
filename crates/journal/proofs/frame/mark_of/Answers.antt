use Rattle.std.proofs.Common.{sym, ◌∙◌}
use Rattle.journal.proofs.FrameLemmas.{mark_from}
use Rattle.journal.proofs.frame.mark_of.Goals as goal

pub returns-in-Some : goal.returns-in-Some
returns-in-Some c = mark_from c.args.salt.now c.in-Some.field-0-1.now c.in-Some.mark (sym c.as_slice.ensures ∙ c.in-Some.ensures.0)
