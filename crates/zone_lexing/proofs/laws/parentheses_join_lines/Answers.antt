use Rattle.zone_lexing.proofs.LayoutLemmas.{joined-entries}
use Rattle.zone_lexing.proofs.laws.parentheses_join_lines.Goals as goal

pub returns : goal.returns
returns c = joined-entries
