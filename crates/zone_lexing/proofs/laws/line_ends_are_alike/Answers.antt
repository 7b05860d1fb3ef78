use Rattle.zone_lexing.proofs.LayoutLemmas.{cr_lf-entries}
use Rattle.zone_lexing.proofs.laws.line_ends_are_alike.Goals as goal

pub returns : goal.returns
returns c = cr_lf-entries
