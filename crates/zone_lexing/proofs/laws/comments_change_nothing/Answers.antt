use Rattle.zone_lexing.proofs.LayoutLemmas.{remark-entries, remark_last-entries}
use Rattle.zone_lexing.proofs.laws.comments_change_nothing.Goals as goal

pub returns-clause-line : goal.returns-clause-line
returns-clause-line c = remark-entries

pub returns-clause-last : goal.returns-clause-last
returns-clause-last c = remark_last-entries
