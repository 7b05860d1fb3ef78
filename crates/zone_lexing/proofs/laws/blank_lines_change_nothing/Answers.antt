use Rattle.zone_lexing.proofs.LayoutLemmas.{blank-entries, blank_first-entries}
use Rattle.zone_lexing.proofs.laws.blank_lines_change_nothing.Goals as goal

pub returns-clause-behind : goal.returns-clause-behind
returns-clause-behind c = blank-entries

pub returns-clause-first : goal.returns-clause-first
returns-clause-first c = blank_first-entries
