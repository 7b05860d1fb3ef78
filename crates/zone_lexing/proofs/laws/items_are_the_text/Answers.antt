use Rattle.zone_lexing.proofs.CutLemmas.{items-whole, items-EndsAtLf}
use Rattle.zone_lexing.proofs.laws.items_are_the_text.Goals as goal

pub returns-clause-whole : goal.returns-clause-whole
returns-clause-whole c = λ text. items-whole 0 text

pub returns-clause-lines : goal.returns-clause-lines
returns-clause-lines c = λ text. items-EndsAtLf 0 text
