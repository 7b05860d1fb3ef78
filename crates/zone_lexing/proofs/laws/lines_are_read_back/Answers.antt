use Rattle.zone_lexing.proofs.SpellingLemmas.{lines-read}
use Rattle.zone_lexing.proofs.laws.lines_are_read_back.Goals as goal

pub returns : goal.returns
returns c = λ lines spelt. lines-read lines 1 spelt
