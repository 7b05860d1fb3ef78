use Rattle.wide_file.proofs.WordsBackLemmas.{words_are_the_zone}
use Rattle.wide_file.proofs.laws.words_are_the_zone.Goals as goal

pub returns : goal.returns
returns c = words_are_the_zone
