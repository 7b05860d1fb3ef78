use Rattle.wide_text.proofs.WideWords.{wide_words-spelt}
use Rattle.wide_text.proofs.laws.written_words_are_spelt.Goals as goal

pub returns : goal.returns
returns c = wide_words-spelt
