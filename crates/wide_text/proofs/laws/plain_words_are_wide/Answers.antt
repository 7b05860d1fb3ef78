use Rattle.std.proofs.Common.{None, false}
use Rattle.wide_text.proofs.PlainFront.{plain_front_is_wide}
use Rattle.wide_text.proofs.PlainLemmas.{plain_data_is_wide}
use Rattle.wide_text.proofs.laws.plain_words_are_wide.Goals as goal

pub returns-clause-data : goal.returns-clause-data
returns-clause-data c = plain_data_is_wide

pub returns-clause-front : goal.returns-clause-front
returns-clause-front c = λ words front e. plain_front_is_wide None false words front e
