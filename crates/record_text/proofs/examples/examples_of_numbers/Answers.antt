use Rattle.std.proofs.Common.{refl}
use Rattle.std.specs.Fmt.{digits}
use Rattle.record_text.specs.Mnemonics.{type_word}
use Rattle.record_text.proofs.examples.examples_of_numbers.Goals as goal

pub returns-clause-written : goal.returns-clause-written
unfolding type_word digits
returns-clause-written c = refl
