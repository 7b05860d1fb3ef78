use Rattle.std.proofs.Common.{refl}
use Rattle.std.specs.Fmt.{digits}
use Rattle.hex.specs.Hex.{encode_with}
use Rattle.record_text.specs.Data.{form_of}
use Rattle.record_text.specs.Text.{words_of}
use Rattle.record_text.proofs.examples.examples_of_any_type.Goals as goal

pub returns-clause-written : goal.returns-clause-written
unfolding words_of form_of encode_with digits
returns-clause-written c = refl

pub returns-clause-no_octets : goal.returns-clause-no_octets
unfolding words_of form_of digits
returns-clause-no_octets c = refl
