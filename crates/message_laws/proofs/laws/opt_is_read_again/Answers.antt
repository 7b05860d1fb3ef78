use Rattle.message_laws.proofs.OptAgainLemmas.{opt_said_again, opt_code_again}
use Rattle.message_laws.proofs.laws.opt_is_read_again.Goals as goal

pub returns : goal.returns
returns c = record { said = opt_said_again; code = opt_code_again }
