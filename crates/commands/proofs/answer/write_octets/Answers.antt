use Rattle.commands.proofs.PartsLemmas.{Begins-first, Writes-behind, Writes-refused}
use Rattle.commands.proofs.answer.write_octets.Goals as goal

pub returns-in_err-write_digits : goal.returns-in_err-write_digits
returns-in_err-write_digits g c = Writes-refused _ _ _ _ c.from_residual.ensures.0 (Begins-first _ _ _ _ c.in_err-write_digits.ensures)

pub returns : goal.returns
returns g c = Writes-behind _ _ _ _ _ _ c.in_ok-write_digits.ensures c.write_whole.ensures
