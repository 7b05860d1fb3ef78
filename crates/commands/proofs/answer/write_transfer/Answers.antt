use Rattle.commands.proofs.PartsLemmas.{Begins-first}
use Rattle.commands.proofs.AnswerLemmas.{Begins-last, spaced_line, spaced_broken}
use Rattle.commands.proofs.answer.write_transfer.Goals as goal

pub returns-in_err-write_digits : goal.returns-in_err-write_digits
returns-in_err-write_digits g c = spaced_broken _ _ _ _ _ _ c.in-Some.ensures.message.0 c.from_residual.ensures.0 (Begins-first _ _ _ _ c.in_err-write_digits.ensures)

pub returns-in_err-write_behind : goal.returns-in_err-write_behind
returns-in_err-write_behind g c =
    spaced_broken _ _ _ _ _ _ c.in-Some.ensures.message.0 c.from_residual-in_err-write_behind.ensures.0 (Begins-last _ _ _ _ _ c.in_ok-write_digits.ensures c.in_err-write_behind.ensures)

pub returns : goal.returns
returns g c = spaced_line _ _ _ _ _ _ _ _ c.in-Some.ensures.message.0 c.in_ok-write_digits.ensures c.in_ok-write_behind.ensures c.write_whole-2.ensures
