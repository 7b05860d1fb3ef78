use Rattle.commands.proofs.AnswerLemmas.{broken_space, broken_message, one_more}
use Rattle.commands.proofs.answer.write_behind.Goals as goal

pub returns-in_err-write_whole : goal.returns-in_err-write_whole
returns-in_err-write_whole g c = broken_space _ _ _ _ _ _ _ _ c.in-Some.ensures.message.0 c.from_residual.ensures.0 c.loop-len.invariant c.in_err-write_whole.ensures

pub loop-len-preserved : goal.loop-len-preserved
loop-len-preserved g c = one_more _ _ _ _ _ _ _ _ c.in-Some.ensures.message.0 c.loop-len.invariant c.in_ok-write_whole.ensures c.in_ok-write_digits.ensures

pub returns-in_err-write_digits : goal.returns-in_err-write_digits
returns-in_err-write_digits g c =
    broken_message _ _ _ _ _ _ _ _ _ c.in-Some.ensures.message.0 c.from_residual-in_err-write_digits.ensures.0 c.loop-len.invariant c.in_ok-write_whole.ensures c.in_err-write_digits.ensures
