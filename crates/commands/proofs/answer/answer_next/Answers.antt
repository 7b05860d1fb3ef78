use Rattle.std.proofs.Common.{◌<◌, length, arith}
use Rattle.commands.proofs.AnswerLinesLemmas.{Begins-read, TakesLine-read}
use Rattle.commands.proofs.LinesLemmas.{OnErr-each}
use Rattle.commands.proofs.answer.answer_next.Goals as goal

pub returns-in_err-write_line-clause-err : goal.returns-in_err-write_line-clause-err
returns-in_err-write_line-clause-err g c =
    let some : 0 < length c.read_until.new.buf.items = omega (arith, c.in_ok-read_until.ensures.ok, c.clear.ensures.len) in
    λ past holds.
    let line = c.in_err-write_line.ensures.line past holds in
    OnErr-each _ _ (Begins-read _ line.want _ _ c.clear.new.self.items c.read_until.new.buf.items _ _ c.clear.ensures.items c.in_ok-read_until.ensures.bytes some line.line)

pub returns-clause-ok : goal.returns-clause-ok
returns-clause-ok g c =
    let some : 0 < length c.read_until.new.buf.items = omega (arith, c.in_ok-read_until.ensures.ok, c.clear.ensures.len) in
    λ past holds.
    let line = c.in_ok-write_line.ensures.line past holds in
    TakesLine-read _ line.want _ _ _ _ c.clear.new.self.items c.read_until.new.buf.items _ _ c.clear.ensures.items c.in_ok-read_until.ensures.bytes c.in_ok-read_until.ensures.rest some line.line line.goes_on
