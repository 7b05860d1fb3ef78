use Rattle.std.proofs.Common.{◌≡◌, ◌<◌, Some, None, arith, length, sym, ap, ◌∙◌}
use Rattle.std.specs.Io.BufRead.{strip_last}
use Rattle.std.specs.Option.{option_map}
use Rattle.commands.specs.Script.{said_by, step_of}
use Rattle.commands.proofs.LinesLemmas.{IfSome-each}
use Rattle.commands.proofs.ScriptLemmas.{IsOnTheWayThroughScript-start, IsOnTheWayThroughScript-line, bad_line, map-one_more}
use Rattle.commands.proofs.script.read_script.Goals as goal

pub loop-read-init : goal.loop-read-init
loop-read-init g c input e = IsOnTheWayThroughScript-start input _ _ e c.new-steps.ensures.items

pub returns-in-None-clause-bad : goal.returns-in-None-clause-bad
returns-in-None-clause-bad g c =
    let some : 0 < length c.read_until.new.buf.items = omega (arith, c.in_ok-read_until.ensures.ok) in
    let line_is = c.without_lf.ensures ∙ ap (strip_last 10) c.as_slice.ensures.value in
    let says : step_of (strip_last 10 c.read_until.new.buf.items) ≡ None = ap step_of (sym line_is) ∙ sym c.in_ok-step.ensures ∙ ap (option_map said_by) c.in-None.is in
    IfSome-each _ _ (λ input e. bad_line input _ (g.R.Read.remaining c.read_until.new.self) c.clear.new.self.items c.read_until.new.buf.items _ _ (c.loop-read.invariant input e)
    (record { none = c.clear.ensures.items; more = c.in_ok-read_until.ensures.bytes; taken = c.in_ok-read_until.ensures.rest; some = some }) says)

pub loop-read-preserved : goal.loop-read-preserved
loop-read-preserved g c input e =
    let some : 0 < length c.read_until.new.buf.items = omega (arith, c.in_ok-read_until.ensures.ok) in
    let line_is = c.without_lf.ensures ∙ ap (strip_last 10) c.as_slice.ensures.value in
    let says : step_of (strip_last 10 c.read_until.new.buf.items) ≡ Some (said_by c.in-Some.step) = ap step_of (sym line_is) ∙ sym c.in_ok-step.ensures ∙ ap (option_map said_by) c.in-Some.is in
    rw (map-one_more c.loop-read.steps.items c.push.new.steps.items c.in-Some.step c.in_ok-push-in-Some.ensures)
    (IsOnTheWayThroughScript-line input _ (g.R.Read.remaining c.read_until.new.self) c.clear.new.self.items c.read_until.new.buf.items _ _ _ (c.loop-read.invariant input e)
    (record { none = c.clear.ensures.items; more = c.in_ok-read_until.ensures.bytes; taken = c.in_ok-read_until.ensures.rest; some = some }) says)
