use Rattle.std.proofs.Common.{◌≡◌, ◌<◌, ap, ◌∙◌, length, arith}
use Rattle.std.specs.Io.BufRead.{strip_last}
use Rattle.commands.specs.Apply.{message_on}
use Rattle.commands.proofs.LinesLemmas.{IfSome-each}
use Rattle.commands.proofs.ApplyLemmas.{messages-start, messages-line, messages-end}
use Rattle.commands.proofs.apply.read_messages.Goals as goal

pub loop-read-init : goal.loop-read-init
loop-read-init g c input e = messages-start input _ _ e c.new-messages.ensures.items

pub returns-then-branch-eq0 : goal.returns-then-branch-eq0
returns-then-branch-eq0 g c =
    let zero : length c.read_until.new.buf.items ≡ 0 = omega (arith, c.in_ok-read_until.ensures.ok) in
    IfSome-each _ _ (λ input e. messages-end input (g.R.Read.remaining c.loop-read.reader) c.clear.new.self.items c.read_until.new.buf.items c.loop-read.messages.items (c.loop-read.invariant input e) c.clear.ensures.items c.in_ok-read_until.ensures.bytes zero)

pub loop-read-preserved : goal.loop-read-preserved
loop-read-preserved g c input e =
    let some : 0 < length c.read_until.new.buf.items = omega (arith, c.in_ok-read_until.ensures.ok) in
    let line_is = c.without_lf.ensures ∙ ap (strip_last 10) c.as_slice.ensures.value in
    messages-line input (g.R.Read.remaining c.loop-read.reader) (g.R.Read.remaining c.read_until.new.self) c.clear.new.self.items c.read_until.new.buf.items c.loop-read.messages.items c.push.new.self.items c.in_ok-message.message (c.loop-read.invariant input e)
    (record { none = c.clear.ensures.items; more = c.in_ok-read_until.ensures.bytes; taken = c.in_ok-read_until.ensures.rest; some = some })
    (c.in_ok-message.ensures ∙ ap message_on line_is) c.in_ok-push.ensures.items
