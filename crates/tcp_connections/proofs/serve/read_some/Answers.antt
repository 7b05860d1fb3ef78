-- What is read is held, or the stream ends.
use Rattle.std.proofs.Common.{take, [], rules}
use Rattle.requests.specs.declared.stream_end.StreamEnd.TheVariants.{Device}
use Rattle.tcp_connections.specs.Kept.{told_by}
use Rattle.tcp_connections.proofs.StreamOctetLemmas.{stays_read, stays_unread, writes_given, ends_here, ends_read, ends_stay, ends_clean, ends_torn}
use Rattle.tcp_connections.proofs.serve.read_some.Goals as goal

pub returns-in-Err-Blocked-clause-stays : goal.returns-in-Err-Blocked-clause-stays
returns-in-Err-Blocked-clause-stays g c = stays_unread c.args.state.now _ _ c.in-Err-Blocked.ensures.failed

pub returns-in-Err-Blocked-clause-written : goal.returns-in-Err-Blocked-clause-written
returns-in-Err-Blocked-clause-written g c = writes_given _ _ [] c.in-Err-Blocked.ensures.failed

pub returns-in-Err-Failed-clause-ends : goal.returns-in-Err-Failed-clause-ends
returns-in-Err-Failed-clause-ends g c =
    let k = c.args.state.now in
    let a = g.S.Blocking.octets c.args.stream.now in
    let b = g.S.Blocking.octets c.read.new.self in
    ends_stay Device (told_by k a) (told_by k b) b (stays_unread k a b c.in-Err-Failed.ensures.failed) (ends_here k b)

pub returns-in-Err-Failed-clause-written : goal.returns-in-Err-Failed-clause-written
returns-in-Err-Failed-clause-written g c = writes_given _ _ [] c.in-Err-Failed.ensures.failed

pub returns-then-holds-clause-ends : goal.returns-then-holds-clause-ends
returns-then-holds-clause-ends g c =
    ends_torn c.args.state.now c.in-Ok.count c.read.new.buf _ _ c.if-count-eq0.true c.requires.waits (c.holds.ensures.held c.if-holds.true) c.in-Ok.ensures.gives (c.in-Ok.ensures.end c.if-count-eq0.true (search rules))

pub returns-then-holds-clause-written : goal.returns-then-holds-clause-written
returns-then-holds-clause-written g c = writes_given _ _ (take c.in-Ok.count c.read.new.buf) c.in-Ok.ensures.gives

pub returns-then-count-eq0-clause-ends : goal.returns-then-count-eq0-clause-ends
returns-then-count-eq0-clause-ends g c =
    ends_clean c.args.state.now c.in-Ok.count c.read.new.buf _ _ c.if-count-eq0.true c.requires.waits (c.holds.ensures.none c.if-holds.false) c.in-Ok.ensures.gives (c.in-Ok.ensures.end c.if-count-eq0.true (search rules))

pub returns-then-count-eq0-clause-written : goal.returns-then-count-eq0-clause-written
returns-then-count-eq0-clause-written g c = writes_given _ _ (take c.in-Ok.count c.read.new.buf) c.in-Ok.ensures.gives

pub returns-in-Ok-take-clause-stays : goal.returns-in-Ok-take-clause-stays
returns-in-Ok-take-clause-stays g c =
    stays_read c.args.state.now c.take.new.self (take c.in-Ok.count c.read.new.buf) _ _ c.in-Ok.ensures.gives c.in-Ok-take.ensures.taken

pub returns-in-Ok-take-clause-written : goal.returns-in-Ok-take-clause-written
returns-in-Ok-take-clause-written g c = writes_given _ _ (take c.in-Ok.count c.read.new.buf) c.in-Ok.ensures.gives

pub returns-in-Err-clause-ends : goal.returns-in-Err-clause-ends
returns-in-Err-clause-ends g c = ends_read c.args.state.now (take c.in-Ok.count c.read.new.buf) _ _ c.in-Ok.ensures.gives

pub returns-in-Err-clause-written : goal.returns-in-Err-clause-written
returns-in-Err-clause-written g c = writes_given _ _ (take c.in-Ok.count c.read.new.buf) c.in-Ok.ensures.gives
