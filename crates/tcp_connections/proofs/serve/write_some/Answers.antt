-- What is made ready, and then written, is told as it was.
use Rattle.std.proofs.Common.{take, subst}
use Rattle.requests.specs.Octets.{Takes}
use Rattle.requests.specs.declared.stream_end.StreamEnd.TheVariants.{Device}
use Rattle.tcp_connections.specs.Kept.{told_by}
use Rattle.tcp_connections.proofs.StreamOctetLemmas.{stays_kept, stays_more, stays_written, stays_unwritten, writes_itself, writes_taken, ends_here, ends_stay}
use Rattle.tcp_connections.proofs.serve.write_some.Goals as goal

pub returns-in-Err-clause-ends : goal.returns-in-Err-clause-ends
returns-in-Err-clause-ends g c = ends_here c.args.state.now (g.S.Blocking.octets c.args.stream.now)

pub returns-in-Err-clause-written : goal.returns-in-Err-clause-written
returns-in-Err-clause-written g c = writes_itself (g.S.Blocking.octets c.args.stream.now)

pub returns-then-is_empty-clause-stays : goal.returns-then-is_empty-clause-stays
returns-then-is_empty-clause-stays g c =
    stays_kept c.args.state.now c.refill.new.self (g.S.Blocking.octets c.args.stream.now) c.in-Ok.ensures.held c.in-Ok.ensures.due

pub returns-then-is_empty-clause-written : goal.returns-then-is_empty-clause-written
returns-then-is_empty-clause-written g c = writes_itself (g.S.Blocking.octets c.args.stream.now)

pub returns-in-Ok-write-clause-stays : goal.returns-in-Ok-write-clause-stays
returns-in-Ok-write-clause-stays g c =
    let a = g.S.Blocking.octets c.args.stream.now in
    let b = g.S.Blocking.octets c.write.new.self in
    let k = c.refill.new.self in
    let takes = subst (λ l. Takes a b (take c.in-Ok-write.count l)) c.ready-2.ensures c.in-Ok-write.ensures.takes in
    stays_more (told_by c.args.state.now a) (told_by k a) _ (stays_kept c.args.state.now k a c.in-Ok.ensures.held c.in-Ok.ensures.due)
    (stays_written k c.advance.new.self c.in-Ok-write.count c.advance.new.self.passed c.advance.new.self.taken a b takes c.advance.ensures.rest)

pub returns-in-Ok-write-clause-written : goal.returns-in-Ok-write-clause-written
returns-in-Ok-write-clause-written g c = writes_taken _ _ _ c.in-Ok-write.ensures.takes

pub returns-in-Err-Blocked-clause-stays : goal.returns-in-Err-Blocked-clause-stays
returns-in-Err-Blocked-clause-stays g c =
    let a = g.S.Blocking.octets c.args.stream.now in
    let k = c.refill.new.self in
    stays_more (told_by c.args.state.now a) (told_by k a) _ (stays_kept c.args.state.now k a c.in-Ok.ensures.held c.in-Ok.ensures.due)
    (stays_unwritten k a (g.S.Blocking.octets c.write.new.self) c.in-Err-Blocked.ensures.failed)

pub returns-in-Err-Blocked-clause-written : goal.returns-in-Err-Blocked-clause-written
returns-in-Err-Blocked-clause-written g c = writes_taken _ _ _ c.in-Err-Blocked.ensures.failed

pub returns-in-Err-Failed-clause-ends : goal.returns-in-Err-Failed-clause-ends
returns-in-Err-Failed-clause-ends g c =
    let a = g.S.Blocking.octets c.args.stream.now in
    let b = g.S.Blocking.octets c.write.new.self in
    let k = c.refill.new.self in
    let kept = stays_kept c.args.state.now k a c.in-Ok.ensures.held c.in-Ok.ensures.due in
    let all = stays_more (told_by c.args.state.now a) (told_by k a) (told_by k b) kept (stays_unwritten k a b c.in-Err-Failed.ensures.failed) in
    ends_stay Device (told_by c.args.state.now a) (told_by k b) b all (ends_here k b)

pub returns-in-Err-Failed-clause-written : goal.returns-in-Err-Failed-clause-written
returns-in-Err-Failed-clause-written g c = writes_taken _ _ _ c.in-Err-Failed.ensures.failed
