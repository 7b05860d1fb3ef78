-- One request behind the other, from the stream's beginning.
use Rattle.std.proofs.Common.{refl, ◌∙◌}
use Rattle.requests.specs.Allowed.{IsReplyFrom}
use Rattle.serve_core.specs.declared.transport.Transport.TheVariants.{Tcp}
use Rattle.tcp_connections.specs.Kept.{told_by}
use Rattle.tcp_connections.proofs.RequestLemmas.{each_itself, each_more}
use Rattle.tcp_connections.proofs.StreamOctetLemmas.{stays_fresh, writes_itself, writes_more, ends_lacking}
use Rattle.tcp_connections.proofs.GoingLemmas.{goes_more, goes_stays, stops_more, stream_ends}
use Rattle.tcp_connections.proofs.OwnLemmas.{goes_turned, stops_turned}
use Rattle.tcp_connections.proofs.stream.serve_stream.Goals as goal

pub loop-init : goal.loop-init
loop-init g c =
    let Reply = IsReplyFrom g.A.Handler.is_reply c.args.allowed.rules.now Tcp c.args.from in
    let a = g.S.Stream.octets c.args.stream.now.inner in
    record {
      grows = each_itself _;
      asker = refl;
      goes = goes_stays Reply (g.A.Handler.seen c.args.handler.now (g.A.Handler.asker c.args.handler.now)) a (told_by c.new-state.result a) (stays_fresh c.new-state.result a c.new-state.ensures);
      written = writes_itself _;
      same = refl;
    }

pub loop-preserved : goal.loop-preserved
loop-preserved g c =
    let so_far = c.loop.invariant in
    let Reply = IsReplyFrom g.A.Handler.is_reply c.args.allowed.rules.now Tcp c.args.from in
    let key = g.A.Handler.asker c.args.handler.now in
    let seen = g.A.Handler.seen c.loop.handler in
    let later = g.A.Handler.seen c.answer_through.new.handler in
    let o = g.S.Stream.octets c.loop.stream.inner in
    let n = told_by c.write_and_read.new.state (g.S.Stream.octets c.write_and_read.new.stream.inner) in
    record {
      grows = each_more _ _ _ so_far.grows c.answer_through.ensures.grows;
      asker = c.answer_through.ensures.asker ∙ so_far.asker;
      goes = goes_more Reply (g.A.Handler.seen c.args.handler.now key) (seen key) (later key) (g.S.Stream.octets c.args.stream.now.inner) (told_by c.loop.state o) n so_far.goes
          (goes_turned Reply key (g.A.Handler.asker c.loop.handler) seen later c.loop.state c.answer_through.new.state o n so_far.asker c.answer_through.ensures.keeps c.in-Ok-write_and_read.ensures.stays);
      written = writes_more _ _ _ so_far.written c.in-Ok-write_and_read.ensures.written;
      same = c.in-Ok-write_and_read.ensures.same ∙ so_far.same;
    }

pub returns-in-Err-clause-served : goal.returns-in-Err-clause-served
returns-in-Err-clause-served g c =
    let so_far = c.loop.invariant in
    let Reply = IsReplyFrom g.A.Handler.is_reply c.args.allowed.rules.now Tcp c.args.from in
    let key = g.A.Handler.asker c.args.handler.now in
    let start = g.A.Handler.seen c.args.handler.now key in
    let a = g.S.Stream.octets c.args.stream.now.inner in
    let seen = g.A.Handler.seen c.loop.handler in
    let later = g.A.Handler.seen c.answer_through.new.handler in
    let o = g.S.Stream.octets c.loop.stream.inner in
    let m = c.answer_through.new.state in
    let end = c.in-Err.end in
    stream_ends Reply end start (later key) a o
    (stops_more Reply end start (seen key) (later key) a (told_by c.loop.state o) o so_far.goes
    (stops_turned Reply end key (g.A.Handler.asker c.loop.handler) seen later c.loop.state m o o so_far.asker c.answer_through.ensures.keeps (ends_lacking end m o c.in-Err.ensures.end)))
    so_far.written

pub returns-in-Err-clause-grows : goal.returns-in-Err-clause-grows
returns-in-Err-clause-grows g c = each_more _ _ _ c.loop.invariant.grows c.answer_through.ensures.grows

pub returns-in-Err-write_and_read-clause-served : goal.returns-in-Err-write_and_read-clause-served
returns-in-Err-write_and_read-clause-served g c =
    let so_far = c.loop.invariant in
    let Reply = IsReplyFrom g.A.Handler.is_reply c.args.allowed.rules.now Tcp c.args.from in
    let key = g.A.Handler.asker c.args.handler.now in
    let start = g.A.Handler.seen c.args.handler.now key in
    let a = g.S.Stream.octets c.args.stream.now.inner in
    let seen = g.A.Handler.seen c.loop.handler in
    let later = g.A.Handler.seen c.answer_through.new.handler in
    let o = g.S.Stream.octets c.loop.stream.inner in
    let new = g.S.Stream.octets c.write_and_read.new.stream.inner in
    let end = c.in-Err-write_and_read.end in
    stream_ends Reply end start (later key) a new
    (stops_more Reply end start (seen key) (later key) a (told_by c.loop.state o) new so_far.goes
    (stops_turned Reply end key (g.A.Handler.asker c.loop.handler) seen later c.loop.state c.answer_through.new.state o new so_far.asker c.answer_through.ensures.keeps c.in-Err-write_and_read.ensures.ends))
    (writes_more _ _ _ so_far.written c.in-Err-write_and_read.ensures.written)

pub returns-in-Err-write_and_read-clause-grows : goal.returns-in-Err-write_and_read-clause-grows
returns-in-Err-write_and_read-clause-grows g c = each_more _ _ _ c.loop.invariant.grows c.answer_through.ensures.grows
