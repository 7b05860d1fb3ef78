-- One turn behind the other, each by the rights of the peer that asks.
use Rattle.std.proofs.Common.{ℕ, refl, ap, ◌∙◌, subst, Ok}
use Rattle.requests.specs.Allowed.{IsReplyFrom, IsLaterFrom}
use Rattle.serve_core.specs.declared.transport.Transport.TheVariants.{Tcp}
use Rattle.tcp_connections.specs.Kept.{told_by}
use Rattle.tcp_connections.specs.StreamOctets.{EndCounted}
use Rattle.tcp_connections.proofs.RequestLemmas.{each_itself, each_more, waits_as}
use Rattle.tcp_connections.proofs.StreamOctetLemmas.{writes_itself, writes_more, ends_lacking, counted_lacking}
use Rattle.tcp_connections.proofs.GoingLemmas.{goes_itself, goes_more, stops_more}
use Rattle.tcp_connections.proofs.OwnLemmas.{goes_turned, stops_turned}
use Rattle.tcp_connections.proofs.serve.serve_some.Goals as goal

pub loop-turned-init : goal.loop-turned-init
loop-turned-init g c = record {
  grows = each_itself _;
  asker = refl;
  goes = goes_itself (IsReplyFrom g.A.Handler.is_reply c.args.allowed.rules.now Tcp c.args.from) (g.A.Handler.seen c.args.handler.now (g.A.Handler.asker c.args.handler.now)) (told_by c.args.state.now (g.S.Blocking.octets c.args.stream.now));
  written = writes_itself _;
  same = refl;
}

pub loop-turned-preserved : goal.loop-turned-preserved
loop-turned-preserved g c =
    let so_far = c.loop-turned.invariant in
    let Reply = IsReplyFrom g.A.Handler.is_reply c.args.allowed.rules.now Tcp c.args.from in
    let key = g.A.Handler.asker c.args.handler.now in
    let seen = g.A.Handler.seen c.loop-turned.handler in
    let later = g.A.Handler.seen c.answer_some.new.handler in
    let o = g.S.Blocking.octets c.loop-turned.stream in
    let b = told_by c.loop-turned.state o in
    let n = told_by c.write_and_read.new.state (g.S.Blocking.octets c.write_and_read.new.stream) in
    record {
      grows = each_more _ _ _ so_far.grows c.answer_some.ensures.grows;
      asker = c.answer_some.ensures.asker ∙ so_far.asker;
      goes = goes_more Reply (g.A.Handler.seen c.args.handler.now key) (seen key) (later key) (told_by c.args.state.now (g.S.Blocking.octets c.args.stream.now)) b n so_far.goes
          (goes_turned Reply key (g.A.Handler.asker c.loop-turned.handler) seen later c.loop-turned.state c.answer_some.new.state o n so_far.asker c.answer_some.ensures.keeps c.in-Ok-write_and_read.ensures.stays);
      written = writes_more _ _ _ so_far.written c.in-Ok-write_and_read.ensures.written;
      same = c.in-Ok-write_and_read.ensures.same ∙ so_far.same;
    }

pub returns-then-has_stopped-clause-goes : goal.returns-then-has_stopped-clause-goes
returns-then-has_stopped-clause-goes g c =
    let so_far = c.loop-turned.invariant in
    let Reply = IsReplyFrom g.A.Handler.is_reply c.args.allowed.rules.now Tcp c.args.from in
    let key = g.A.Handler.asker c.args.handler.now in
    let seen = g.A.Handler.seen c.loop-turned.handler in
    let later = g.A.Handler.seen c.answer_some.new.handler in
    let o = g.S.Blocking.octets c.loop-turned.stream in
    let b = told_by c.loop-turned.state o in
    let n = told_by c.write_and_read.new.state (g.S.Blocking.octets c.write_and_read.new.stream) in
    goes_more Reply (g.A.Handler.seen c.args.handler.now key) (seen key) (later key) (told_by c.args.state.now (g.S.Blocking.octets c.args.stream.now)) b n so_far.goes
    (goes_turned Reply key (g.A.Handler.asker c.loop-turned.handler) seen later c.loop-turned.state c.answer_some.new.state o n so_far.asker c.answer_some.ensures.keeps c.in-Ok-write_and_read.ensures.stays)

pub returns-then-has_stopped-clause-grows : goal.returns-then-has_stopped-clause-grows
returns-then-has_stopped-clause-grows g c = each_more _ _ _ c.loop-turned.invariant.grows c.answer_some.ensures.grows

pub returns-then-has_stopped-clause-written : goal.returns-then-has_stopped-clause-written
returns-then-has_stopped-clause-written g c = writes_more _ _ _ c.loop-turned.invariant.written c.in-Ok-write_and_read.ensures.written

pub returns-then-has_stopped-clause-waits : goal.returns-then-has_stopped-clause-waits
returns-then-has_stopped-clause-waits g c = λ is. record {
  waits = waits_as (IsLaterFrom g.A.Handler.is_later c.args.allowed.rules.now Tcp c.args.from) c.answer_some.new.state.held c.write_and_read.new.state.held
      (c.in-Ok-write_and_read.ensures.held is) (c.in-Ok.ensures.later (ap (λ s. Ok s) (c.in-Ok-write_and_read.ensures.waits is)));
  ready = c.in-Ok-write_and_read.ensures.ready is;
  later = c.in-Ok-write_and_read.ensures.later is;
}

pub returns-in-Err-clause-stops : goal.returns-in-Err-clause-stops
returns-in-Err-clause-stops g c =
    let so_far = c.loop-turned.invariant in
    let Reply = IsReplyFrom g.A.Handler.is_reply c.args.allowed.rules.now Tcp c.args.from in
    let key = g.A.Handler.asker c.args.handler.now in
    let seen = g.A.Handler.seen c.loop-turned.handler in
    let later = g.A.Handler.seen c.answer_some.new.handler in
    let o = g.S.Blocking.octets c.loop-turned.stream in
    let m = c.answer_some.new.state in
    stops_more Reply c.in-Err.end (g.A.Handler.seen c.args.handler.now key) (seen key) (later key) (told_by c.args.state.now (g.S.Blocking.octets c.args.stream.now)) (told_by c.loop-turned.state o) o so_far.goes
    (stops_turned Reply c.in-Err.end key (g.A.Handler.asker c.loop-turned.handler) seen later c.loop-turned.state m o o so_far.asker c.answer_some.ensures.keeps (ends_lacking c.in-Err.end m o c.in-Err.ensures.end))

pub returns-in-Err-clause-grows : goal.returns-in-Err-clause-grows
returns-in-Err-clause-grows g c = each_more _ _ _ c.loop-turned.invariant.grows c.answer_some.ensures.grows

pub returns-in-Err-clause-counted : goal.returns-in-Err-clause-counted
returns-in-Err-clause-counted g c =
    subst (λ (faults : ℕ). EndCounted c.in-Err.end faults (g.S.Blocking.faults c.loop-turned.stream)) c.loop-turned.invariant.same (counted_lacking c.in-Err.end (g.S.Blocking.faults c.loop-turned.stream) c.in-Err.ensures.end)

pub returns-in-Err-write_and_read-clause-stops : goal.returns-in-Err-write_and_read-clause-stops
returns-in-Err-write_and_read-clause-stops g c =
    let so_far = c.loop-turned.invariant in
    let Reply = IsReplyFrom g.A.Handler.is_reply c.args.allowed.rules.now Tcp c.args.from in
    let key = g.A.Handler.asker c.args.handler.now in
    let seen = g.A.Handler.seen c.loop-turned.handler in
    let later = g.A.Handler.seen c.answer_some.new.handler in
    let o = g.S.Blocking.octets c.loop-turned.stream in
    let new = g.S.Blocking.octets c.write_and_read.new.stream in
    let end = c.in-Err-write_and_read.end in
    stops_more Reply end (g.A.Handler.seen c.args.handler.now key) (seen key) (later key) (told_by c.args.state.now (g.S.Blocking.octets c.args.stream.now)) (told_by c.loop-turned.state o) new so_far.goes
    (stops_turned Reply end key (g.A.Handler.asker c.loop-turned.handler) seen later c.loop-turned.state c.answer_some.new.state o new so_far.asker c.answer_some.ensures.keeps c.in-Err-write_and_read.ensures.ends)

pub returns-in-Err-write_and_read-clause-grows : goal.returns-in-Err-write_and_read-clause-grows
returns-in-Err-write_and_read-clause-grows g c = each_more _ _ _ c.loop-turned.invariant.grows c.answer_some.ensures.grows

pub returns-in-Err-write_and_read-clause-written : goal.returns-in-Err-write_and_read-clause-written
returns-in-Err-write_and_read-clause-written g c = writes_more _ _ _ c.loop-turned.invariant.written c.in-Err-write_and_read.ensures.written

pub returns-in-Err-write_and_read-clause-counted : goal.returns-in-Err-write_and_read-clause-counted
returns-in-Err-write_and_read-clause-counted g c =
    subst (λ (faults : ℕ). EndCounted c.in-Err-write_and_read.end faults (g.S.Blocking.faults c.write_and_read.new.stream)) c.loop-turned.invariant.same c.in-Err-write_and_read.ensures.counted

pub returns-in-Err-write_and_read-clause-spent : goal.returns-in-Err-write_and_read-clause-spent
returns-in-Err-write_and_read-clause-spent g c = λ is. absurd (c.in-Err-write_and_read.ensures.unspent is)
