-- One request behind the other.
use Rattle.std.proofs.Common.{ℕ, refl, ap, Ok, ◌∙◌, subst}
use Rattle.requests.specs.Allowed.{IsReplyFrom, IsLaterFrom}
use Rattle.serve_core.specs.declared.transport.Transport.TheVariants.{Tcp}
use Rattle.dns_message.specs.Frame.{frame_in}
use Rattle.tcp_connections.specs.Exchange.{Exchange}
use Rattle.tcp_connections.specs.Kept.{Kept, due}
use Rattle.tcp_connections.proofs.RequestLemmas.{each_itself, each_more, waits_as}
use Rattle.tcp_connections.proofs.GoingLemmas.{keeps_itself, keeps_more, keeps_turn, keeps_same}
use Rattle.tcp_connections.proofs.serve.answer_some.Goals as goal

pub loop-answered-init : goal.loop-answered-init
loop-answered-init g c = record {
  grows = each_itself _;
  asker = refl;
  keeps = keeps_itself (IsReplyFrom g.A.Handler.is_reply c.args.allowed.rules.now Tcp c.args.from) (g.A.Handler.seen c.args.handler.now (g.A.Handler.asker c.args.handler.now)) c.args.state.now;
}

pub loop-answered-preserved : goal.loop-answered-preserved
loop-answered-preserved g c =
    let so_far = c.loop-answered.invariant in
    let Reply = IsReplyFrom g.A.Handler.is_reply c.args.allowed.rules.now Tcp c.args.from in
    let key = g.A.Handler.asker c.args.handler.now in
    let seen = g.A.Handler.seen c.loop-answered.handler in
    let later = g.A.Handler.seen c.answer.new.handler in
    let k = c.loop-answered.state in
    let m = c.answer.new.self in
    let moved = subst (λ (n : ℕ). Exchange Reply (seen n) (k.held, due k) (later n) (m.held, due m)) so_far.asker (c.in-Ok.ensures.turn (ap (λ s. Ok s) c.in-More.is)) in
    record {
      grows = each_more _ _ _ so_far.grows c.in-Ok.ensures.grows;
      asker = c.in-Ok.ensures.asker ∙ so_far.asker;
      keeps = keeps_more Reply (g.A.Handler.seen c.args.handler.now key) (seen key) (later key) c.args.state.now k m so_far.keeps (keeps_turn Reply (seen key) (later key) k m moved);
    }

pub returns-in_default-clause-keeps : goal.returns-in_default-clause-keeps
returns-in_default-clause-keeps g c =
    let so_far = c.loop-answered.invariant in
    let Reply = IsReplyFrom g.A.Handler.is_reply c.args.allowed.rules.now Tcp c.args.from in
    let key = g.A.Handler.asker c.args.handler.now in
    let seen = g.A.Handler.seen c.loop-answered.handler key in
    let later = g.A.Handler.seen c.answer.new.handler key in
    let k = c.loop-answered.state in
    let m = c.answer.new.self in
    keeps_more Reply (g.A.Handler.seen c.args.handler.now key) seen later c.args.state.now k m so_far.keeps (keeps_same Reply seen later k m (c.in-Ok.ensures.grows key) (c.in-Ok.ensures.same c.in_default.not-More))

pub returns-in_default-clause-grows : goal.returns-in_default-clause-grows
returns-in_default-clause-grows g c = each_more _ _ _ c.loop-answered.invariant.grows c.in-Ok.ensures.grows

pub returns-in-Err-clause-keeps : goal.returns-in-Err-clause-keeps
returns-in-Err-clause-keeps g c =
    let so_far = c.loop-answered.invariant in
    let Reply = IsReplyFrom g.A.Handler.is_reply c.args.allowed.rules.now Tcp c.args.from in
    let key = g.A.Handler.asker c.args.handler.now in
    let seen = g.A.Handler.seen c.loop-answered.handler key in
    let later = g.A.Handler.seen c.answer.new.handler key in
    let k = c.loop-answered.state in
    let m = c.answer.new.self in
    keeps_more Reply (g.A.Handler.seen c.args.handler.now key) seen later c.args.state.now k m so_far.keeps (keeps_same Reply seen later k m (c.in-Err.ensures.grows key) c.in-Err.ensures.ended)

pub returns-in-Err-clause-grows : goal.returns-in-Err-clause-grows
returns-in-Err-clause-grows g c = each_more _ _ _ c.loop-answered.invariant.grows c.in-Err.ensures.grows

pub returns-in_default-clause-none : goal.returns-in_default-clause-none
returns-in_default-clause-none g c = λ is.
    ap (λ (k : Kept). frame_in k.held) (c.in-Ok.ensures.same c.in_default.not-More) ∙ c.in-Ok.ensures.none is

pub returns-in_default-clause-later : goal.returns-in_default-clause-later
returns-in_default-clause-later g c = λ is.
    waits_as (IsLaterFrom g.A.Handler.is_later c.args.allowed.rules.now Tcp c.args.from) c.loop-answered.state.held c.answer.new.self.held
    (ap (λ (k : Kept). k.held) (c.in-Ok.ensures.same c.in_default.not-More)) (c.in-Ok.ensures.later is)
