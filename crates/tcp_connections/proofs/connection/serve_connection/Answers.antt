-- The connection is turned to, and its share is served by the rights of who sends from its peer's address.
use Rattle.std.proofs.Common.{ℕ, subst}
use Rattle.requests.specs.Allowed.{IsReplyFrom}
use Rattle.serve_core.specs.declared.transport.Transport.TheVariants.{Tcp}
use Rattle.tcp_connections.specs.Going.{Goes, Stops}
use Rattle.tcp_connections.specs.Kept.{told_by}
use Rattle.tcp_connections.proofs.RequestLemmas.{each_more}
use Rattle.tcp_connections.proofs.OwnLemmas.{ok_follows, err_follows, goes_as, stops_as}
use Rattle.tcp_connections.proofs.connection.serve_connection.Goals as goal

pub returns-clause-goes : goal.returns-clause-goes
returns-clause-goes g c =
    let key = c.args.key in
    let a = told_by c.args.connection.now.state (g.S.Blocking.octets c.args.connection.now.stream) in
    let b = told_by c.serve_some-served.new.state (g.S.Blocking.octets c.serve_some-served.new.stream) in
    let known = g.A.Handler.seen c.turn_to.new.self in
    let later = g.A.Handler.seen c.serve_some-served.new.handler in
    let Reply = IsReplyFrom g.A.Handler.is_reply c.args.allowed.rules.now Tcp c.args.connection.now.from in
    ok_follows c.serve_some-served.result
    (λ goes. goes_as Reply (g.A.Handler.seen c.args.handler.now key) (known key) (later key) a b (c.turn_to.ensures.grows key)
    (subst (λ (n : ℕ). Goes Reply (known n) a (later n) b) c.turn_to.ensures.asker goes))
    c.serve_some-served.ensures.goes

pub returns-clause-stops : goal.returns-clause-stops
returns-clause-stops g c =
    let key = c.args.key in
    let a = told_by c.args.connection.now.state (g.S.Blocking.octets c.args.connection.now.stream) in
    let b = g.S.Blocking.octets c.serve_some-served.new.stream in
    let known = g.A.Handler.seen c.turn_to.new.self in
    let later = g.A.Handler.seen c.serve_some-served.new.handler in
    let Reply = IsReplyFrom g.A.Handler.is_reply c.args.allowed.rules.now Tcp c.args.connection.now.from in
    err_follows c.serve_some-served.result
    (λ end stops. stops_as Reply end (g.A.Handler.seen c.args.handler.now key) (known key) (later key) a b (c.turn_to.ensures.grows key)
    (subst (λ (n : ℕ). Stops Reply end (known n) a (later n) b) c.turn_to.ensures.asker stops))
    c.serve_some-served.ensures.stops

pub returns-clause-grows : goal.returns-clause-grows
returns-clause-grows g c = each_more (g.A.Handler.seen c.args.handler.now) (g.A.Handler.seen c.turn_to.new.self) (g.A.Handler.seen c.serve_some-served.new.handler) c.turn_to.ensures.grows c.serve_some-served.ensures.grows
