-- A place is made, and then taken.
use Rattle.std.proofs.Common.{◌∙◌, ap, subst}
use Rattle.std.specs.Net.Socket.{socket_ip}
use Rattle.std.specs.declared.net.ip_addr.IpAddr.{IpAddr}
use Rattle.tcp_connections.specs.Group.{IsGroupOf}
use Rattle.tcp_loop.proofs.StepLemmas.{moves_more}
use Rattle.tcp_loop.proofs.worker.EventLoop.add_connection.Goals as goal

pub returns-clause-moves : goal.returns-clause-moves
returns-clause-moves g c =
    let of = subst (λ (ip : IpAddr). IsGroupOf ip c.of.result) (c.ip.ensures ∙ ap socket_ip c.address.ensures) c.of.ensures in
    moves_more g.S.Remote.origin g.S.Blocking.octets c.args.now c.args.self.now.connections c.make_place.new.self.connections c.put.new.self.connections
    (c.make_place.ensures.moves c.args.now c.args.stream of) c.put.ensures.moves

pub returns-then-not-make_place-clause-moves : goal.returns-then-not-make_place-clause-moves
returns-then-not-make_place-clause-moves g c =
    let of = subst (λ (ip : IpAddr). IsGroupOf ip c.of.result) (c.ip.ensures ∙ ap socket_ip c.address.ensures) c.of.ensures in
    c.make_place.ensures.moves c.args.now c.args.stream of

pub returns-then-is_err-clause-moves : goal.returns-then-is_err-clause-moves
returns-then-is_err-clause-moves g c =
    let of = subst (λ (ip : IpAddr). IsGroupOf ip c.of.result) (c.ip.ensures ∙ ap socket_ip c.address.ensures) c.of.ensures in
    c.make_place.ensures.moves c.args.now c.args.stream of
