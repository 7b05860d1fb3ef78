-- One of the newcomer's own, one of a crowd, or any.
use Rattle.std.proofs.Common.{refl, Some, sym}
use Rattle.tcp_connections.specs.Places.{among_has, held, quarter, is_crowd, own, crowd}
use Rattle.tcp_connections.specs.Group.{is_same}
use Rattle.tcp_connections.specs.declared.room.Among.TheVariants.{These}
use Rattle.tcp_connections.proofs.PlaceLemmas.{longest_as, less_than}
use Rattle.tcp_connections.proofs.room.giver.Goals as goal

pub returns-then-has_quarter : goal.returns-then-has_quarter
returns-then-has_quarter g c = own (c.has_quarter.ensures.0 c.if-has_quarter.true) (longest_as (is_same c.args.newcomer) (among_has (These c.one.result)) (λ group. sym (c.one.ensures group)) c.args.connections.now c.longest.result c.longest.ensures)

pub returns-in-Some : goal.returns-in-Some
returns-in-Some g c = crowd c.in-Some.key (less_than c.has_quarter.result (quarter c.args.connections.now) (held c.args.newcomer c.args.connections.now) c.has_quarter.ensures c.if-has_quarter.false) refl (longest_as (is_crowd c.args.connections.now) (among_has (These c.crowds.result)) (λ group. sym (c.crowds.ensures group)) c.args.connections.now (Some c.in-Some.key) c.in-Some.ensures)
