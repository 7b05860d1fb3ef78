-- The connection under the key has gone on, or has ended; the others are as they were.
use Rattle.std.proofs.Common.{◌≡◌, refl, ◌∙◌, rules}
use Rattle.requests.specs.Allowed.{IsReplyFrom, IsLaterFrom}
use Rattle.serve_core.specs.declared.transport.Transport.TheVariants.{Tcp}
use Rattle.tcp_connections.proofs.TurnLemmas.{extends_itself}
use Rattle.slab.specs.Slab.{get, with_value, slab_len}
use Rattle.slab.proofs.SlabLemmas.{Updates-with_value}
use Rattle.tcp_connections.specs.Connections.{seen_of}
use Rattle.tcp_connections.proofs.BegunLemmas.{begun_once}
use Rattle.tcp_connections.proofs.LenLemmas.{where_some, len_kept, counted_none, counted_one}
use Rattle.tcp_connections.proofs.NextLemmas.{stopped_by_step}
use Rattle.tcp_connections.proofs.OwnLemmas.{own_gone, own_ended}
use Rattle.tcp_connections.proofs.serve_each.serve_key.Goals as goal

pub returns-in-Ok-clause-own : goal.returns-in-Ok-clause-own
returns-in-Ok-clause-own g c =
    let connections = c.args.connections.now in
    let new = c.serve_connection.new.connection in
    let here = Updates-with_value connections c.args.key new (search rules) in
    own_gone (IsReplyFrom g.A.Handler.is_reply c.args.allowed.rules.now Tcp) (seen_of g.S.Blocking.octets) c.args.now (g.A.Handler.seen c.args.handler.now c.args.key) (g.A.Handler.seen c.serve_connection.new.handler c.args.key) (get connections c.args.key) (get (with_value connections c.args.key new) c.args.key) c.in-Some.connection.now new c.in-Some.ensures.value here.changed (record {
      from = c.in-Ok.ensures.from;
      group = c.in-Ok.ensures.group;
      window = c.in-Ok.ensures.window;
      goes = c.in-Ok.ensures.goes;
      written = c.in-Ok.ensures.written;
      begun = begun_once _ _ _ _ _ c.in-Ok.ensures.begun;
    })

pub returns-in-Err-clause-own : goal.returns-in-Err-clause-own
returns-in-Err-clause-own g c =
    own_ended (IsReplyFrom g.A.Handler.is_reply c.args.allowed.rules.now Tcp) (seen_of g.S.Blocking.octets) c.args.now (g.A.Handler.seen c.args.handler.now c.args.key) (g.A.Handler.seen c.serve_connection.new.handler c.args.key) (get c.args.connections.now c.args.key) (get c.try_remove.new.self c.args.key) c.in-Some.connection.now c.in-Some.ensures.value c.try_remove.ensures.updates.changed (record {
      end = c.in-Err.end;
      known = g.A.Handler.seen c.serve_connection.new.handler c.args.key;
      octets = g.S.Blocking.octets c.serve_connection.new.connection.stream;
      grown = extends_itself _;
      stops = c.in-Err.ensures.stops;
      written = c.in-Err.ensures.written;
    })

pub returns-in_default-clause-ended : goal.returns-in_default-clause-ended
returns-in_default-clause-ended g c = counted_none c.args.ends.now (slab_len c.args.connections.now) (slab_len c.args.connections.now) refl

pub returns-in-Ok-clause-ended : goal.returns-in-Ok-clause-ended
returns-in-Ok-clause-ended g c =
    let connections = c.args.connections.now in
    let new = c.serve_connection.new.connection in
    counted_none c.args.ends.now (slab_len connections) (slab_len (with_value connections c.args.key new)) (len_kept connections c.args.key c.in-Some.connection.now new c.in-Some.ensures.value (search rules))

pub returns-in-Err-clause-ended : goal.returns-in-Err-clause-ended
returns-in-Err-clause-ended g c =
    let connections = c.args.connections.now in
    let new = c.serve_connection.new.connection in
    let here = Updates-with_value connections c.args.key new (search rules) in
    let kept : slab_len (with_value connections c.args.key new) ≡ slab_len connections = len_kept connections c.args.key c.in-Some.connection.now new c.in-Some.ensures.value (search rules) in
    counted_one c.args.ends.now c.count.new.self (slab_len connections) (slab_len c.try_remove.new.self) c.in-Err.end c.count.ensures (where_some c.try_remove.result new (c.try_remove.ensures.value ∙ here.changed) c.try_remove.ensures.len ∙ kept)

pub returns-in-Ok-clause-stopped : goal.returns-in-Ok-clause-stopped
returns-in-Ok-clause-stopped g c = λ is.
    let new = c.serve_connection.new.connection in
    let here = Updates-with_value c.args.connections.now c.args.key new (search rules) in
    stopped_by_step g.S.Blocking.would_block (IsLaterFrom g.A.Handler.is_later c.args.allowed.rules.now Tcp) (get (with_value c.args.connections.now c.args.key new) c.args.key) new c.in-Ok.step here.changed (c.has_stopped.ensures.0 (search rules)) c.in-Ok.ensures.blocked c.in-Ok.ensures.waits
