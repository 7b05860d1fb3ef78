-- What was sent so far, and what is left to be sent, are all.
use Rattle.std.proofs.Common.{◌≡◌, length, map}
use Rattle.std.specs.Vec.Iter.{drain_items}
use Rattle.zone_server.specs.Brought.{brought_after, brought_from}
use Rattle.zone_server.proofs.server_publisher.send_all.Given as goal

abbrev pub invariant-loop-one : goal.invariant-loop-one
invariant-loop-one g l = record {
  brought : brought_after (g.P.ReplySender.brought l.replying) (map brought_from (drain_items l.one-iterator))
      ≡ brought_after (g.P.ReplySender.brought l.fn.replying) (map brought_from l.fn.outgoing.items);
  room : length l.out ≡ length l.fn.out;
}
