-- The stream with what is to be written is told as it was.
use Rattle.std.proofs.Common.{◌≡◌}
use Rattle.tcp_connections.specs.Kept.{told_by}
use Rattle.tcp_connections.specs.StreamOctets.{Stays, Writes}
use Rattle.tcp_connections.proofs.serve.flush.Given as goal

abbrev pub invariant-loop-written : goal.invariant-loop-written
invariant-loop-written g l = record {
  stays : Stays (told_by l.initial.state (g.S.Blocking.octets l.initial.stream)) (told_by l.state (g.S.Blocking.octets l.stream));
  held : l.state.held ≡ l.initial.state.held;
  written : Writes (g.S.Blocking.octets l.initial.stream) (g.S.Blocking.octets l.stream);
  same : g.S.Blocking.faults l.stream ≡ g.S.Blocking.faults l.initial.stream;
}
