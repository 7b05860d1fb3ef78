-- So many of the keys so far.
use Rattle.std.proofs.Common.{◌≡◌, take}
use Rattle.std.specs.List.{count_by}
use Rattle.tcp_connections.specs.Places.{is_of}
use Rattle.tcp_connections.proofs.crowds.held_by.Given as goal

abbrev pub invariant-loop-key : goal.invariant-loop-key
invariant-loop-key g l = l.held ≡ count_by (is_of l.group) (take l.key l.connections.slots)
