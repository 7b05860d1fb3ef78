use Rattle.std.proofs.Common.{vec_len}
use Rattle.snapshot_cell.proofs.named_ending.+end_named.Given as goal

abbrev pub decreases-end_named : goal.decreases-end_named
decreases-end_named g l = vec_len l.readers.now
