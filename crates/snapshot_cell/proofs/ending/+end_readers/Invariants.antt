use Rattle.std.proofs.Common.{vec_len}
use Rattle.snapshot_cell.proofs.ending.+end_readers.Given as goal

abbrev pub decreases-end_readers : goal.decreases-end_readers
decreases-end_readers g l = vec_len l.readers.now
