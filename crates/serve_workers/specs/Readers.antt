-- A thread's reader (own).
use Rattle.std.specs.Prelude.{List, [], Option, None, Some}
use Rattle.zone_tree.specs.Version.{Version}
use Rattle.snapshot_cell.specs.Tokens.{ReaderState}

-- the versions that a thread's reader has seen published, the first one first; none where a job's handler has the reader
abbrev pub seen_by : Option (ReaderState Version) → List Version
seen_by None = []
seen_by (Some reader) = reader.seen
