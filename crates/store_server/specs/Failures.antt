-- Why a compaction failed, for the log (own).
use Rattle.std.specs.Prelude.{Option, None, Some}
use Rattle.std.specs.IoError.{error_kind}
use Rattle.std.specs.declared.io.ErrorKind.{ErrorKind}
use Rattle.std.specs.declared.io.ErrorKind.TheVariants.{OutOfMemory}
use Rattle.store_compaction.specs.declared.event.CompactionEvent.{CompactionEvent}
use Rattle.store_compaction.specs.declared.event.CompactionEvent.TheVariants.{Started, Replaced, NoText, NotReplaced, Unknown, NotRemoved, NotBegun}

-- the kind of fault that a step of a compaction failed by; none of one that went well, or that left an unused zone file
abbrev pub failure_of : CompactionEvent → Option ErrorKind
failure_of (Started number) = None
failure_of (Replaced number) = None
failure_of (NoText fault) = Some (error_kind fault)
failure_of (NotReplaced fault) = Some (error_kind fault)
failure_of (Unknown fault) = Some (error_kind fault)
failure_of (NotRemoved fault) = None
failure_of NotBegun = Some OutOfMemory
