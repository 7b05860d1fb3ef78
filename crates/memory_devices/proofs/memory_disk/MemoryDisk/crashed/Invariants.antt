use Rattle.journal.specs.Disk.{BeginsWith}
use Rattle.memory_devices.proofs.memory_disk.MemoryDisk.crashed.Given as goal

abbrev pub invariant-loop-octet : goal.invariant-loop-octet
invariant-loop-octet l = BeginsWith l.image.items l.self.synced.items
