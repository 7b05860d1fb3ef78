-- The octets of a disk in memory.
use Rattle.std.specs.Prelude.{ℕ, List}
use Rattle.store_files.specs.Calls.{lost_by, history_by}
use Rattle.memory_devices.specs.declared.memory_disk.MemoryDisk.{MemoryDisk}

-- the octets as they are
abbrev pub written : MemoryDisk → List ℕ
written disk = disk.written.items

-- those that are on the disk
abbrev pub synced : MemoryDisk → List ℕ
synced disk = disk.synced.items

-- how many of its syncs and cuts have failed
abbrev pub lost : MemoryDisk → ℕ
lost disk = lost_by disk.failures.calls

-- what was on the disk after each call so far, the last call first
abbrev pub history : MemoryDisk → List (List ℕ)
history disk = history_by disk.calls.calls
