-- The octets of a file as a disk.
use Rattle.std.specs.Prelude.{ℕ, List}
use Rattle.store_files.specs.Calls.{written_by, synced_by, lost_by, history_by}
use Rattle.store_files.specs.declared.file.FileDisk.{FileDisk}

-- the octets as they are, by its calls
abbrev pub written : FileDisk → List ℕ
written disk = written_by disk.calls.calls

-- those that are on the disk, by its calls
abbrev pub synced : FileDisk → List ℕ
synced disk = synced_by disk.calls.calls

-- how many of its syncs and cuts have failed
abbrev pub lost : FileDisk → ℕ
lost disk = lost_by disk.calls.calls

-- what was on the disk after each call so far, the last call first, since the file may have its name
abbrev pub history : FileDisk → List (List ℕ)
history disk = history_by disk.calls.calls
