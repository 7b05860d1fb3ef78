-- The newest versions of a zone, as a cell begins with them and publishes them again (own).
use Rattle.std.specs.Prelude.{ℕ, ◌+◌, List, [], ◌∷◌, ◌++◌, Option, map}
use Rattle.zone_tree.specs.Version.{Version, Changes}
use Rattle.store_recovery.specs.declared.recent_versions.RecentVersions.{RecentVersions}
use Rattle.store_recovery.specs.Replay.{first_version}

-- the newest versions, the oldest first
abbrev pub versions_in : RecentVersions → List Version
versions_in newest = newest.older.items ++ newest.last ∷ []

-- a version with another number
abbrev pub with_number : ℕ → Version → Version
with_number number version = record version { number = number }

-- versions with numbers from one on
abbrev pub numbered_from : ℕ → List Version → List Version
numbered_from number [] = []
numbered_from number (version ∷ versions) = with_number number version ∷ numbered_from (number + 1) versions

-- versions as a cell begins with them: the oldest is the first version of its zone, and the others follow it with numbers from 1 on
abbrev pub rebased : List Version → List Version
rebased [] = []
rebased (oldest ∷ later) = first_version oldest.zone ∷ numbered_from 1 later

-- the changes of versions, each since the one before it (RFC 1995, 4)
abbrev pub changes_of : List Version → List (Option Changes)
changes_of versions = map (λ v. v.changes) versions
