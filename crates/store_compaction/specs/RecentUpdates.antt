-- The newest versions, each with the update that made it from the previous one (RFC 2136, 3; own).
use Rattle.std.specs.Prelude.{ℕ, nat_lt, List, [], ◌∷◌, ◌++◌, length, if◌then◌else◌}
use Rattle.zone_tree.specs.Version.{Version}
use Rattle.update_batches.specs.Batch.{newest_of, versions_in, updates_of}
use Rattle.update_batches.specs.Journal.{AreMadeBy}
use Rattle.update_batches.specs.declared.version_update.VersionUpdate.{VersionUpdate}

-- recent updates: an oldest version, the steps after it, oldest first, and how many older versions are kept besides the last
pub record RecentState : Type 0 where
  pub oldest : Version
  pub steps : List VersionUpdate
  pub keep : ℕ

-- each step's update makes its version from the previous one, the first from the oldest version (RFC 2136, 3)
abbrev pub AreRecent : RecentState → Type 0
AreRecent recent = AreMadeBy recent.oldest (versions_in recent.steps) (updates_of recent.steps)

-- the last version
abbrev pub last_in : RecentState → Version
last_in recent = newest_of recent.oldest (versions_in recent.steps)

-- recent updates without the first of their steps, whose version is then the oldest
abbrev pub shortened : RecentState → List VersionUpdate → RecentState
shortened recent [] = recent
shortened recent (step ∷ steps) = record { oldest = step.version; steps = steps; keep = recent.keep }

-- the same, if there are more steps than older versions are kept
abbrev pub trimmed : RecentState → RecentState
trimmed recent = if nat_lt recent.keep (length recent.steps) then shortened recent recent.steps else recent

-- recent updates with one more step at the end, of which the newest are kept
abbrev pub longer : RecentState → VersionUpdate → RecentState
longer recent step = record { oldest = recent.oldest; steps = recent.steps ++ step ∷ []; keep = recent.keep }

abbrev pub pushed : RecentState → VersionUpdate → RecentState
pushed recent step = trimmed (longer recent step)

-- recent updates with more steps added at the end, one after another
abbrev pub followed : RecentState → List VersionUpdate → RecentState
followed recent [] = recent
followed recent (step ∷ steps) = followed (pushed recent step) steps
