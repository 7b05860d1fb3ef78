-- What a server starts with, and what it then serves (own).
use Rattle.std.specs.Prelude.{◌≡◌, ⊤, List, []}
use Rattle.std.specs.declared.io.Error.{Error as IoError}
use Rattle.zone_tree.specs.Version.{Version}
use Rattle.store_recovery.specs.Replay.{first_version}
use Rattle.store_files.specs.declared.file.FileDisk.{FileDisk}
use Rattle.store_compaction.specs.declared.writer.StoreWriter.{StoreWriter}
use Rattle.store_compaction.specs.Kept.{CompactedState}
use Rattle.store_server.specs.declared.served.ServerStore.{ServerStore}
use Rattle.store_server.specs.declared.served.ServerStore.TheVariants.{Nowhere, Store as Kept}
use Rattle.store_server.specs.OpenStore.{IsGiven, WritesOn}
use Rattle.dnsd_setup.specs.declared.started_zone.StartedZone.{StartedZone}
use Rattle.dnsd_setup.specs.declared.started_zone.StartedZone.TheVariants.{Zone, Store}

-- a zone, or a store that a start has opened or created
abbrev pub CanStart : StartedZone → Type 0
CanStart (Zone zone) = ⊤
CanStart (Store kept) = IsGiven kept.started.store

module _ {L : Type 0} where
  -- updates are stored by this writer
  abbrev pub IsIn : StoreWriter FileDisk IoError → ServerStore (CompactedState IoError) L → Type 0
  IsIn writer Nowhere = ⊥
  IsIn writer (Kept kept) = kept.store.writer ≡ writer

  -- updates are stored in a store whose writer continues from these versions (`WritesOn`)
  abbrev pub KeepsOn : Version → List Version → ServerStore (CompactedState IoError) L → Type 0
  KeepsOn first later Nowhere = ⊥
  KeepsOn first later (Kept kept) = WritesOn first later kept.store.writer

  -- what is served: the zone as its first version, with updates stored nowhere; or the store's versions, with updates stored in that store
  abbrev pub StartsWith : StartedZone → Version → List Version → ServerStore (CompactedState IoError) L → Type 0
  StartsWith (Zone zone) first later store = (first ≡ first_version zone) × (later ≡ []) × (store ≡ Nowhere)
  StartsWith (Store kept) first later store = (first ≡ kept.started.store.first) × (later ≡ kept.started.store.later.items) × KeepsOn first later store
