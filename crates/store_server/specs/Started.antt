-- What a server begins with (own).
use Rattle.std.specs.Prelude.{◌≡◌, ◌-◌, ◌≤◌, ◌∷◌, ⊤, ℕ, List, [], Option, None, Ok, Err, length, drop}
use Rattle.dns_name.specs.Name.{Name}
use Rattle.dns_rdata.specs.Record.{Record}
use Rattle.zone_tree.specs.Zone.{apex_of}
use Rattle.zone_tree.specs.Version.{zone_serial}
use Rattle.dns_engine.specs.Versions.{IsFirst, AreNext}
use Rattle.master_file.specs.ZoneText.{zone_of_text}
use Rattle.journal.specs.Batch.{Messages}
use Rattle.journal.specs.declared.heads.Head.{Head}
use Rattle.journal.specs.declared.heads.TextSum.{TextSum}
use Rattle.journal.specs.Head.{IsText}
use Rattle.journal.specs.declared.log.Log.{Log}
use Rattle.journal.specs.Log.{Holds}
use Rattle.store_files.specs.declared.file.FileDisk.{FileDisk}
use Rattle.store_files.specs.File.{written, synced}
use Rattle.store_recovery.specs.declared.start.Recovery.{Recovery}
use Rattle.store_recovery.specs.Replay.{first_version}
use Rattle.store_recovery.specs.Rebased.{versions_in, rebased}
use Rattle.store_recovery.specs.Start.{IsStarted, IsSound, IsStartFault}
use Rattle.store_files.specs.declared.open.OpenedFolder.{OpenedFolder}
use Rattle.store_files.specs.declared.open.OpenedFolder.TheVariants.{Locked, Empty, NoJournal as IsLost, NoText as LacksText, Found}
use Rattle.store_recovery.specs.declared.start.Ending.{Ending}
use Rattle.store_recovery.specs.declared.start.Ending.TheVariants.{Torn}
use Rattle.store_recovery.specs.declared.choices.Take.{Take}
use Rattle.store_recovery.specs.declared.choices.Choice.{Choice}
use Rattle.store_recovery.specs.declared.choices.Choice.TheVariants.{Same as IsSame, Store as IsStore, Zone as IsZone, StoreThoughOther as IsOlder, RefuseNewer, RefuseOtherApex}
use Rattle.store_recovery.specs.Created.{IsCreated}
use Rattle.store_recovery.specs.Choice.{IsChoice}
use Rattle.store_server.specs.declared.refusal.Refusal.{Refusal}
use Rattle.store_server.specs.declared.refusal.Refusal.TheVariants.{Held, NoJournal, NoText, NoStart, Newer, NoChange, TooLarge, OtherApex, Text, NoMemory, Device}
use Rattle.zone_change.specs.declared.fault.ChangeFault.TheVariants.{NoRoom}
use Rattle.zone_change.specs.Change.{aimed, change_to, HasRoom}
use Rattle.update_messages.specs.Prepared.{IsTooLarge}
use Rattle.store_server.specs.TakeZone.{IsTakenJournal}
use Rattle.store_server.specs.declared.take_zone.TakenZone.{TakenZone}
use Rattle.store_server.specs.declared.resume.OpenStore.{OpenStore}
use Rattle.store_server.specs.declared.start.Served.{Served}
use Rattle.store_server.specs.declared.start.Served.TheVariants.{Created, Same, Store, StoreThoughOther, Zone}
use Rattle.store_server.specs.declared.start.Started.{Started}

-- a store created with a zone, whose text was given: a head that says so, and a log on the disk without batches
pub record IsNewStore {F : Type 0} (zone : List Record) (number : ℕ) (random given : List ℕ) (head : Head) (log : Log FileDisk F) : Type 0 where
  pub text : List ℕ
  pub origin : TextSum
  pub begun : IsCreated zone number random origin text head
  pub from : IsText origin given
  pub empty : Holds written synced head log []

-- updates are the last `count` ones of a zone file's journal, each as the messages of its request
pub record AreLastUpdates (text octets : List ℕ) (count : ℕ) (updates : List Messages) : Type 0 where
  pub head : Head
  pub all : List Messages
  pub sound : IsSound text octets head all
  pub last : updates ≡ drop (length all - count) all

-- a store is reopened, from whose zone file and journal `start` was recovered: the log on the disk has the journal's batches, and nothing after them. The versions are the
-- recent ones, the oldest as the first of its zone, and the updates are those that made the others
pub record GoesOn (text octets : List ℕ) (start : Recovery) (store : OpenStore) : Type 0 where
  pub is : IsStarted text octets start
  pub head : store.head ≡ start.head
  pub log : Holds written synced store.head store.log is.recovered.bodies
  pub versions : store.first ∷ store.later.items ≡ rebased (versions_in start.newest)
  pub made : IsFirst store.first.zone store.first × AreNext store.first store.later.items
  pub updates : store.updates.items ≡ drop (length is.messages - length start.newest.older.items) is.messages

-- a store is created with a zone, whose text was given: only its first version is served
pub record IsCreatedStore (zone : List Record) (number : ℕ) (random given : List ℕ) (store : OpenStore) : Type 0 where
  pub new : IsNewStore zone number random given store.head store.log
  pub first : store.first ≡ first_version zone
  pub later : store.later.items ≡ []
  pub updates : store.updates.items ≡ []

-- the given zone file is served, with a new store
pub record IsCreatedWith (given : List ℕ) (origin : Name) (random : List ℕ) (store : OpenStore) : Type 0 where
  pub zone : List Record
  pub number : ℕ
  pub is_zone : zone_of_text origin given ≡ Ok zone
  pub begun : IsCreatedStore zone number random given store

-- a store is changed to a zone, as is said of it: it goes on from its zone file and the journal that the change gives it; where there is room for an NS that comes first, its
-- last version has the zone that the change is to lead to
pub record TakesOn (text journal : List ℕ) (start : Recovery) (zone : List Record) (given random : List ℕ) (taken : TakenZone) (store : OpenStore) : Type 0 where
  pub octets : List ℕ
  pub is_journal : IsTakenJournal journal start zone given random taken octets
  pub later : Recovery
  pub goes_on : GoesOn text octets later store
  pub leads : HasRoom start.newest.last.zone zone → later.newest.last.zone ≡ aimed start.newest.last.zone zone

-- a directory's store is chosen, or to be changed to the zone file, by the zone of the store's last version
pub record IsChosen (given : List ℕ) (origin : Name) (taken : Option Take) (text octets : List ℕ) (choice : Choice) : Type 0 where
  pub start : Recovery
  pub is : IsStarted text octets start
  pub chosen : IsChoice start.head.origin start.newest.last.zone origin given taken choice

-- which is served, and the open store
abbrev pub IsServedBy : List ℕ → Name → Option Take → List ℕ → OpenStore → Served → Type 0
IsServedBy given origin taken random store Created = IsCreatedWith given origin random store
IsServedBy given origin taken random store (Zone change) =
    (text : List ℕ) × (octets : List ℕ) × (zone : List Record) × (is : IsChosen given origin taken text octets (IsZone zone)) × TakesOn text octets is.start zone given random change store
IsServedBy given origin taken random store Same = (text : List ℕ) × (octets : List ℕ) × (is : IsChosen given origin taken text octets IsSame) × GoesOn text octets is.start store
IsServedBy given origin taken random store Store = (text : List ℕ) × (octets : List ℕ) × (is : IsChosen given origin taken text octets IsStore) × GoesOn text octets is.start store
IsServedBy given origin taken random store (StoreThoughOther serial) =
    (text : List ℕ) × (octets : List ℕ) × (is : IsChosen given origin taken text octets (IsOlder serial)) × GoesOn text octets is.start store

abbrev pub IsServed : List ℕ → Name → Option Take → List ℕ → Started → Type 0
IsServed given origin taken random started = IsServedBy given origin taken random started.store started.served

-- the store is served, changed to the zone file that the operator chose
abbrev pub IsTakenAs : List ℕ → List ℕ → Recovery → List Record → List ℕ → List ℕ → OpenStore → Served → Type 0
IsTakenAs text journal start zone given random store (Zone change) = TakesOn text journal start zone given random change store
IsTakenAs text journal start zone given random store _ = ⊥

-- the zone file is served since there was no store
abbrev pub IsCreatedAnew : Served → Type 0
IsCreatedAnew Created = ⊤
IsCreatedAnew _ = ⊥

-- which is served of a store that was found, with its zone file and its journal, and the open store: the zone file is never served as if there were no store
abbrev pub IsServedOf : List ℕ → List ℕ → List ℕ → Name → Option Take → List ℕ → OpenStore → Served → Type 0
IsServedOf text octets given origin taken random store Created = ⊥
IsServedOf text octets given origin taken random store (Zone change) =
    (zone : List Record) × (is : IsChosen given origin taken text octets (IsZone zone)) × TakesOn text octets is.start zone given random change store
IsServedOf text octets given origin taken random store Same = (is : IsChosen given origin taken text octets IsSame) × GoesOn text octets is.start store
IsServedOf text octets given origin taken random store Store = (is : IsChosen given origin taken text octets IsStore) × GoesOn text octets is.start store
IsServedOf text octets given origin taken random store (StoreThoughOther serial) = (is : IsChosen given origin taken text octets (IsOlder serial)) × GoesOn text octets is.start store

-- what is served is that of the directory: the zone file alone only if there is no store, else the store that was found, changed to the zone file where that was chosen
abbrev pub IsOfFolder : List ℕ → Name → Option Take → List ℕ → OpenedFolder → Started → Type 0
IsOfFolder given origin taken random (Empty lock) started = IsCreatedAnew started.served
IsOfFolder given origin taken random (Found lock pair) started = IsServedOf pair.text.items pair.journal.items given origin taken random started.store started.served
IsOfFolder given origin taken random _ started = ⊥

-- lack of memory, or a device's fault
abbrev pub IsOwnFault : Refusal → Type 0
IsOwnFault NoMemory = ⊤
IsOwnFault (Device fault) = ⊤
IsOwnFault _ = ⊥

-- or a zone file and a journal from which no store can be recovered
abbrev pub IsNoStore : List ℕ → List ℕ → Refusal → Type 0
IsNoStore text octets (NoStart fault) = IsStartFault text octets fault
IsNoStore text octets refusal = IsOwnFault refusal

-- or no update takes the store's zone to that of the zone file: no NS can come before the others go (RFC 2136, 3.4.2.4); or it has more octets than have room in a frame
abbrev pub IsNotTaken : List Record → List Record → Refusal → Type 0
IsNotTaken last zone (NoChange fault) = (fault ≡ NoRoom) × (HasRoom last zone → ⊥)
IsNotTaken last zone TooLarge = IsTooLarge (change_to last zone)
IsNotTaken last zone refusal = IsOwnFault refusal

-- or a zone file that is not a valid zone
abbrev pub IsNoText : List ℕ → Name → Refusal → Type 0
IsNoText given origin (Text fault) = zone_of_text origin given ≡ Err fault
IsNoText given origin refusal = IsOwnFault refusal

-- a store isn't changed to the zone of the zone file, which is chosen
abbrev pub IsRefusedZone : List ℕ → Name → Option Take → Refusal → Type 0
IsRefusedZone given origin taken refusal = (text : List ℕ) × (octets : List ℕ) × (zone : List Record) × (is : IsChosen given origin taken text octets (IsZone zone))
    × IsNotTaken is.start.newest.last.zone zone refusal

-- the reasons why nothing is served
abbrev pub IsRefused : List ℕ → Name → Option Take → Refusal → Type 0
IsRefused given origin taken Held = ⊤
IsRefused given origin taken (NoJournal number) = ⊤
IsRefused given origin taken (NoText number) = ⊤
IsRefused given origin taken (NoStart fault) = (text : List ℕ) × (octets : List ℕ) × IsStartFault text octets fault
IsRefused given origin taken (Newer has serial) =
    (text : List ℕ) × (octets : List ℕ) × (is : IsChosen given origin taken text octets (RefuseNewer serial)) × (has.0 ≡ zone_serial is.start.newest.last.zone)
IsRefused given origin taken (NoChange fault) = IsRefusedZone given origin taken (NoChange fault)
IsRefused given origin taken TooLarge = IsRefusedZone given origin taken TooLarge
IsRefused given origin taken (OtherApex has other) =
    (text : List ℕ) × (octets : List ℕ) × (is : IsChosen given origin taken text octets (RefuseOtherApex other)) × (has ≡ apex_of is.start.newest.last.zone)
IsRefused given origin taken (Text fault) = zone_of_text origin given ≡ Err fault
IsRefused given origin taken NoMemory = ⊤
IsRefused given origin taken (Device fault) = ⊤

-- a store that was found, with its zone file and its journal, isn't changed to the zone of the zone file, which is chosen
abbrev pub IsRefusedZoneOf : List ℕ → List ℕ → List ℕ → Name → Option Take → Refusal → Type 0
IsRefusedZoneOf text octets given origin taken refusal = (zone : List Record) × (is : IsChosen given origin taken text octets (IsZone zone))
    × IsNotTaken is.start.newest.last.zone zone refusal

-- the reasons why nothing is served of a store that was found, with its zone file and its journal
abbrev pub IsRefusedOf : List ℕ → List ℕ → List ℕ → Name → Option Take → Refusal → Type 0
IsRefusedOf text octets given origin taken Held = ⊥
IsRefusedOf text octets given origin taken (NoJournal number) = ⊥
IsRefusedOf text octets given origin taken (NoText number) = ⊥
IsRefusedOf text octets given origin taken (NoStart fault) = IsStartFault text octets fault
IsRefusedOf text octets given origin taken (Newer has serial) =
    (is : IsChosen given origin taken text octets (RefuseNewer serial)) × (has.0 ≡ zone_serial is.start.newest.last.zone)
IsRefusedOf text octets given origin taken (NoChange fault) = IsRefusedZoneOf text octets given origin taken (NoChange fault)
IsRefusedOf text octets given origin taken TooLarge = IsRefusedZoneOf text octets given origin taken TooLarge
IsRefusedOf text octets given origin taken (OtherApex has other) =
    (is : IsChosen given origin taken text octets (RefuseOtherApex other)) × (has ≡ apex_of is.start.newest.last.zone)
IsRefusedOf text octets given origin taken (Text fault) = zone_of_text origin given ≡ Err fault
IsRefusedOf text octets given origin taken NoMemory = ⊤
IsRefusedOf text octets given origin taken (Device fault) = ⊤

-- the reasons why nothing is served, by what the directory has: another process holds it; its journal, or the zone file that this names, is not there; the zone file is not a
-- valid zone, where there is no store; or what is said of the store that was found
abbrev pub IsRefusedBy : List ℕ → Name → Option Take → OpenedFolder → Refusal → Type 0
IsRefusedBy given origin taken Locked refusal = refusal ≡ Held
IsRefusedBy given origin taken (IsLost number) refusal = refusal ≡ NoJournal number
IsRefusedBy given origin taken (LacksText number) refusal = refusal ≡ NoText number
IsRefusedBy given origin taken (Empty lock) refusal = IsNoText given origin refusal
IsRefusedBy given origin taken (Found lock pair) refusal = IsRefusedOf pair.text.items pair.journal.items given origin taken refusal

-- a path is told of the file that keeps the torn end of a journal of so many octets, if there is such an end
abbrev pub IsEndKept : {P : Type 0} → ℕ → Ending → Option P → Type 0
IsEndKept len (Torn end) torn = torn ≡ None → len ≤ end
IsEndKept len _ torn = torn ≡ None

-- so of a store that was found, with its zone file and its journal
abbrev pub IsEndKeptOf : {P : Type 0} → List ℕ → List ℕ → Option P → Type 0
IsEndKeptOf text octets torn = (start : Recovery) × IsStarted text octets start × IsEndKept (length octets) start.ending torn

-- so by what the directory has
abbrev pub IsEndKeptBy : {P : Type 0} → OpenedFolder → Option P → Type 0
IsEndKeptBy (Found lock pair) torn = IsEndKeptOf pair.text.items pair.journal.items torn
IsEndKeptBy _ torn = torn ≡ None
