-- Definitions that only private contracts use.
use Rattle.std.specs.Prelude.{◌≡◌, ◌≢◌, ℕ, List}
use Rattle.store_recovery.specs.Start.{IsStartFault}
use Rattle.store_server.specs.Started.{IsOwnFault}
use Rattle.store_recovery.specs.declared.fault.StartFault.{StartFault}
use Rattle.store_recovery.specs.declared.fault.StartFault.TheVariants.{NoMemory as Starved}
use Rattle.master_file.specs.declared.fault.FileFault.{FileFault}
use Rattle.record_text.specs.declared.cause.Cause.{Cause}
use Rattle.record_text.specs.declared.cause.Cause.TheVariants.{NoMemory as Wanted}
use Rattle.store_files.specs.declared.pair.PairFault.{PairFault}
use Rattle.store_files.specs.declared.pair.PairFault.TheVariants.{Before, Unknown}
use Rattle.zone_change.specs.declared.fault.ChangeFault.TheVariants.{NoRoom, NoMemory as Lacking}
use Rattle.update_messages.specs.declared.prepare_fault.PrepareFault.{PrepareFault}
use Rattle.update_messages.specs.declared.prepare_fault.PrepareFault.TheVariants.{Change, TooLarge as IsLarge, NoMemory as Missing}
use Rattle.store_server.specs.declared.refusal.Refusal.{Refusal}
use Rattle.store_server.specs.declared.refusal.Refusal.TheVariants.{NoStart, NoChange, TooLarge, Text, NoMemory, Device}

-- a start's fault as a refusal
abbrev pub of_start : StartFault → Refusal
of_start Starved = NoMemory
of_start fault = NoStart fault

-- a fault of a zone text, by its cause
abbrev pub of_cause : FileFault → Cause → Refusal
of_cause fault Wanted = NoMemory
of_cause fault _ = Text fault

abbrev pub of_text : FileFault → Refusal
of_text fault = of_cause fault fault.cause

-- a fault of a zone file and journal, as the fault of a device
abbrev pub of_pair : PairFault → Refusal
of_pair (Before fault) = Device fault
of_pair (Unknown fault) = Device fault

-- why no update is made, as a refusal
abbrev pub of_prepare : PrepareFault → Refusal
of_prepare (Change Lacking) = NoMemory
of_prepare (Change fault) = NoChange fault
of_prepare IsLarge = TooLarge
of_prepare Missing = NoMemory

-- why a changed store isn't started, as a refusal
abbrev pub of_again : StartFault → Refusal
of_again Starved = NoMemory
of_again fault = NoChange NoRoom

-- nothing is recovered from a zone file and the journal that a change gives a store; or there is no memory, or a device failed
abbrev pub IsNotAgain : List ℕ → List ℕ → Refusal → Type 0
IsNotAgain text octets (NoChange fault) = (fault ≡ NoRoom) × ((why : StartFault) × IsStartFault text octets why × (why ≢ Starved))
IsNotAgain text octets refusal = IsOwnFault refusal
