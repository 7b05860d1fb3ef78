-- What is found when a store is opened.
use Rattle.std.specs.Prelude.{◌≡◌}
use Rattle.store_files.specs.File.{written, synced}
use Rattle.store_files.specs.declared.open.OpenedFolder.{OpenedFolder}
use Rattle.store_files.specs.declared.open.OpenedFolder.TheVariants.{Locked, Empty, NoJournal, NoText, Found}

-- the octets given of a journal are those that its disk has, by the calls noted
abbrev pub IsAsNoted : OpenedFolder → Type 0
IsAsNoted Locked = Unit {0}
IsAsNoted (Empty lock) = Unit {0}
IsAsNoted (NoJournal number) = Unit {0}
IsAsNoted (NoText number) = Unit {0}
IsAsNoted (Found lock pair) = (written pair.disk ≡ pair.journal.items) × (synced pair.disk ≡ pair.journal.items)
