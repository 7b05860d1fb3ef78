-- Definitions that only private contracts cite.
use Rattle.std.specs.Prelude.{◌≡◌, ℕ, Bool, true, false, List, Option, None, Some, if◌then◌else◌}
use Rattle.dns_name.specs.Name.{is_same}
use Rattle.dns_rdata.specs.Record.{Record}
use Rattle.dns_rdata.specs.declared.numbers.Serial.{Serial}
use Rattle.dns_rdata.specs.SerialOrder.{serial_less}
use Rattle.zone_tree.specs.Zone.{apex_of}
use Rattle.zone_tree.specs.Version.{zone_serial}
use Rattle.store_recovery.specs.declared.choices.Take.{Take}
use Rattle.store_recovery.specs.declared.choices.Take.TheVariants.{Store as TheStore, Zone as TheZone}
use Rattle.store_recovery.specs.declared.choices.Choice.{Choice}
use Rattle.store_recovery.specs.declared.choices.Choice.TheVariants.{Same, Store, Zone, StoreThoughOther, RefuseNewer, RefuseOtherApex}

-- what is served where nothing is chosen, by the serial of the store's last version and that of another text's zone (RFC 1982, 3.2)
abbrev pub by_serial : ℕ → Serial → Choice
by_serial last given = if serial_less last given.0 then RefuseNewer given else StoreThoughOther given

-- what is served, of a store and a text whose zones have the same apex, by whether the text is the one that the store was created from, and what is chosen
abbrev pub of_one_apex : List Record → List Record → Bool → Option Take → Choice
of_one_apex last zone true taken = Same
of_one_apex last zone false (Some TheStore) = Store
of_one_apex last zone false (Some TheZone) = Zone zone
of_one_apex last zone false None = by_serial (zone_serial last) (record { 0 = zone_serial zone })

-- the same of a store and a text whose zones may have different apexes
abbrev pub of_zones : List Record → List Record → Bool → Option Take → Choice
of_zones last zone same taken = if is_same (apex_of zone) (apex_of last) then of_one_apex last zone same taken else RefuseOtherApex (apex_of zone)

-- what is served where a text is no zone
abbrev pub IsWithoutZone : Bool → Option Take → Choice → Type 0
IsWithoutZone same taken Same = same ≡ true
IsWithoutZone same taken Store = (same ≡ false) × (taken ≡ Some TheStore)
IsWithoutZone same taken _ = ⊥
