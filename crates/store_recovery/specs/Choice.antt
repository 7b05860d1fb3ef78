-- Which is served at a start: a store, or the zone text that the operator names (own).
use Rattle.std.specs.Prelude.{◌≡◌, ◌≢◌, ◌⊎◌, ℕ, Bool, true, false, List, Option, None, Some, Ok, Err}
use Rattle.dns_name.specs.Name.{Name, is_same}
use Rattle.dns_rdata.specs.Record.{Record}
use Rattle.dns_rdata.specs.SerialOrder.{serial_less}
use Rattle.zone_tree.specs.Zone.{apex_of}
use Rattle.zone_tree.specs.Version.{zone_serial}
use Rattle.master_file.specs.declared.fault.FileFault.{FileFault}
use Rattle.master_file.specs.Fault.{no_memory}
use Rattle.master_file.specs.ZoneText.{zone_of_text}
use Rattle.journal.specs.declared.heads.TextSum.{TextSum}
use Rattle.journal.specs.Head.{IsText}
use Rattle.store_recovery.specs.declared.choices.Take.{Take}
use Rattle.store_recovery.specs.declared.choices.Take.TheVariants.{Store as TheStore, Zone as TheZone}
use Rattle.store_recovery.specs.declared.choices.Choice.{Choice}
use Rattle.store_recovery.specs.declared.choices.Choice.TheVariants.{Same, Store, Zone, StoreThoughOther, RefuseNewer, RefuseOtherApex}

-- a text isn't the one with this length and SHA-256
abbrev pub IsOther : TextSum → List ℕ → Type 0
IsOther begun text = IsText begun text → ⊥

-- a text, if it is a zone, has the apex of a store's zone (RFC 4343, 3)
abbrev pub HasNoOtherApex : List Record → Name → List ℕ → Type 0
HasNoOtherApex last origin text = (zone : List Record) → zone_of_text origin text ≡ Ok zone → is_same (apex_of zone) (apex_of last) ≡ true

-- a text is a zone of this apex, which differs from that of a store's zone
abbrev pub HasOtherApex : List Record → Name → List ℕ → Name → Type 0
HasOtherApex last origin text apex = (zone : List Record) × (zone_of_text origin text ≡ Ok zone) × (apex ≡ apex_of zone) × (is_same apex (apex_of last) ≡ false)

-- a text is a zone, of the apex of a store's zone, and of this serial
abbrev pub HasSerial : List Record → Name → List ℕ → ℕ → Type 0
HasSerial last origin text serial = (zone : List Record) × (zone_of_text origin text ≡ Ok zone) × (is_same (apex_of zone) (apex_of last) ≡ true) × (zone_serial zone ≡ serial)

-- a text, where nothing is chosen and the store was created from another one, is a zone of this serial; and whether that is greater than that of a store's zone (RFC 1982, 3.2)
abbrev pub IsUntaken : TextSum → List Record → Name → List ℕ → Option Take → ℕ → Bool → Type 0
IsUntaken begun last origin text taken serial greater =
    IsOther begun text × (taken ≡ None) × HasSerial last origin text serial × (serial_less (zone_serial last) serial ≡ greater)

-- what is served, of a store that was created from a text and whose last version has this zone, and of a zone text. Nothing, where that text is a zone of another apex than
-- the store's, whatever else it is, and whatever is chosen. Else the store, where the text is the one that it was created from; else the store, where it is chosen, and the
-- store changed to the text's zone, where that is chosen; where neither is chosen, the store, if the text's serial isn't greater (RFC 1982, 3.2). Else nothing is served
abbrev pub IsChoice : TextSum → List Record → Name → List ℕ → Option Take → Choice → Type 0
IsChoice begun last origin text taken Same = IsText begun text × HasNoOtherApex last origin text
IsChoice begun last origin text taken Store = IsOther begun text × (taken ≡ Some TheStore) × HasNoOtherApex last origin text
IsChoice begun last origin text taken (Zone zone) = IsOther begun text × (taken ≡ Some TheZone) × (zone_of_text origin text ≡ Ok zone)
    × (is_same (apex_of zone) (apex_of last) ≡ true)
IsChoice begun last origin text taken (StoreThoughOther serial) = IsUntaken begun last origin text taken serial.0 false
IsChoice begun last origin text taken (RefuseNewer serial) = IsUntaken begun last origin text taken serial.0 true
IsChoice begun last origin text taken (RefuseOtherApex apex) = HasOtherApex last origin text apex

-- why nothing is decided: there is no memory; or the text is no zone, the store was created from another one, and the store isn't chosen
abbrev pub IsChoiceFault : TextSum → Name → List ℕ → Option Take → FileFault → Type 0
IsChoiceFault begun origin text taken fault =
    (fault ≡ no_memory) ⊎ (IsOther begun text × (taken ≢ Some TheStore) × (zone_of_text origin text ≡ Err fault))
