-- The engine's history: entries of the versions that were published (RFC 1995, 5; own).
use Rattle.std.specs.Prelude.{List, map}
use Rattle.zone_tree.specs.Version.{Version, zone_serial}
use Rattle.transfer_core.specs.declared.kept.TheConstants.{WINDOW}
use Rattle.weak_history.specs.History.{Entered, HistoryState, longest_run}

-- the entry of a published version: with its number, and its zone's serial
abbrev pub entry_of : Version → Entered Version
entry_of version = record { version = record { number = version.number; value = version }; serial = zone_serial version.zone }

-- the entries of published versions: the longest run of the newest that fits the window
abbrev pub entries_of : List Version → List (Entered Version)
entries_of published = longest_run WINDOW (map entry_of published)

-- the history of published versions
abbrev pub history_of : List Version → HistoryState Version
history_of published = record { size = WINDOW; entries = entries_of published }
