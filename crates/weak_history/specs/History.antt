-- A history: the newest versions that it was told, as far as its window reaches, each with its serial (RFC 1995, 5; own).
use Rattle.std.specs.Prelude.{ℕ, ◌==◌, nat_le, List, [], ◌∷◌, map, filter, Option, None, Some, if◌then◌else◌}
use Rattle.std.specs.Option.{option_or}
use Rattle.cell_core.specs.declared.words.Version.{Version}
use Rattle.transfer_core.specs.Window.{span, fits}

-- an entry: a version, and its serial (own)
pub record Entered (T : Type 0) : Type 0 where
  pub version : Version T
  pub serial : ℕ

-- a history: how many entries it has at most, and those that it has, the oldest first (own)
pub record HistoryState (T : Type 0) : Type 0 where
  pub size : ℕ
  pub entries : List (Entered T)

abbrev pub serials_in : {T : Type 0} → List (Entered T) → List ℕ
serials_in entries = map (λ entry. entry.serial) entries

abbrev pub versions_in : {T : Type 0} → List (Entered T) → List (Version T)
versions_in entries = map (λ entry. entry.version) entries

-- how far it is up the ring from the first of serials through the others to the last (RFC 1982, 3.1)
abbrev pub span_in : List ℕ → ℕ
span_in [] = 0
span_in (serial ∷ serials) = span serial serials

-- the longest run of entries up to the newest that fits a window by their serials (RFC 1995, 5; RFC 1982, 3.2; own)
abbrev pub longest_run : {T : Type 0} → ℕ → List (Entered T) → List (Entered T)
longest_run size [] = []
longest_run size (entry ∷ entries) = if fits size (serials_in (entry ∷ entries)) then entry ∷ entries else longest_run size entries

-- the entries whose versions are numbered up to a number (own)
abbrev pub numbered_to : {T : Type 0} → ℕ → List (Entered T) → List (Entered T)
numbered_to number entries = filter (λ entry. nat_le entry.version.number number) entries

-- the entries after the newest of a serial; none where no entry has it (RFC 1995, 4; own)
abbrev pub after_serial : {T : Type 0} → ℕ → List (Entered T) → Option (List (Entered T))
after_serial serial [] = None
after_serial serial (entry ∷ entries) = option_or (after_serial serial entries) (if entry.serial == serial then Some entries else None)

-- the entries after the newest of a serial, of those up to a number (RFC 1995, 4; own)
abbrev pub later_entries : {T : Type 0} → ℕ → ℕ → List (Entered T) → Option (List (Entered T))
later_entries serial number entries = after_serial serial (numbered_to number entries)
