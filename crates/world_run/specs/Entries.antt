-- The window: the newest versions, as far as it reaches, each with a weak owner, so that what changed since one of them can be sent while those after
-- it aren't buried (RFC 1995, 5; own).
use Rattle.std.specs.Prelude.{ℕ, ◌==◌, nat_le, nat_lt, List, [], ◌∷◌, ◌++◌, length, map, filter, drop, Option, None, Some, if◌then◌else◌}
use Rattle.dns_rdata.specs.declared.numbers.Serial.{Serial}
use Rattle.transfer_core.specs.Window.{span, fits}
use Rattle.world_run.specs.declared.entries.Entry.{Entry}

-- the window has at most so many entries (own)
abbrev pub most_entries : ℕ
most_entries = 16

-- the serials of entries, and their weak owners (own)
abbrev pub serials_in : List Entry → List ℕ
serials_in entries = map (λ entry. entry.serial.0) entries

abbrev pub owners_in : List Entry → List ℕ
owners_in entries = map (λ entry. entry.owner) entries

-- the distance up the ring from the first of serials through the others to the last (RFC 1982, 3.1)
abbrev pub span_of : List ℕ → ℕ
span_of [] = 0
span_of (serial ∷ serials) = span serial serials

-- the weak owners of the entries that leave the window for a new one of a serial, the oldest first: no more than needed for the others to fit
-- with it (RFC 1995, 5; RFC 1982, 3.2; own)
abbrev pub leaving : ℕ → List Entry → ℕ → List ℕ
leaving size [] serial = []
leaving size (entry ∷ entries) serial =
    if fits size (serials_in (entry ∷ entries) ++ serial ∷ []) then [] else entry.owner ∷ leaving size entries serial

-- the window with one more entry (own)
abbrev pub entered : ℕ → List Entry → Entry → List Entry
entered size entries entry = drop (length (leaving size entries entry.serial.0)) entries ++ entry ∷ []

-- the serial under which a version is entered, where there is a window (own)
abbrev pub enters : ℕ → ℕ → Option Serial
enters size serial = if nat_lt 0 size then Some (record { 0 = serial }) else None

-- where none is entered, none leaves (own)
abbrev pub leaving_for : ℕ → List Entry → Option Serial → List ℕ
leaving_for size entries None = []
leaving_for size entries (Some serial) = leaving size entries serial.0

-- the weak owners of the entries after that of a serial; none where there is no such entry (own)
abbrev pub behind : ℕ → List Entry → List ℕ
behind serial [] = []
behind serial (entry ∷ entries) = if entry.serial.0 == serial then owners_in entries else behind serial entries

-- those of the entries after the one of the client's serial, up to a number (RFC 1995, 3 and 4; own)
abbrev pub later : ℕ → Option Serial → List Entry → List ℕ
later number None entries = []
later number (Some serial) entries = behind serial.0 (filter (λ entry. nat_le entry.number number) entries)
