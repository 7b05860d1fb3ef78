-- Which versions a server tells the changes of (RFC 1995, 5; own): the window, and what in it is after the version that an asker
-- holds. Zones stand in the order of their versions, oldest first.
use Rattle.std.specs.Prelude.{◌≡◌, ◌⊎◌, ℕ, ◌<◌, ◌+◌, ◌^◌, Bool, true, false, ◌&&◌, ◌==◌, nat_lt, List, [], ◌∷◌, ◌++◌, length, take, drop, map, Option, Some, None, if◌then◌else◌}
use Rattle.std.specs.Option.{option_or, option_and_then}
use Rattle.dns_rdata.specs.Record.{Record}
use Rattle.dns_rdata.specs.declared.numbers.Serial.{Serial}
use Rattle.dns_rdata.specs.SerialOrder.{serial_less, serial_distance}
use Rattle.zone_tree.specs.Version.{Version, Changes, zone_serial, first_data}
use Rattle.dns_rdata.specs.Data.{serial_of}
use Rattle.transfer_core.specs.Lists.{incremental}
use Rattle.transfer_core.specs.Chain.{zones_of, AreBehind}

-- how far it is up the ring of serials, from one through others to the last of them (RFC 1982, 3.1)
abbrev pub span : ℕ → List ℕ → ℕ
span serial [] = 0
span serial (next ∷ serials) = serial_distance serial next + span next serials

-- whether versions fit a window by their serials: there are at most so many, and the distances from each serial to the next add up to
-- less than half the ring, so that all differ (RFC 1982, 3.2; own)
abbrev pub fits : ℕ → List ℕ → Bool
fits size [] = true
fits size (serial ∷ serials) = nat_lt (length serials) size && nat_lt (span serial serials) (2 ^ 31)

-- serials that rise: each has 32 bits, and is less than the next (RFC 1982, 3.2)
abbrev pub AreRising : ℕ → List ℕ → Type 0
AreRising serial [] = serial < 2 ^ 32
AreRising serial (next ∷ serials) = (serial < 2 ^ 32) × (serial_less serial next ≡ true) × AreRising next serials

abbrev pub serials_of : List (List Record) → List ℕ
serials_of zones = map zone_serial zones

-- the window of a served version: of the zones up to it those in the longest run up to the newest that fits; the newer ones stand
-- after it
abbrev pub window : ℕ → List (List Record) → List (List Record) → List (List Record)
window size newer [] = []
window size newer (zone ∷ zones) =
    if fits size (serials_of ((zone ∷ zones) ++ newer)) then zone ∷ zones else window size newer zones

-- a run of zones is the longest that fits, with newer ones after it: it is at the end of the zones, it fits where it isn't empty, and
-- none that begins earlier does
pub record IsLongestRun (size : ℕ) (newer zones run : List (List Record)) : Type 0 where
  pub older : List (List Record)
  pub split : zones ≡ older ++ run
  pub fit : (run ≡ []) ⊎ (fits size (serials_of (run ++ newer)) ≡ true)
  pub longest : (front rest : List (List Record)) (zone : List Record) → older ≡ front ++ zone ∷ rest → fits size (serials_of (((zone ∷ rest) ++ run) ++ newer)) ≡ false

-- a zone and those after it, of which there is one at least, where it has a serial
abbrev pub held_here : ℕ → List Record → List (List Record) → Option (List Record × List (List Record))
held_here serial zone [] = None
held_here serial zone (next ∷ zones) = if zone_serial zone == serial then Some (zone, next ∷ zones) else None

-- the zone of a serial and those after it up to the last
abbrev pub held : ℕ → List (List Record) → Option (List Record × List (List Record))
held serial [] = None
held serial (zone ∷ zones) = option_or (held serial zones) (held_here serial zone zones)

-- what changed since a zone up to the last of those after it, where at least so many are kept; else it isn't told
abbrev pub changes_from : ℕ → Option (List Record × List (List Record)) → Option (List Record)
changes_from kept None = None
changes_from kept (Some from) = if nat_lt kept (length from.1) then None else Some (incremental from.0 from.1)

-- what changed since the zone of a serial up to a served one, by the size of the window, the zones that are newer, how many of those up
-- to the served one are kept, the serial, and the zones up to the served one: none where the serial isn't in the window, or a zone
-- after it isn't kept (RFC 1995, 4; own)
abbrev pub changes_since : ℕ → List (List Record) → ℕ → ℕ → List (List Record) → Option (List Record)
changes_since size newer kept serial zones = changes_from kept (held serial (window size newer zones))

-- the versions that are kept of a zone, after older ones that aren't: each knows what it changed of the one before it, and the very
-- first of no change
abbrev pub AreKept : List (List Record) → List Version → Type 0
AreKept [] [] = Unit {0}
AreKept [] (v ∷ vs) = (v.changes ≡ None) × AreBehind v.zone vs
AreKept (zone ∷ []) versions = AreBehind zone versions
AreKept (zone ∷ next ∷ zones) versions = AreKept (next ∷ zones) versions

-- the serial of the version before one, where it knows what it changed of that
abbrev pub serial_before : Option Changes → Option ℕ
serial_before None = None
serial_before (Some changes) = Some (serial_of (first_data changes.old_soa))

-- whether the version before some that are kept, and before all newer ones, has a serial, and is in a window
abbrev pub is_held_before : ℕ → ℕ → List (List Record) → Option ℕ → Bool
is_held_before size serial zones None = false
is_held_before size serial zones (Some before) = before == serial && fits size (before ∷ serials_of zones)

-- the versions after the one of a serial in a window, of those that are kept up to a served one, by what they know; the newer ones
-- stand after it
abbrev pub kept_since : ℕ → List Version → ℕ → List Version → Option (List Version)
kept_since size newer serial [] = None
kept_since size newer serial (v ∷ vs) =
    option_or (kept_since size newer serial vs)
    (if is_held_before size serial (zones_of ((v ∷ vs) ++ newer)) (serial_before v.changes) then Some (v ∷ vs) else None)

-- the versions after the one that an asker holds, of those that are kept, of which so many are those up to the served one; none of an
-- asker that tells no serial (RFC 1995, 3)
abbrev pub kept_for : ℕ → ℕ → List Version → Option Serial → Option (List Version)
kept_for size upto kept held = option_and_then (λ serial. kept_since size (drop upto kept) serial.0 (take upto kept)) held
