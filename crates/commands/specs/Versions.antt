-- The versions of a zone in a run, and which of their changes are sent (RFC 1995, 4 and 5; own).
use Rattle.std.specs.Prelude.{◌≡◌, ◌+◌, Bool, ◌&&◌, ◌==◌, List, [], ◌∷◌, ◌++◌, length, min, bytes_eq, Option, None, Some, if◌then◌else◌}
use Rattle.std.specs.Option.{option_and_then}
use Rattle.std.specs.Cmp.Lexicographic.{pointwise}
use Rattle.circular_buffer.specs.Buffer.{keep_last}
use Rattle.dns_rdata.specs.Record.{Record}
use Rattle.dns_message.specs.declared.query.Query.{Query as QueryAsked}
use Rattle.zone_tree.specs.Version.{Version}
use Rattle.transfer_core.specs.Chain.{zones_of}
use Rattle.transfer_core.specs.Window.{AreKept, changes_since}
use Rattle.transfer_core.specs.declared.kept.TheConstants.{KEPT, WINDOW}

-- whether two records are equal in every part
abbrev pub are_alike : Record → Record → Bool
are_alike r s = (bytes_eq r.rdata s.rdata && pointwise bytes_eq r.owner s.owner) && (r.rtype == s.rtype && r.ttl == s.ttl)

-- the zone's versions from the first on, as zones: the newest, and those before it, oldest first
pub record Past : Type 0 where
  pub older : List (List Record)
  pub newest : List Record

-- the versions at the start of a run from a zone
abbrev pub begun : List Record → Past
begun zone = record { older = []; newest = zone }

-- all versions, oldest first
abbrev pub all_of : Past → List (List Record)
all_of past = past.older ++ past.newest ∷ []

-- the versions after a request that leaves this zone: one more if the zone differs from the newest (RFC 2136, 3.6)
abbrev pub followed_by : Past → List Record → Past
followed_by past zone = if pointwise are_alike past.newest zone then past else record { older = all_of past; newest = zone }

-- the changes since the version that the client of a transfer holds; none if that version is not in the window, or a version after it is not kept
-- (RFC 1995, 4 and 5; own)
abbrev pub changes_for : Past → QueryAsked → Option (List Record)
changes_for past query =
    option_and_then (λ serial. changes_since WINDOW [] (min (KEPT + 1) (length (all_of past))) serial.0 (all_of past)) query.serial

-- versions that are kept: the newest, and those before it, oldest first
pub record Keeping : Type 0 where
  pub older : List Version
  pub newest : Version

abbrev pub kept_of : Keeping → List Version
kept_of kept = kept.older ++ kept.newest ∷ []

-- what is kept after the next version, if there is one
abbrev pub kept_with : Keeping → Option Version → Keeping
kept_with kept None = kept
kept_with kept (Some next) = record { older = keep_last KEPT (kept_of kept); newest = next }

-- the newest of a run's versions are kept, and each of them has its changes from the version before it
pub record Holds (past : Past) (kept : Keeping) : Type 0 where
  pub gone : List (List Record)
  pub older : past.older ≡ gone ++ zones_of kept.older
  pub newest : past.newest ≡ kept.newest.zone
  pub known : AreKept gone (kept_of kept)
  pub count : length kept.older ≡ min KEPT (length past.older)
