-- What is told of a server without its counters.
use Rattle.std.specs.Prelude.{ℕ, Bool, true, false, List, [], ◌∷◌, ◌++◌, codes, flat_map, Option, Some, None}
use Rattle.metrics_text.specs.declared.family.Kind.TheVariants.{Counter as counter, Gauge as gauge}
use Rattle.metrics_text.specs.declared.number.Number.TheVariants.{Nanoseconds}
use Rattle.metrics_text.specs.Families.{FamilyOf, empty_family, with_sample, with_samples}
use Rattle.metrics_text.specs.Samples.{SampleOf, plain_sample}
use Rattle.metric_families.specs.Samples.{one_label, two_labels}
use Rattle.metric_families.specs.Families.{plain_family, one_family, labelled_family}

-- what the system knows of the process: for how long it has run, in nanoseconds, its memory and its addresses, in octets
abbrev pub process_told : ℕ → ℕ → ℕ → List FamilyOf
process_told processor resident in_all =
    with_sample (empty_family (codes "process_cpu_seconds_total") (codes "How long the process ran on processors") counter) (plain_sample (Nanoseconds processor))
    ∷ (plain_family (codes "process_resident_memory_bytes") (codes "Bytes of memory that the process has") gauge resident
    ∷ (plain_family (codes "process_virtual_memory_bytes") (codes "Bytes of addresses that the process has") gauge in_all ∷ []))

-- 1 where something is so, 0 where it isn't
abbrev pub as_number : Bool → ℕ
as_number true = 1
as_number false = 0

-- what is seen of a store: whether the last write failed, and the journal's octets
abbrev pub store_seen : Bool → ℕ → List FamilyOf
store_seen is_failing journal =
    plain_family (codes "dnsd_store_failing") (codes "Whether the last write failed") gauge (as_number is_failing)
    ∷ (plain_family (codes "dnsd_store_journal_bytes") (codes "Bytes of the store's journal") gauge journal ∷ [])

-- what is known of the zone: its name, serial and number of records, and how many versions were published after the first
abbrev pub zone_known : List ℕ → ℕ → ℕ → ℕ → List FamilyOf
zone_known zone serial records versions =
    one_family (codes "dnsd_zone_serial") (codes "The serial of the zone") gauge (codes "zone") zone serial
    ∷ (one_family (codes "dnsd_zone_records") (codes "How many records the zone has") gauge (codes "zone") zone records
    ∷ (one_family (codes "dnsd_zone_versions_total") (codes "Versions of the zone that were published after the first") counter (codes "zone") zone versions ∷ []))

-- what is known of a server: the program's version, when it was started, in seconds since 1970, and its zone
abbrev pub server_known : List ℕ → ℕ → List ℕ → ℕ → ℕ → ℕ → List FamilyOf
server_known version started zone serial records versions =
    one_family (codes "dnsd_build_info") (codes "The version of the program") gauge (codes "version") version 1
    ∷ (plain_family (codes "process_start_time_seconds") (codes "When the server was started, in seconds since 1970") gauge started
    ∷ zone_known zone serial records versions)

-- a secondary: its address, how many NOTIFYs were sent, answered and given up, the serial that it last answered for (RFC 1996)
pub record SecondaryOf : Type 0 where
  pub address : List ℕ
  pub sent : ℕ
  pub answered : ℕ
  pub given_up : ℕ
  pub serial : Option ℕ

-- how many NOTIFYs to a secondary had an outcome
abbrev pub notify_sample : List ℕ → List ℕ → ℕ → SampleOf
notify_sample address outcome number = two_labels (codes "secondary") address (codes "result") outcome number

-- what became of a secondary's NOTIFYs
abbrev pub notify_samples : SecondaryOf → List SampleOf
notify_samples secondary =
    notify_sample secondary.address (codes "sent") secondary.sent
    ∷ (notify_sample secondary.address (codes "answered") secondary.answered
    ∷ (notify_sample secondary.address (codes "given_up") secondary.given_up ∷ []))

-- NOTIFYs by secondary and by what became of them
abbrev pub notifies : List SecondaryOf → FamilyOf
notifies secondaries = with_samples (empty_family (codes "dnsd_notify_total") (codes "NOTIFYs to a secondary, by what became of them") counter) (flat_map notify_samples secondaries)

-- the serial that a secondary last answered for, if it has answered
abbrev pub serial_samples : List ℕ → Option ℕ → List SampleOf
serial_samples address None = []
serial_samples address (Some serial) = one_label (codes "secondary") address serial ∷ []

-- serials by secondary
abbrev pub notify_serials : List SecondaryOf → FamilyOf
notify_serials secondaries = with_samples (empty_family (codes "dnsd_notify_serial") (codes "The serial that a secondary last answered for") gauge) (flat_map (λ secondary. serial_samples secondary.address secondary.serial) secondaries)

-- what is known of secondaries
abbrev pub secondaries_known : List SecondaryOf → List FamilyOf
secondaries_known secondaries = notifies secondaries ∷ (notify_serials secondaries ∷ [])

-- how many datagrams to an address the system dropped
pub record DropsOf : Type 0 where
  pub address : List ℕ
  pub count : ℕ

-- what the system dropped, by address
abbrev pub drops_known : List DropsOf → FamilyOf
drops_known drops = labelled_family (codes "dnsd_udp_drops_total") (codes "Datagrams that the system dropped before the server received them") counter (codes "address") (λ d. d.address) (λ d. d.count) drops
