-- What is told of the numbers that a server's threads count.
use Rattle.std.specs.Prelude.{ℕ, ◌+◌, ◌-◌, ◌^◌, Bool, true, false, List, [], ◌∷◌, ◌++◌, codes, map, min}
use Rattle.metrics_text.specs.declared.family.Kind.TheVariants.{Counter as counter, Gauge as gauge}
use Rattle.metrics_text.specs.Families.{FamilyOf, empty_family, with_samples}
use Rattle.metrics_text.specs.Samples.{SampleOf}
use Rattle.counters.specs.declared.counter.Counter.TheVariants.{Request, Opcode, Question, Reply, Truncated, Dropped, ReceivedOctets, SentOctets, Update, UpdateChanged, UpdateRefused, Transfer, ConnectionOpened, ConnectionEnded, StoreBatch, StoreUpdate, StoreCompaction}
use Rattle.counters.specs.declared.transport.Transport.{Transport}
use Rattle.counters.specs.declared.transport.Transport.TheVariants.{Udp, Tcp}
use Rattle.counters.specs.declared.address_family.AddressFamily.{AddressFamily}
use Rattle.counters.specs.declared.address_family.AddressFamily.TheVariants.{V4, V6}
use Rattle.counters.specs.declared.connection_end.ConnectionEnd.{ConnectionEnd}
use Rattle.counters.specs.declared.counters.Counters.{Counters}
use Rattle.counters.specs.Counters.{number_of}
use Rattle.counters.specs.Opcodes.{all_opcodes, opcode_word}
use Rattle.counters.specs.Qtypes.{all_qtypes, qtype_word}
use Rattle.counters.specs.Rcodes.{all_rcodes, rcode_word}
use Rattle.counters.specs.Refusals.{all_refusals, refusal_word}
use Rattle.counters.specs.Transfers.{all_transfers, transfer_word, sent_word}
use Rattle.counters.specs.Transports.{transport_word}
use Rattle.counters.specs.AddressFamilies.{address_family_word}
use Rattle.counters.specs.ConnectionEnds.{all_connection_ends, connection_end_word}
use Rattle.metric_families.specs.Samples.{two_labels}
use Rattle.metric_families.specs.Times.{times_family}
use Rattle.metric_families.specs.Families.{labelled_family, pair_family, plain_family}

-- the ways by which requests come
abbrev pub all_ways : List (Transport × AddressFamily)
all_ways = (Udp, V4) ∷ ((Udp, V6) ∷ ((Tcp, V4) ∷ ((Tcp, V6) ∷ [])))

-- the requests that came by one of them
abbrev pub way_sample : Transport → AddressFamily → List ℕ → SampleOf
way_sample transport family numbers = two_labels (codes "transport") (transport_word transport) (codes "family") (address_family_word family) (number_of (Request transport family) numbers)

-- requests by transport and address family
abbrev pub queries : List ℕ → FamilyOf
queries numbers = with_samples (empty_family (codes "dnsd_queries_total") (codes "Requests, by transport and IP version") counter) (map (λ way. way_sample way.0 way.1 numbers) all_ways)

-- requests by OPCODE
abbrev pub opcodes : List ℕ → FamilyOf
opcodes numbers = labelled_family (codes "dnsd_requests_total") (codes "Requests, by OPCODE") counter (codes "opcode") opcode_word (λ opcode. number_of (Opcode opcode) numbers) all_opcodes

-- questions by type
abbrev pub qtypes : List ℕ → FamilyOf
qtypes numbers = labelled_family (codes "dnsd_query_types_total") (codes "Questions, by type") counter (codes "type") qtype_word (λ qtype. number_of (Question qtype) numbers) all_qtypes

-- replies by RCODE
abbrev pub rcodes : List ℕ → FamilyOf
rcodes numbers = labelled_family (codes "dnsd_responses_total") (codes "Replies, by RCODE") counter (codes "rcode") rcode_word (λ rcode. number_of (Reply rcode) numbers) all_rcodes

-- replies to updates by RCODE
abbrev pub update_rcodes : List ℕ → FamilyOf
update_rcodes numbers = labelled_family (codes "dnsd_updates_total") (codes "Replies to updates, by RCODE") counter (codes "rcode") rcode_word (λ rcode. number_of (Update rcode) numbers) all_rcodes

-- refused updates by reason
abbrev pub refusals : List ℕ → FamilyOf
refusals numbers = labelled_family (codes "dnsd_updates_refused_total") (codes "Updates that were refused, by reason") counter (codes "reason") refusal_word (λ refusal. number_of (UpdateRefused refusal) numbers) all_refusals

-- transfers by what was asked for and what was sent
abbrev pub transfers : List ℕ → FamilyOf
transfers numbers = pair_family (codes "dnsd_transfers_total") (codes "Requests for transfers, by what was sent") counter (codes "type") (codes "result") transfer_word sent_word (λ transfer. number_of (Transfer transfer) numbers) all_transfers

-- connections that ended by reason
abbrev pub connection_ends : List ℕ → FamilyOf
connection_ends numbers = labelled_family (codes "dnsd_connections_ended_total") (codes "TCP connections that ended, by reason") counter (codes "reason") connection_end_word (λ connection_end. number_of (ConnectionEnded connection_end) numbers) all_connection_ends

-- how many connections have ended for these reasons, and others before
abbrev pub ended_by : ℕ → List ℕ → List ConnectionEnd → ℕ
ended_by before numbers [] = before
ended_by before numbers (reason ∷ reasons) = ended_by (min (before + number_of (ConnectionEnded reason) numbers) (2 ^ 64 - 1)) numbers reasons

-- how many have ended
abbrev pub ended_in : List ℕ → ℕ
ended_in numbers = ended_by 0 numbers all_connection_ends

-- what is told of requests
abbrev pub requests_told : List ℕ → List FamilyOf
requests_told numbers =
    queries numbers ∷ (opcodes numbers ∷ (qtypes numbers
    ∷ (plain_family (codes "dnsd_received_bytes_total") (codes "Bytes of requests") counter (number_of ReceivedOctets numbers)
    ∷ (plain_family (codes "dnsd_dropped_total") (codes "Requests without a reply") counter (number_of Dropped numbers) ∷ []))))

-- of replies
abbrev pub replies_told : List ℕ → List FamilyOf
replies_told numbers =
    rcodes numbers
    ∷ (plain_family (codes "dnsd_truncated_total") (codes "Replies that are truncated") counter (number_of Truncated numbers)
    ∷ (plain_family (codes "dnsd_sent_bytes_total") (codes "Bytes of replies") counter (number_of SentOctets numbers) ∷ []))

-- of updates
abbrev pub updates_told : Counters → List FamilyOf
updates_told sum =
    update_rcodes sum.numbers
    ∷ (plain_family (codes "dnsd_updates_changed_total") (codes "Updates that changed the zone") counter (number_of UpdateChanged sum.numbers)
    ∷ (refusals sum.numbers ∷ (times_family (codes "dnsd_update_seconds") (codes "How long updates took until their reply") sum.updates ∷ [])))

-- of connections: as many are open as were opened and haven't ended
abbrev pub connections_told : List ℕ → List FamilyOf
connections_told numbers =
    plain_family (codes "dnsd_connections") (codes "TCP connections that are open") gauge (number_of ConnectionOpened numbers - ended_in numbers)
    ∷ (plain_family (codes "dnsd_connections_opened_total") (codes "TCP connections that were opened") counter (number_of ConnectionOpened numbers)
    ∷ (connection_ends numbers ∷ []))

-- of what a store wrote
abbrev pub store_told : Counters → List FamilyOf
store_told sum =
    times_family (codes "dnsd_store_fsync_seconds") (codes "How long writes of a batch took") sum.syncs
    ∷ (plain_family (codes "dnsd_store_batches_total") (codes "Batches of updates that the store wrote") counter (number_of StoreBatch sum.numbers)
    ∷ (plain_family (codes "dnsd_store_batch_updates_total") (codes "Updates of these batches") counter (number_of StoreUpdate sum.numbers)
    ∷ (plain_family (codes "dnsd_store_compactions_total") (codes "Compactions of the store") counter (number_of StoreCompaction sum.numbers) ∷ [])))

-- what is told of a store if there is one
abbrev pub stored_told : Bool → Counters → List FamilyOf
stored_told true sum = store_told sum
stored_told false sum = []

-- what is told of a server's threads
abbrev pub threads_told : Counters → List FamilyOf
threads_told sum = requests_told sum.numbers ++ (replies_told sum.numbers ++ (updates_told sum ++ (transfers sum.numbers ∷ connections_told sum.numbers)))

-- and of its store if it has one
abbrev pub counted_told : Counters → Bool → List FamilyOf
counted_told sum has_store = threads_told sum ++ stored_told has_store sum
