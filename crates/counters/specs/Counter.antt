-- What is counted, and the place of each number.
use Rattle.std.specs.Prelude.{◌≡◌, ℕ, ◌+◌, ◌*◌}
use Rattle.counters.specs.declared.counter.Counter.{Counter}
use Rattle.counters.specs.declared.counter.Counter.TheVariants.{Request, Opcode, Question, Reply, Truncated, Dropped, ReceivedOctets, SentOctets, Update, UpdateChanged, UpdateRefused, Transfer, ConnectionOpened, ConnectionEnded, StoreBatch, StoreUpdate, StoreCompaction}
use Rattle.counters.specs.Opcodes.{opcode_index}
use Rattle.counters.specs.Qtypes.{qtype_index}
use Rattle.counters.specs.Rcodes.{rcode_index}
use Rattle.counters.specs.Transports.{transport_index}
use Rattle.counters.specs.AddressFamilies.{address_family_index}
use Rattle.counters.specs.Refusals.{refusal_index}
use Rattle.counters.specs.Transfers.{transfer_index}
use Rattle.counters.specs.ConnectionEnds.{connection_end_index}

-- the place of each
abbrev pub counter_index : Counter → ℕ
counter_index (Request transport family) = 2 * transport_index transport + address_family_index family
counter_index (Opcode opcode) = 4 + opcode_index opcode
counter_index (Question qtype) = 11 + qtype_index qtype
counter_index (Reply rcode) = 32 + rcode_index rcode
counter_index Truncated = 45
counter_index Dropped = 46
counter_index ReceivedOctets = 47
counter_index SentOctets = 48
counter_index (Update rcode) = 49 + rcode_index rcode
counter_index UpdateChanged = 62
counter_index (UpdateRefused refusal) = 63 + refusal_index refusal
counter_index (Transfer transfer) = 68 + transfer_index transfer
counter_index ConnectionOpened = 74
counter_index (ConnectionEnded connection_end) = 75 + connection_end_index connection_end
counter_index StoreBatch = 79
counter_index StoreUpdate = 80
counter_index StoreCompaction = 81

-- no two counters have the same place
abbrev pub CountersDiffer : Type 0
CountersDiffer = (a b : Counter) → counter_index a ≡ counter_index b → a ≡ b
