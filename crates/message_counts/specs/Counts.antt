-- What a request and a reply add to the counters.
use Rattle.std.specs.Prelude.{ℕ, ◌==◌, ◌++◌, ◌&&◌, ◌-◌, Bool, nat_lt, is_some, List, [], ◌∷◌, length, Option, Some, None, if◌then◌else◌}
use Rattle.counters.specs.declared.counter.Counter.{Counter}
use Rattle.counters.specs.declared.counter.Counter.TheVariants.{Request, Opcode, Question, Reply, Truncated, ReceivedOctets, SentOctets, Update, Transfer}
use Rattle.counters.specs.declared.transport.Transport.{Transport}
use Rattle.counters.specs.declared.address_family.AddressFamily.{AddressFamily}
use Rattle.counters.specs.Opcodes.{opcode_of as opcode_named}
use Rattle.counters.specs.Qtypes.{qtype_of}
use Rattle.counters.specs.declared.qtype.Qtype.{Qtype}
use Rattle.counters.specs.declared.qtype.Qtype.TheVariants.{A, Aaaa}
use Rattle.counters.specs.Rcodes.{rcode_of as rcode_named}
use Rattle.counters.specs.declared.transfer.Transfer.{Transfer as TransferKind}
use Rattle.message_counts.specs.Places.{asks_with, ends_with_opt, number_at, opcode_of, is_truncated, question_type, rcode_of}
use Rattle.message_counts.specs.Transfers.{asks_transfer, transfer_of}

-- one more of a counter
abbrev pub one : Counter → Counter × ℕ
one counter = (counter, 1)

-- the type that a query asks for (OPCODE 0), where it can be read; other requests ask for none
abbrev pub queried_type : List ℕ → Option ℕ
queried_type octets = if opcode_of octets == 0 then question_type octets else None

-- the type of an address that a number names: A (RFC 1035, 3.4.1) or AAAA (RFC 3596, 2.1)
abbrev pub address_type : ℕ → Option Qtype
address_type number = if number == 1 then Some A else if number == 28 then Some Aaaa else None

-- the type by which a message's question asks for an address, where that stands before its class at the message's end, or before these and an OPT without options there
abbrev pub address_asked : List ℕ → Option Qtype
address_asked octets =
    if asks_with 0 octets then address_type (number_at octets (length octets - 4))
    else (if nat_lt 27 (length octets) && (asks_with 1 octets && ends_with_opt octets) then address_type (number_at octets (length octets - 15)) else None)

-- whether a message is a query that asks for an address so: OPCODE 0, and at least a header, the root, a type and its class
abbrev pub queries_address : List ℕ → Bool
queries_address octets = nat_lt 16 (length octets) && (opcode_of octets == 0 && is_some (address_asked octets))

-- a question of a type that can be read
abbrev pub question_counts : Option ℕ → List (Counter × ℕ)
question_counts None = []
question_counts (Some number) = one (Question (qtype_of number)) ∷ []

-- what a request asks: its OPCODE, its octets, and of a query its question's type
abbrev pub asked_counts : List ℕ → List (Counter × ℕ)
asked_counts octets = one (Opcode (opcode_named (opcode_of octets))) ∷ ((ReceivedOctets, length octets) ∷ question_counts (queried_type octets))

-- a request: its transport and its peer's address, and what it asks
abbrev pub request_counts : Transport → AddressFamily → List ℕ → List (Counter × ℕ)
request_counts transport family octets = one (Request transport family) ∷ asked_counts octets

-- a reply to an update (RFC 2136, 3.8), by its RCODE
abbrev pub update_counts : List ℕ → List (Counter × ℕ)
update_counts octets = if opcode_of octets == 5 then one (Update (rcode_named (rcode_of octets))) ∷ [] else []

-- a reply that is truncated
abbrev pub truncated_counts : List ℕ → List (Counter × ℕ)
truncated_counts octets = if is_truncated octets then one Truncated ∷ [] else []

-- a reply: its RCODE, its octets, whether it is truncated, and of an update the same RCODE
abbrev pub reply_counts : List ℕ → List (Counter × ℕ)
reply_counts octets = one (Reply (rcode_named (rcode_of octets))) ∷ ((SentOctets, length octets) ∷ (truncated_counts octets ++ update_counts octets))

-- the type by which a request asks for a transfer, if it does, by the type that it asks for
abbrev pub transfer_asked : Option ℕ → Option ℕ
transfer_asked None = None
transfer_asked (Some qtype) = if asks_transfer qtype then Some qtype else None

-- a transfer, by what it got
abbrev pub got_counts : Option TransferKind → List (Counter × ℕ)
got_counts None = []
got_counts (Some transfer) = one (Transfer transfer) ∷ []

-- the reply to a request that may have asked for a transfer, by a type
abbrev pub transfer_counts : Option ℕ → List ℕ → List (Counter × ℕ)
transfer_counts None reply = []
transfer_counts (Some qtype) reply = got_counts (transfer_of qtype reply)
