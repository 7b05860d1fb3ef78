-- What a request for a transfer got, by the octets of its reply (RFC 1995, 4; RFC 5936, 2.2).
use Rattle.std.specs.Prelude.{ℕ, zero, suc, ◌+◌, ◌==◌, ◌||◌, Bool, true, false, List, [], ◌∷◌, drop, nat_lt, Option, Some, None, option_and_then, option_map, if◌then◌else◌}
use Rattle.counters.specs.declared.transfer.Transfer.{Transfer}
use Rattle.counters.specs.declared.transfer.Transfer.TheVariants.{Axfr, AxfrRefused, Ixfr, IxfrFull, IxfrCurrent, IxfrRefused}
use Rattle.message_counts.specs.Places.{number_at, first_name_end, rcode_of}

-- whether a type asks for a transfer: IXFR or AXFR
abbrev pub asks_transfer : ℕ → Bool
asks_transfer qtype = qtype == 251 || qtype == 252

-- the position after a record's owner, at a position of it, of whose label so many octets are left, and what stands there: labels and the
-- length 0, or a pointer (RFC 1035, 4.1.4)
abbrev pub owner_end : ℕ → ℕ → List ℕ → Option ℕ
owner_end at left [] = None
owner_end at zero (len ∷ octets) = if len == 0 then Some (at + 1) else if nat_lt 191 len then Some (at + 2) else if nat_lt 63 len then None else owner_end (at + 1) len octets
owner_end at (suc left) (octet ∷ octets) = owner_end (at + 1) left octets

-- where the first record begins: after the question, if there is one
abbrev pub first_record : List ℕ → Option ℕ
first_record reply = if number_at reply 4 == 0 then Some 12 else option_map (λ at. at + 4) (first_name_end reply)

-- the position after a record's owner that begins at one
abbrev pub owner_end_at : List ℕ → ℕ → Option ℕ
owner_end_at reply at = owner_end at 0 (drop at reply)

-- where the record after one begins, by the position after that one's owner: after its type, class, TTL, length and data (RFC 1035, 3.2.1)
abbrev pub next_record : List ℕ → ℕ → ℕ
next_record reply fixed = fixed + 10 + number_at reply (fixed + 8)

-- the type of the second record
abbrev pub second_type : List ℕ → Option ℕ
second_type reply = option_map (number_at reply) (option_and_then (λ fixed. owner_end_at reply (next_record reply fixed)) (option_and_then (owner_end_at reply) (first_record reply)))

-- what the type of the second record says: SOA, that differences follow (RFC 1995, 4)
abbrev pub by_second : Option ℕ → Transfer
by_second None = IxfrFull
by_second (Some second) = if second == 6 then Ixfr else IxfrFull

-- what IXFR got
abbrev pub incremental_of : Bool → List ℕ → Transfer
incremental_of true reply = IxfrRefused
incremental_of false reply = if nat_lt (number_at reply 6) 2 then IxfrCurrent else by_second (second_type reply)

-- what AXFR got
abbrev pub whole_of : Bool → Transfer
whole_of true = AxfrRefused
whole_of false = Axfr

-- whether a reply's code refuses
abbrev pub refuses : ℕ → Bool
refuses zero = false
refuses (suc code) = true

-- what a question of a type got by a reply's first message
abbrev pub transfer_of : ℕ → List ℕ → Option Transfer
transfer_of qtype reply = if qtype == 252 then Some (whole_of (refuses (rcode_of reply))) else if qtype == 251 then Some (incremental_of (refuses (rcode_of reply)) reply) else None
