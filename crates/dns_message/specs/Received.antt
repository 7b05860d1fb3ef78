-- The messages of a transfer as they are received: the records of their answer sections (RFC 5936, 2.2; RFC 1995, 4).
use Rattle.std.specs.Prelude.{◌≡◌, ℕ, ◌%◌, ◌||◌, not, ◌==◌, List, [], length, map, nat_lt, slice_index, Option, Some, None, option_map, unwrap_or, if◌then◌else◌}
use Rattle.dns_name.specs.Name.{fold_name}
use Rattle.dns_rdata.specs.Numbers.{class_IN}
use Rattle.dns_rdata.specs.Raw.{RawRecord}
use Rattle.dns_rdata.specs.Record.{Record}
use Rattle.dns_message.specs.Expanded.{expanded_data}
use Rattle.dns_message.specs.Message.{Entry, Body, number_at}
use Rattle.dns_message.specs.Reads.{is_reply, body_in, records_at}
use Rattle.dns_message.specs.Updates.{raw_with}

-- RCODE, the four low bits of the fourth octet (RFC 1035, 4.1.1)
abbrev pub rcode_of : List ℕ → ℕ
rcode_of msg = slice_index msg 3 % 16

-- a record as it is received: its owner in lower case, and its data with the names in full; no data where these can't be read, which
-- is the form of no type that has names (RFC 1035, 3.3 and 4.1.4; RFC 4343, 3; own)
abbrev pub received : List ℕ → Entry → RawRecord
received msg entry = raw_with entry (unwrap_or (expanded_data msg entry) [])

-- the records of a reply's answer section; none where the octets are no reply, its RCODE isn't NOERROR, or a question or a record of
-- any section can't be read. Octets after the last record are ignored (RFC 1035, 4.1; RFC 5936, 2.2; own)
abbrev pub received_records : List ℕ → Option (List RawRecord)
received_records msg =
    if nat_lt (length msg) 12 || not (is_reply msg) || not (rcode_of msg == 0) then None
    else option_map (λ body. map (received msg) body.answer) (body_in msg)

-- a record that was written as it is received: its owner in lower case (RFC 4343, 3)
abbrev pub as_received : Record → RawRecord
as_received r = record { owner = fold_name r.owner; rtype = r.rtype; class = class_IN; ttl = r.ttl; octets = r.rdata }

-- the answer section of a message that can be read in whole begins at a position
pub record HasAnswerAt (msg : List ℕ) (at : ℕ) : Type 0 where
  pub body : Body
  pub next : ℕ
  pub whole : body_in msg ≡ Some body
  pub answer : records_at (number_at msg 6) msg at ≡ Some (body.answer, next)
