-- Which messages reply to a request (RFC 1035, 4.1.1).
use Rattle.std.specs.Prelude.{ℕ, Bool, ◌==◌, ◌&&◌, ◌/◌, ◌%◌, List, length, nat_lt, slice_index, Option, Some, None, if◌then◌else◌}
use Rattle.dns_message.specs.Message.{number_at}
use Rattle.dns_message.specs.Reads.{is_reply}
use Rattle.dns_message.specs.Received.{rcode_of}

-- OPCODE, four bits of the third octet
abbrev pub opcode_of : List ℕ → ℕ
opcode_of msg = slice_index msg 2 / 8 % 16

-- whether a header is that of a reply to a request: QR is 1, and it has the request's ID and OPCODE
abbrev pub is_reply_to : List ℕ → List ℕ → Bool
is_reply_to request msg = is_reply msg && number_at msg 0 == number_at request 0 && opcode_of msg == opcode_of request

-- the RCODE of a reply to a request; none of fewer than twelve octets, and of other messages
abbrev pub code_of : List ℕ → List ℕ → Option ℕ
code_of request msg =
    if nat_lt (length msg) 12 then None
    else if is_reply_to request msg then Some (rcode_of msg)
    else None
