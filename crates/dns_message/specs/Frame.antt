-- Frames: messages over TCP (RFC 1035, 4.2.2).
use Rattle.std.specs.Prelude.{ℕ, Bool, ◌+◌, ◌&&◌, List, ◌++◌, length, take, drop, nat_le, Option, Some, None, if◌then◌else◌}
use Rattle.std.specs.Int.{to_be_bytes, w16}
use Rattle.dns_message.specs.Message.{message_limit, number_at}

-- the frame of a message: how many octets the message has, in two octets, and the message
abbrev pub frame_of : List ℕ → List ℕ
frame_of message = to_be_bytes w16 (length message) ++ message

-- the message of the frame that octets begin with, and the octets after that frame; none where they end before its end
abbrev pub frame_in : List ℕ → Option (List ℕ × List ℕ)
frame_in octets =
    let size = number_at octets 0 in
    if nat_le (2 + size) (length octets) then Some (take size (drop 2 octets), drop (2 + size) octets) else None

-- whether a message has a frame, whose length of 16 bits tells how long it is, and the frame fits so many octets
abbrev pub frame_fits : List ℕ → ℕ → Bool
frame_fits message room = nat_le (length message) message_limit && nat_le (length message + 2) room

-- octets with a message's frame in place of so many at their front
abbrev pub with_frame : List ℕ → List ℕ → List ℕ
with_frame message octets = frame_of message ++ drop (length message + 2) octets
