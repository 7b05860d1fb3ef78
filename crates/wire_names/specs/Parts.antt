-- What stands at one place of a name in a message (RFC 1035, 4.1.4).
use Rattle.std.specs.Prelude.{ℕ, ◌+◌, ◌-◌, ◌*◌, ◌==◌, List, [], ◌∷◌, length, take, drop, nat_lt, nat_le, if◌then◌else◌, Result, Ok, Err}
use Rattle.wire_names.specs.declared.part.NameReadFault.{NameReadFault}
use Rattle.wire_names.specs.declared.part.NameReadFault.TheVariants.{Short, BadLength}
use Rattle.wire_names.specs.declared.part.Part.{Part}
use Rattle.wire_names.specs.declared.part.Part.TheVariants.{Closing, Label, Pointer}

-- a label of n octets, where so many stand after its length octet (RFC 1035, 3.1)
abbrev pub label_of : ℕ → List ℕ → Result Part NameReadFault
label_of n octets = if nat_le n (length octets) then Ok (Label n) else Err Short

-- a pointer, whose offset is the six low bits of its first octet and then the eight of its second (RFC 1035, 4.1.4)
abbrev pub pointer_of : ℕ → List ℕ → Result Part NameReadFault
pointer_of high [] = Err Short
pointer_of high (low ∷ octets) = Ok (Pointer (high * 256 + low))

-- what octets begin with, by the two highest bits of the first: 00 a label, or the name's end where the octet is
-- zero; 11 a pointer; 01 and 10 nothing (RFC 1035, 4.1.4)
abbrev pub part_of : List ℕ → Result Part NameReadFault
part_of [] = Err Short
part_of (n ∷ octets) =
    if n == 0 then Ok Closing
    else if nat_lt n 64 then label_of n octets
    else if nat_lt n 192 then Err BadLength
    else pointer_of (n - 192) octets

-- what stands at a position of a message, counted from its first octet
abbrev pub part_at : List ℕ → ℕ → Result Part NameReadFault
part_at msg at = part_of (drop at msg)

-- the octets of a label of n octets whose length octet stands at a position
abbrev pub label_at : List ℕ → ℕ → ℕ → List ℕ
label_at msg at n = take n (drop (at + 1) msg)
