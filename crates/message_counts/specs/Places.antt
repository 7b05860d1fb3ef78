-- What the octets of a message say at their places (RFC 1035, 4.1; RFC 6891, 6.1).
use Rattle.std.specs.Prelude.{◌≡◌, ◌<◌, ℕ, zero, suc, ◌+◌, ◌-◌, ◌*◌, ◌/◌, ◌%◌, ◌==◌, ◌&&◌, Bool, List, [], ◌∷◌, length, drop, nat_lt, slice_index, Option, Some, None, option_and_then, if◌then◌else◌}

-- the octet at a position; 0 after the last
abbrev pub octet_at : List ℕ → ℕ → ℕ
octet_at octets at = slice_index octets at

-- the number of 16 bits at a position (RFC 1035, 2.3.2)
abbrev pub number_at : List ℕ → ℕ → ℕ
number_at octets at = 256 * octet_at octets at + octet_at octets (at + 1)

-- QR: the third octet's first bit (RFC 1035, 4.1.1)
abbrev pub is_reply : List ℕ → Bool
is_reply octets = nat_lt 127 (octet_at octets 2)

-- OPCODE: four bits of the third octet, after QR (RFC 1035, 4.1.1)
abbrev pub opcode_of : List ℕ → ℕ
opcode_of octets = octet_at octets 2 / 8 % 16

-- TC: the third octet's last bit but one (RFC 1035, 4.1.1)
abbrev pub is_truncated : List ℕ → Bool
is_truncated octets = octet_at octets 2 / 2 % 2 == 1

-- the position after a name in full, at a position of it, of whose label so many octets are left, and what stands there: labels of 1 to 63
-- octets, each after its length, and the length 0 (RFC 1035, 3.1)
abbrev pub name_end : ℕ → ℕ → List ℕ → Option ℕ
name_end at left [] = None
name_end at zero (len ∷ octets) = if len == 0 then Some (at + 1) else if nat_lt 63 len then None else name_end (at + 1) len octets
name_end at (suc left) (octet ∷ octets) = name_end (at + 1) left octets

-- the position after the name of the first question, which stands after the header
abbrev pub first_name_end : List ℕ → Option ℕ
first_name_end octets = if number_at octets 4 == 0 then None else name_end 12 0 (drop 12 octets)

-- the type at a position (RFC 1035, 4.1.2)
abbrev pub type_at : List ℕ → ℕ → Option ℕ
type_at octets at = if nat_lt (length octets) (at + 2) then None else Some (number_at octets at)

-- the type that comes after the name of the first question
abbrev pub named_type : List ℕ → Option ℕ
named_type octets = option_and_then (type_at octets) (first_name_end octets)

-- two numbers of 16 bits, one after the other, as one of 32 bits
abbrev pub pair_at : List ℕ → ℕ → ℕ
pair_at octets at = 65536 * number_at octets at + number_at octets (at + 2)

-- whether a header counts one question and no answer (a 1 and then a 0), no authority, and so many additional records (RFC 1035, 4.1.1)
abbrev pub asks_with : ℕ → List ℕ → Bool
asks_with additional octets = pair_at octets 4 == 65536 && pair_at octets 8 == additional

-- whether the last octets are an OPT without options: the root, type 41, class and TTL, and RDLENGTH 0 (RFC 6891, 6.1.2)
abbrev pub ends_with_opt : List ℕ → Bool
ends_with_opt octets = octet_at octets (length octets - 11) == 0 && (number_at octets (length octets - 10) == 41 && number_at octets (length octets - 2) == 0)

-- the type of the first question: of one alone it stands before the class at the message's end, of one before an OPT without options before
-- these, and of any other after its name (RFC 1035, 4.1.2)
abbrev pub question_type : List ℕ → Option ℕ
question_type octets =
    if nat_lt 16 (length octets) && asks_with 0 octets then Some (number_at octets (length octets - 4))
    else (if nat_lt 27 (length octets) && (asks_with 1 octets && ends_with_opt octets) then Some (number_at octets (length octets - 15)) else named_type octets)

-- the type is the one after the question's name, where that is in full and the question stands before the message's end, or before a record of
-- eleven octets there
abbrev pub TypesAgree : Type 0
TypesAgree =
    (octets : List ℕ) (at : ℕ) → pair_at octets 4 ≡ 65536 → first_name_end octets ≡ Some at
    → ((16 < length octets → pair_at octets 8 ≡ 0 → at + 4 ≡ length octets → question_type octets ≡ named_type octets)
    × (27 < length octets → pair_at octets 8 ≡ 1 → at + 15 ≡ length octets → question_type octets ≡ named_type octets))

-- the upper eight bits of an RCODE in an OPT at a position: the root, type 41, a class, and then they (RFC 6891, 6.1.2 and 6.1.3)
abbrev pub opt_code : List ℕ → ℕ → ℕ
opt_code octets at = if octet_at octets at == 0 && number_at octets (at + 1) == 41 then octet_at octets (at + 5) else 0

-- the same in an OPT after the first question's type and class, or after the header where there is no question
abbrev pub opt_code_after : List ℕ → Option ℕ → ℕ
opt_code_after octets None = opt_code octets 12
opt_code_after octets (Some at) = opt_code octets (at + 4)

-- the upper eight bits of a message's RCODE, where no answer or authority comes before the OPT
abbrev pub high_code : List ℕ → ℕ
high_code octets = if number_at octets 6 == 0 && number_at octets 8 == 0 then opt_code_after octets (first_name_end octets) else 0

-- RCODE: the fourth octet's last four bits, and those of the OPT above them (RFC 1035, 4.1.1; RFC 6891, 6.1.3)
abbrev pub rcode_of : List ℕ → ℕ
rcode_of octets = 16 * high_code octets + octet_at octets 3 % 16
