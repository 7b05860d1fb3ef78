-- How a message is signed (RFC 8945, 5.3), and how a request that isn't taken is told (RFC 8945, 5.2 and 5.3.2).
use Rattle.std.specs.Prelude.{ℕ, ◌+◌, ◌-◌, ◌*◌, ◌/◌, ◌%◌, ◌^◌, ◌==◌, List, [], ◌∷◌, ◌++◌, length, take, drop, nat_le, nat_lt, slice_index, ◌&&◌, Option, Some, None, option_and_then, if◌then◌else◌}
use Rattle.std.specs.Int.{to_be_bytes, w16}
use Rattle.dns_name.specs.Name.{wire_of}
use Rattle.dns_message.specs.Message.{number_at}
use Rattle.dns_message.specs.Reads.{question_at}
use Rattle.hmac.specs.Hmac.{mac_size}
use Rattle.tsig.specs.Digested.{mac_over, mac_later}
use Rattle.tsig.specs.Fields.{Fields, error_number, other_of}
use Rattle.tsig.specs.Keys.{SharedKey, algorithm_name}
use Rattle.tsig.specs.Tsig.{Tsig, record_octets}
use Rattle.tsig.specs.declared.stamp.Stamp.{Stamp}
use Rattle.tsig.specs.declared.tsig_error.TsigError.{TsigError}

-- the fields of a message's TSIG with this MAC: Original ID is the message's ID (RFC 8945, 4.2)
abbrev pub stamped : Stamp → List ℕ → List ℕ → Fields
stamped stamp plain mac = record {
  time = stamp.time;
  fudge = stamp.fudge;
  mac = mac;
  original = number_at plain 0;
  error = error_number stamp.error;
  other = other_of stamp.error;
}

-- a message with one more additional record behind it
abbrev pub with_record : List ℕ → List ℕ → List ℕ
with_record plain octets = take 10 plain ++ (to_be_bytes w16 (number_at plain 10 + 1) ++ (drop 12 plain ++ octets))

-- a message with a key's TSIG of this MAC behind it
abbrev pub with_tsig : SharedKey → Stamp → List ℕ → List ℕ → List ℕ
with_tsig key stamp mac plain =
    with_record plain (record_octets (record { owner = key.name; algorithm = algorithm_name key.secret.algorithm; fields = stamped stamp plain mac }))

-- a message that is signed by a key behind a MAC
abbrev pub signed : SharedKey → List ℕ → Stamp → List ℕ → List ℕ
signed key prior stamp plain = with_tsig key stamp (mac_over key prior plain (stamped stamp plain [])) plain

-- a later message of a reply, signed behind the MAC of the one before (RFC 8945, 5.3.1)
abbrev pub signed_later : SharedKey → List ℕ → Stamp → List ℕ → List ℕ
signed_later key prior stamp plain = with_tsig key stamp (mac_later key prior plain (stamped stamp plain [])) plain

-- how many octets the TSIG of a key has
abbrev pub tsig_size : SharedKey → Stamp → ℕ
tsig_size key stamp =
    length (wire_of key.name) + 10 + length (wire_of (algorithm_name key.secret.algorithm)) + 16 + mac_size key.secret.algorithm + length (other_of stamp.error)

-- what stands between the ID and the question of a reply that is cut: its flags with TC 1 and NOERROR, so many questions, and no records (RFC 8945, 5.3)
abbrev pub cut_middle : List ℕ → ℕ → List ℕ
cut_middle plain asked =
    (slice_index plain 2 / 4 * 4 + 2 + slice_index plain 2 % 2) ∷ (slice_index plain 3 / 16 * 16) ∷ 0 ∷ asked ∷ 0 ∷ 0 ∷ 0 ∷ 0 ∷ 0 ∷ 0 ∷ []

-- a position behind a question that begins behind the header: a question has at most 259 octets (RFC 1035, 2.3.4 and 4.1.2)
abbrev pub end_within : ℕ → Option ℕ
end_within end = if nat_le 12 end && nat_le end (12 + 259) then Some end else None

-- where the question of a reply ends that has one; none of another number of questions, and where it can't be read (RFC 1035, 4.1.2)
abbrev pub question_end : List ℕ → Option ℕ
question_end plain = if number_at plain 4 == 1 then option_and_then (λ q. end_within q.1) (question_at plain 12) else None

-- a reply that is cut to a position, with so many questions
abbrev pub cut_to : List ℕ → ℕ → ℕ → List ℕ
cut_to plain asked end = take 2 plain ++ (cut_middle plain asked ++ take (end - 12) (drop 12 plain))

-- a reply that is cut to its header, or to where its question ends
abbrev pub cut_at : List ℕ → Option ℕ → List ℕ
cut_at plain None = cut_to plain 0 12
cut_at plain (Some end) = cut_to plain 1 end

-- what is left of a reply whose TSIG doesn't fit: its header with TC 1 and NOERROR, and its question (RFC 8945, 5.3)
abbrev pub cut : List ℕ → List ℕ
cut plain = cut_at plain (question_end plain)

-- the reply, where it fits a limit with a TSIG of so many octets and one more additional record can be counted, and else what is left of it
abbrev pub fitted : ℕ → ℕ → List ℕ → List ℕ
fitted size limit plain = if nat_le (length plain + size) limit && nat_lt (number_at plain 10) (2 ^ 16 - 1) then plain else cut plain

-- the octets that are sent of a reply under a limit (RFC 8945, 5.3)
abbrev pub signed_within : SharedKey → List ℕ → Stamp → ℕ → List ℕ → List ℕ
signed_within key prior stamp limit plain = signed key prior stamp (fitted (tsig_size key stamp) limit plain)

-- the fields of the TSIG that tells of an unknown key or a wrong MAC: the request's times, and no MAC (RFC 8945, 5.3.2)
abbrev pub unsigned : Fields → TsigError → List ℕ → Fields
unsigned f error plain = record {
  time = f.time;
  fudge = f.fudge;
  mac = [];
  original = number_at plain 0;
  error = error_number error;
  other = other_of error;
}

-- a reply that tells of an unknown key or a wrong MAC, unsigned, with the names of the request's TSIG (RFC 8945, 5.3.2)
abbrev pub with_error_tsig : Tsig → TsigError → List ℕ → List ℕ
with_error_tsig tsig error plain =
    with_record plain (record_octets (record { owner = tsig.owner; algorithm = tsig.algorithm; fields = unsigned tsig.fields error plain }))
