-- What of a signed message is digested (RFC 8945, 4.3 and 5.3).
use Rattle.std.specs.Prelude.{ℕ, ◌+◌, ◌-◌, ◌==◌, List, [], ◌∷◌, ◌++◌, length, take, drop, if◌then◌else◌}
use Rattle.std.specs.Int.{to_be_bytes, w16}
use Rattle.dns_name.specs.Name.{wire_of, fold_name}
use Rattle.dns_message.specs.Message.{number_at}
use Rattle.hmac.specs.Hmac.{hmac_by}
use Rattle.tsig.specs.Fields.{Fields, time_octets, with_length}
use Rattle.tsig.specs.Keys.{SharedKey, algorithm_name}

-- a message without its TSIG, which stands at a position: with this ID, ARCOUNT one less, and neither the TSIG nor what comes after it (RFC 8945, 4.3.2)
unfoldable pub without_tsig : List ℕ → ℕ → ℕ → List ℕ
without_tsig msg start id = to_be_bytes w16 id ++ (take 8 (drop 2 msg) ++ (to_be_bytes w16 (number_at msg 10 - 1) ++ take (start - 12) (drop 12 msg)))

-- a message of this ID, these flags and three counts, so many additional records, and the rest
abbrev pub message : ℕ → List ℕ → ℕ → List ℕ → List ℕ
message id middle count rest = to_be_bytes w16 id ++ (middle ++ (to_be_bytes w16 count ++ rest))

-- Time Signed and Fudge (RFC 8945, 5.3.1)
unfoldable pub timers : Fields → List ℕ
timers f = time_octets f.time ++ to_be_bytes w16 f.fudge

-- the variables that the key determines: its name in canonical form, class ANY, TTL 0, its algorithm's name (RFC 8945, 4.3.3)
unfoldable pub key_variables : SharedKey → List ℕ
key_variables key = wire_of (fold_name key.name) ++ (0 ∷ 255 ∷ 0 ∷ 0 ∷ 0 ∷ 0 ∷ [] ++ wire_of (algorithm_name key.secret.algorithm))

-- the TSIG's variables: those, then Time Signed, Fudge, Error and Other Data (RFC 8945, 4.3.3)
unfoldable pub variables : SharedKey → Fields → List ℕ
variables key f = key_variables key ++ (timers f ++ (to_be_bytes w16 f.error ++ with_length f.other))

-- what comes first: of a reply its request's MAC behind its length, of a later message of a reply the MAC of the one before; of a request nothing
-- (RFC 8945, 4.3.1 and 5.3.1)
abbrev pub front : List ℕ → List ℕ
front prior = if length prior == 0 then [] else with_length prior

-- what is digested of a message without its TSIG, by the MAC in front and by what comes last (RFC 8945, 4.3)
abbrev pub digested : List ℕ → List ℕ → List ℕ → List ℕ
digested prior plain ends = front prior ++ (plain ++ ends)

-- the MAC of a message without its TSIG (RFC 8945, 4.3)
abbrev pub mac_over : SharedKey → List ℕ → List ℕ → Fields → List ℕ
mac_over key prior plain f = hmac_by key.secret (digested prior plain (variables key f))

-- the MAC of a later message of a reply: of the TSIG's variables it has the times alone (RFC 8945, 5.3.1)
abbrev pub mac_later : SharedKey → List ℕ → List ℕ → Fields → List ℕ
mac_later key prior plain f = hmac_by key.secret (digested prior plain (timers f))
