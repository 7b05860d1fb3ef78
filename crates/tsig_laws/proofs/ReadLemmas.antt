-- The TSIG that was put behind a message is the one that is read there.
use Rattle.std.proofs.Common.{◌≡◌, ℕ, ◌+◌, ◌-◌, ◌<◌, ◌≤◌, ◌^◌, false, List, [], ◌∷◌, ◌++◌, length, take, drop, Some, None, Ok, if◌then◌else◌, option_and_then, refl, sym, ap, ◌∙◌, arith, lit<, lit≤, length-append, append_assoc, append-nil}
use Rattle.std.specs.Int.{to_be_bytes, w16}
use Rattle.std.proofs.lemmas.Bool.{le-leb}
use Rattle.std.proofs.lemmas.Bool.Decides.{nat_tests}
use Rattle.std.proofs.lemmas.List.{drop_at, drop-drop, take_all}
use Rattle.std.proofs.lemmas.Nat.{from_be_bytes-to_be_bytes_2}
use Rattle.dns_name.specs.Name.{Name, IsName, wire_of}
use Rattle.dns_name.proofs.LawLemmas.{name_in-is_present, name_in-wire_of}
use Rattle.wire_names.specs.NameAt.{name_at}
use Rattle.dns_message.specs.Message.{Entry, number_at}
use Rattle.dns_message.specs.Reads.{is_reply, record_of, record_at}
use Rattle.dns_message.proofs.TrueLemmas.{IsTrueOf-nothing}
use Rattle.message_laws.proofs.AgainLemmas.{name_again, record_numbers}
use Rattle.hmac.specs.declared.algorithm.Algorithm.{Algorithm}
use Rattle.hmac.specs.declared.algorithm.Algorithm.TheVariants.{Sha256, Sha384, Sha512}
use Rattle.tsig.specs.Digested.{message}
use Rattle.tsig.specs.Fields.{Fields, HaveRoom, written, fields_in, error_number, other_of}
use Rattle.tsig.specs.Keys.{algorithm_name}
use Rattle.tsig.specs.Signing.{stamped, with_record}
use Rattle.tsig.specs.Tsig.{tsig_at, tsig_of, tsig_with, data_of}
use Rattle.tsig.specs.declared.stamp.Stamp.{Stamp}
use Rattle.tsig.specs.declared.tsig_error.TsigError.{TsigError}
use Rattle.tsig.specs.declared.tsig_error.TsigError.TheVariants.{NoError, BadSig, BadKey, BadTime, BadTrunc}
use Rattle.tsig.proofs.SizeLemmas.{name_size, length-written}

-- an algorithm's name is a name
pub algorithm_lawful : (algorithm : Algorithm) → IsName (algorithm_name algorithm)
algorithm_lawful Sha256 = (name_in-is_present (wire_of (algorithm_name Sha256)) (algorithm_name Sha256) refl).0
algorithm_lawful Sha384 = (name_in-is_present (wire_of (algorithm_name Sha384)) (algorithm_name Sha384) refl).0
algorithm_lawful Sha512 = (name_in-is_present (wire_of (algorithm_name Sha512)) (algorithm_name Sha512) refl).0

-- what an error tells has room
few_other : (error : TsigError) → length (other_of error) ≤ 6
few_other NoError = lit≤ tt
few_other BadSig = lit≤ tt
few_other BadKey = lit≤ tt
few_other (BadTime now) = lit≤ tt
few_other BadTrunc = lit≤ tt

small_error : (error : TsigError) → error_number error < 2 ^ 16
small_error NoError = lit< tt
small_error BadSig = lit< tt
small_error BadKey = lit< tt
small_error (BadTime now) = lit< tt
small_error BadTrunc = lit< tt

pub room_of : (stamp : Stamp) (plain mac : List ℕ) → stamp.time < 2 ^ 48 → stamp.fudge < 2 ^ 16 → length mac ≤ 64 → number_at plain 0 < 2 ^ 16 → HaveRoom (stamped stamp plain mac)
room_of stamp plain mac time fudge few id =
    let other = few_other stamp.error in
    record { time = time; fudge = fudge; mac = omega (arith, few); original = id; error = small_error stamp.error; other = omega (arith, other) }

pub few_octets : (algorithm : Algorithm) (stamp : Stamp) (plain mac : List ℕ) → length mac ≤ 64 → length (wire_of (algorithm_name algorithm) ++ written (stamped stamp plain mac)) < 2 ^ 16
few_octets algorithm stamp plain mac few =
    let all = length-append (wire_of (algorithm_name algorithm)) (written (stamped stamp plain mac)) in
    let name = name_size algorithm in
    let own = length-written (stamped stamp plain mac) in
    let other = few_other stamp.error in
    omega (arith, all, name, own, other, few)

-- the data of a TSIG is read as it was written
data_read : (owner algorithm : Name) (fields : Fields) → IsName algorithm → fields_in (written fields) ≡ Some fields → length (wire_of owner) + length (wire_of algorithm) ≤ 470
    → tsig_of owner (wire_of algorithm ++ written fields) ≡ Some (record { owner = owner; algorithm = algorithm; fields = fields })
data_read owner algorithm fields lawful read short =
    ap (option_and_then (λ (a : Name). tsig_with owner a (fields_in (drop (length (wire_of a)) (wire_of algorithm ++ written fields))))) (name_in-wire_of algorithm (written fields) lawful)
    ∙ ap (λ o. tsig_with owner algorithm (fields_in o)) (drop_at (wire_of algorithm) (written fields) (length (wire_of algorithm)) refl)
    ∙ ap (tsig_with owner algorithm) read
    ∙ ap (λ b. if b then Some (record { owner = owner; algorithm = algorithm; fields = fields }) else None) (le-leb _ _ short)

-- the type, the class and the TTL of a TSIG, and its data behind their number
abbrev pub numbers : List ℕ → List ℕ
numbers octets = 0 ∷ 250 ∷ 0 ∷ 255 ∷ 0 ∷ 0 ∷ 0 ∷ 0 ∷ (to_be_bytes w16 (length octets) ++ octets)

-- the record of a TSIG, as it is read
abbrev pub entry : Name → ℕ → ℕ → Entry
entry owner end size = record { owner = owner; rtype = 250; class = 255; ttl = 0; at = end + 10; size = size }

-- a record is read behind what stands in front of it
pub record_read : (front : List ℕ) (owner : Name) (octets : List ℕ) → IsName owner → length octets < 2 ^ 16
    → record_at (front ++ (wire_of owner ++ numbers octets)) (length front) ≡ Some (entry owner (length (front ++ wire_of owner)) (length octets), length (front ++ wire_of owner) + 10 + length octets)
record_read front owner octets lawful few =
    let whole = front ++ (wire_of owner ++ numbers octets) in
    let end = length (front ++ wire_of owner) in
    let long = length-append front (wire_of owner) in
    let named : name_at whole (length front) ≡ Ok (owner, end) = name_again false front (numbers octets) whole [] (length front) owner refl refl (IsTrueOf-nothing front) lawful ∙ ap (λ n. Ok (owner, n)) (sym long) in
    let same : whole ≡ (front ++ wire_of owner) ++ (0 ∷ 250 ∷ 0 ∷ 255 ∷ 0 ∷ 0 ∷ 0 ∷ 0 ∷ (to_be_bytes w16 (length octets) ++ (octets ++ []))) =
    sym (append_assoc front (wire_of owner) (numbers octets)) ∙ ap (λ d. (front ++ wire_of owner) ++ (0 ∷ 250 ∷ 0 ∷ 255 ∷ 0 ∷ 0 ∷ 0 ∷ 0 ∷ (to_be_bytes w16 (length octets) ++ d))) (sym (append-nil octets)) in
    ap (record_of whole) named ∙ ap (λ m. record_of m (Ok (owner, end))) same ∙ record_numbers (front ++ wire_of owner) [] octets owner 250 255 0 (lit< tt) (lit< tt) (lit< tt) few

-- and its data is what stands there
data_there : (front : List ℕ) (owner : Name) (octets : List ℕ) → take (length octets) (drop (length (front ++ wire_of owner) + 10) (front ++ (wire_of owner ++ numbers octets))) ≡ octets
data_there front owner octets =
    let end = length (front ++ wire_of owner) in
    let all = (front ++ wire_of owner) ++ numbers octets in
    ap (λ m. take (length octets) (drop (end + 10) m)) (sym (append_assoc front (wire_of owner) (numbers octets)))
    ∙ ap (take (length octets)) (sym (drop-drop 10 end all) ∙ ap (drop 10) (drop_at (front ++ wire_of owner) (numbers octets) end refl))
    ∙ take_all (length octets) octets (omega arith)

-- so its TSIG is read
pub tsig_read : (front : List ℕ) (owner algorithm : Name) (fields : Fields) → IsName owner → IsName algorithm → fields_in (written fields) ≡ Some fields → length (wire_of owner) + length (wire_of algorithm) ≤ 470
    → length (wire_of algorithm ++ written fields) < 2 ^ 16
    → tsig_at (front ++ (wire_of owner ++ numbers (wire_of algorithm ++ written fields))) (length front) ≡ Some (record { owner = owner; algorithm = algorithm; fields = fields })
tsig_read front owner algorithm fields lawful known read short few =
    let octets = wire_of algorithm ++ written fields in
    let whole = front ++ (wire_of owner ++ numbers octets) in
    ap (option_and_then (λ (r : Entry × ℕ). tsig_of r.0.owner (data_of whole r))) (record_read front owner octets lawful few)
    ∙ ap (tsig_of owner) (data_there front owner octets)
    ∙ data_read owner algorithm fields known read short

-- a record behind a message is one more in its count
pub counted : (id count a b c d e f g h : ℕ) (rest tail : List ℕ) → count < 2 ^ 16 - 1
    → with_record (message id (a ∷ b ∷ c ∷ d ∷ e ∷ f ∷ g ∷ h ∷ []) count rest) tail ≡ message id (a ∷ b ∷ c ∷ d ∷ e ∷ f ∷ g ∷ h ∷ []) (count + 1) rest ++ tail
counted id count a b c d e f g h rest tail fits =
    ap (λ n. to_be_bytes w16 id ++ ((a ∷ b ∷ c ∷ d ∷ e ∷ f ∷ g ∷ h ∷ []) ++ (to_be_bytes w16 (n + 1) ++ (rest ++ tail)))) (from_be_bytes-to_be_bytes_2 count (omega (arith, fits)))

pub header_long : (id count a b c d e f g h : ℕ) (rest : List ℕ) → length (message id (a ∷ b ∷ c ∷ d ∷ e ∷ f ∷ g ∷ h ∷ []) count rest) ≡ 12 + length rest
header_long id count a b c d e f g h rest = omega arith

pub header_asks : (id count a b c d e f g h : ℕ) (rest tail : List ℕ) → a < 128 → is_reply (message id (a ∷ b ∷ c ∷ d ∷ e ∷ f ∷ g ∷ h ∷ []) count rest ++ tail) ≡ false
header_asks id count a b c d e f g h rest tail asks = grind (arith, nat_tests)
