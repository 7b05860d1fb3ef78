-- A request without its TSIG has the header of the request, but for a count.
use Rattle.std.proofs.Common.{◌≡◌, ℕ, ◌+◌, ◌-◌, ◌*◌, ◌/◌, ◌%◌, ◌^◌, ◌<◌, ◌≤◌, ◌==◌, ◌&&◌, not, List, [], ◌∷◌, ◌++◌, length, take, drop, refl, sym, ap, ◌∙◌, arith, length-append, length-drop, lit<}
use Rattle.std.specs.Prelude.{slice_index, nat_le}
use Rattle.std.specs.Int.{from_be_bytes, to_be_bytes, w16}
use Rattle.std.proofs.Math.Nat.{mod-lt}
use Rattle.std.proofs.lemmas.List.{length-take-le}
use Rattle.std.proofs.lemmas.Nat.{from_be_bytes-to_be_bytes_2}
use Rattle.dns_message.specs.Message.{number_at, opcode_UPDATE}
use Rattle.dns_message.specs.Reads.{header_of, is_reply, opcode_of}
use Rattle.dns_message.specs.Request.{IsWant}
use Rattle.dns_message.specs.declared.query.Head.{Head}
use Rattle.dns_message.specs.declared.query.Parsed.TheVariants.{NoMemory}
use Rattle.tsig.specs.Digested.{without_tsig}
use Rattle.signed_replies.specs.Signed.{plain_of}

-- its third octet
third : (msg : List ℕ) (start : ℕ) → 12 ≤ length msg → slice_index (plain_of msg start) 2 ≡ slice_index msg 2
unfolding without_tsig
third [] start header = absurd (omega (arith, header))
third (a ∷ []) start header = absurd (omega (arith, header))
third (a ∷ b ∷ []) start header = absurd (omega (arith, header))
third (a ∷ b ∷ c ∷ more) start header = refl

-- its ID
own_id : (msg : List ℕ) (start : ℕ) → number_at msg 0 < 2 ^ 16 → number_at (plain_of msg start) 0 ≡ number_at msg 0
unfolding without_tsig
own_id msg start small = from_be_bytes-to_be_bytes_2 (number_at msg 0) small

-- how many octets it has at least
plain_size : (msg : List ℕ) (start : ℕ) → 12 ≤ length msg → 12 ≤ length (plain_of msg start)
unfolding without_tsig
plain_size msg start header =
    let rest = to_be_bytes w16 (number_at msg 10 - 1) ++ take (start - 12) (drop 12 msg) in
    let middle : length (take 8 (drop 2 msg)) ≡ 8 = length-take-le 8 (drop 2 msg) (omega (arith, length-drop 2 msg, header)) in
    let all : length (take 8 (drop 2 msg) ++ rest) ≡ length (take 8 (drop 2 msg)) + length rest = length-append (take 8 (drop 2 msg)) rest in
    let two : 2 ≤ length rest = omega (arith, length-append (to_be_bytes w16 (number_at msg 10 - 1)) (take (start - 12) (drop 12 msg))) in
    omega (arith, middle, all, two)

-- what a reply copies of a header with this ID and this third octet
abbrev head_by : ℕ → ℕ → Head
head_by id flags = record {
  id = id;
  opcode = (flags / 8) % 16;
  rd = flags % 2 == 1 && not ((flags / 8) % 16 == opcode_UPDATE);
  four_bits = mod-lt (flags / 8) (lit< tt);
}

same_head : (msg : List ℕ) (start : ℕ) → 12 ≤ length msg → number_at msg 0 < 2 ^ 16 → header_of msg ≡ header_of (plain_of msg start)
same_head msg start header small = ap (λ n. head_by n (slice_index msg 2)) (sym (own_id msg start small)) ∙ ap (head_by (number_at (plain_of msg start) 0)) (sym (third msg start header))

-- so memory that is wanted to read the request is wanted to read this
pub plain_wants : (msg : List ℕ) (start : ℕ) (head : Head) → number_at msg 0 < 2 ^ 16 → IsWant msg (NoMemory head) → IsWant (plain_of msg start) (NoMemory head)
plain_wants msg start head small want = record {
  whole = plain_size msg start want.whole;
  asks = ap (λ n. nat_le 128 n) (third msg start want.whole) ∙ want.asks;
  update = ap (λ n. (n / 8) % 16) (third msg start want.whole) ∙ want.update;
  is = want.is ∙ ap NoMemory (same_head msg start want.whole small);
}
