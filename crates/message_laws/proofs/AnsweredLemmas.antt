-- The records of a written reply's answer section are received as they were written.
use Rattle.std.proofs.Common.{◌≡◌, ◌==◌, ◌||◌, not, nat_lt, nat_le, ℕ, ◌+◌, ◌*◌, ◌%◌, Bool, true, false, if◌then◌else◌, List, [], ◌∷◌, length, drop, map, Option, Some, None, refl, ap, ◌∙◌, arith, option_map, unwrap_or, length-append}
use Rattle.std.proofs.lemmas.Bool.Decides.{nat_tests}
use Rattle.dns_rdata.specs.Numbers.{header_bits}
use Rattle.dns_rdata.specs.Raw.{RawRecord}
use Rattle.dns_rdata.specs.Record.{Record}
use Rattle.dns_rdata.specs.declared.numbers.Rcode.{Rcode}
use Rattle.dns_rdata.specs.declared.numbers.Rcode.TheVariants.{NoError}
use Rattle.message_laws.specs.Again.{IsReply, Place, behind, entry_at, entries_at, question_end}
use Rattle.dns_message.specs.Expanded.{expanded_data}
use Rattle.dns_message.specs.Message.{Body, Message}
use Rattle.dns_message.specs.Octets.{bit, counts_in, header_octets, record_octets, reply_octets, sections_octets}
use Rattle.dns_message.specs.Reads.{is_reply, body_in}
use Rattle.dns_message.specs.Received.{rcode_of, received, received_records, as_received}
use Rattle.dns_message.specs.Updates.{raw_with}
use Rattle.message_laws.proofs.SectionLemmas.{sections_again, body_again}

-- the first of some
abbrev first_or : Option (List ℕ) → List (Option (List ℕ)) → Option (List ℕ)
first_or o [] = o
first_or o (x ∷ xs) = x

-- records whose data are read are received as they were written
received_again : (msg : List ℕ) (rs : List Record) (place : Place) → map (expanded_data msg) (entries_at rs place) ≡ map (λ r. Some r.rdata) rs → map (received msg) (entries_at rs place) ≡ map as_received rs
unfolding entries_at
received_again msg [] place e = refl
received_again msg (r ∷ rs) place e =
    let next = behind (record_octets r) place in
    let own : expanded_data msg (entry_at r place) ≡ Some r.rdata = ap (first_or None) e in
    ap (λ o. raw_with (entry_at r place) (unwrap_or o []) ∷ map (received msg) (entries_at rs next)) own
    ∙ ap (λ others. as_received r ∷ others) (received_again msg rs next (ap (drop 1) e))

-- a reply's third octet has QR
answers : (opcode : ℕ) (aa tc rd : ℕ) → nat_le 128 (128 + 8 * opcode + 4 * aa + 2 * tc + rd) ≡ true
answers opcode aa tc rd = grind (arith, nat_tests)

-- nor is it shorter than a header
long : (n k : ℕ) → n ≡ 12 + k → nat_lt n 12 ≡ false
long n k e = grind (arith, nat_tests)

-- what is received by a test of the header and by what stands behind it
abbrev by_header : List ℕ → Bool → Option Body → Option (List RawRecord)
by_header msg b o = if b then None else option_map (λ body. map (received msg) body.answer) o

pub answers_received : (m : Message) → IsReply m → m.rcode ≡ NoError → received_records (reply_octets m) ≡ Some (map as_received m.answer)
answers_received m h none =
    let msg = reply_octets m in
    let sections = (sections_octets m [] 12).0 in
    let whole : nat_lt (length msg) 12 ≡ false = long (length msg) (length sections) (length-append (header_octets m (counts_in m)) sections) in
    let reply : is_reply msg ≡ true = answers m.head.opcode (bit m.aa) (bit m.tc) (bit m.head.rd) in
    let code : (rcode_of msg == 0) ≡ true = ap (λ (c : Rcode). header_bits c % 16 == 0) none in
    ap (λ b. by_header msg (b || not (is_reply msg) || not (rcode_of msg == 0)) (body_in msg)) whole
    ∙ ap (λ b. by_header msg (not b || not (rcode_of msg == 0)) (body_in msg)) reply
    ∙ ap (λ b. by_header msg (not b) (body_in msg)) code
    ∙ ap (by_header msg false) (body_again m h)
    ∙ ap (λ (rs : List RawRecord). Some rs) (received_again msg m.answer (question_end m) (sections_again m h).answer_data)
