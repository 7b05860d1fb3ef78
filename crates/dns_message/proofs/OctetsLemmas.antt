-- How long the octets of a reply are, and what they are.
use Rattle.std.proofs.Common.{◌≡◌, ℕ, ◌+◌, ◌<◌, ◌≤◌, Bool, true, false, not, ◌&&◌, if◌then◌else◌, min, refl, nat_le, List, [], ◌∷◌, ◌++◌, length, take, drop, Option, None, Some, sym, ap, subst, ◌∙◌, arith, length-append, append_assoc}
use Rattle.std.proofs.lemmas.Bool.{le-leb, lt-leb}
use Rattle.std.proofs.lemmas.List.{length-take-le, take-append-le, drop-append-le, take-append-drop}
use Rattle.std.specs.Int.{to_be_bytes, w16}
use Rattle.dns_rdata.specs.Record.{Record}
use Rattle.dns_rdata.specs.declared.numbers.Rcode.{Rcode}
use Rattle.wire_names.specs.Table.{Table}
use Rattle.wire_names.specs.Entry.{Entry}
use Rattle.wire_names.specs.Written.{IsOverwritten}
use Rattle.wire_names.proofs.OverwrittenLemmas.{length_stays, octets_are, IsOverwritten-then}
use Rattle.dns_message.specs.Message.{Message}
use Rattle.dns_message.specs.Encoding.{Encoding, these, before, measured, each}
use Rattle.dns_message.specs.Encoded.{IsStopped, WritesParts, WritesEncoding}
use Rattle.dns_message.specs.Opt.{opt_part, opt_count}
use Rattle.dns_message.specs.declared.edns.Opt.{Opt}
use Rattle.dns_message.specs.Octets.{questions, question_octets, record_octets, sections_octets, counts_in, header_octets, reply_octets, truncated, fits, without_additional, fit}
use Rattle.dns_message.proofs.EncodedLemmas.{WritesParts-then, WritesParts-encoding}

-- the octets of one thing and of another behind it
pub length-before : (p q : Encoding) (table : Table) (at : ℕ) → length (before p q table at).0 ≡ length (p table at).0 + length (q (p table at).1 (at + length (p table at).0)).0
unfolding before
length-before p q table at = length-append (p table at).0 (q (p table at).1 (at + length (p table at).0)).0

length-measured : (p : Encoding) (table : Table) (at : ℕ) → 0 < length (measured p table at).0
unfolding measured
length-measured p table at = let both = length-append (to_be_bytes w16 (length (p table (at + 2)).0)) (p table (at + 2)).0 in omega arith

-- a record has an octet or more
pub record_some : (r : Record) (table : Table) (at : ℕ) → 0 < length (record_octets r table at).0
unfolding record_octets
record_some r table at = omega (arith, length-before, length-measured)

-- there are no more records than octets of records
pub records_fill : (rs : List Record) (table : Table) (at : ℕ) → length rs ≤ length (each record_octets rs table at).0
unfolding each
records_fill [] table at = omega arith
records_fill (r ∷ rs) table at =
    let both = length-before (record_octets r) (each record_octets rs) table at in
    let some = record_some r table at in
    let rest = records_fill rs (record_octets r table at).1 (at + length (record_octets r table at).0) in
    omega arith

-- an OPT has an octet or more
opt_fills : (code : Rcode) (o : Option Opt) → opt_count o ≤ length (opt_part code o)
opt_fills code None = omega arith
opt_fills code (Some opt) = omega arith

-- no section has more records than the reply has octets
pub record IsFilled (m : Message) : Type 0 where
  pub answer : length m.answer ≤ length (reply_octets m)
  pub authority : length m.authority ≤ length (reply_octets m)
  pub additional : length m.additional + opt_count m.opt ≤ length (reply_octets m)

pub sections_fill : (m : Message) → IsFilled m
unfolding sections_octets these
sections_fill m =
    let asked = each question_octets (questions m.question) [] 12 in
    let place = 12 + length asked.0 in
    let answer = each record_octets m.answer asked.1 place in
    let place_2 = place + length answer.0 in
    let authority = each record_octets m.authority answer.1 place_2 in
    let place_3 = place_2 + length authority.0 in
    let additional = each record_octets m.additional authority.1 place_3 in
    let whole = length-append (header_octets m (counts_in m)) (sections_octets m [] 12).0 in
    let opt = these (opt_part m.rcode m.opt) in
    let one = length-before (each question_octets (questions m.question)) (before (each record_octets m.answer) (before (each record_octets m.authority) (before (each record_octets m.additional) opt))) [] 12 in
    let two = length-before (each record_octets m.answer) (before (each record_octets m.authority) (before (each record_octets m.additional) opt)) asked.1 place in
    let three = length-before (each record_octets m.authority) (before (each record_octets m.additional) opt) answer.1 place_2 in
    let four = length-before (each record_octets m.additional) opt authority.1 place_3 in
    let fill = records_fill m.answer asked.1 place in
    let fill_2 = records_fill m.authority answer.1 place_2 in
    let fill_3 = records_fill m.additional authority.1 place_3 in
    let last = opt_fills m.rcode m.opt in
    record { answer = omega arith; authority = omega arith; additional = omega arith }

-- the octets of the truncated reply are the header, the question and the OPT
pub truncated_octets : (m : Message) → reply_octets (truncated m) ≡ header_octets (truncated m) (counts_in (truncated m)) ++ ((each question_octets (questions m.question) [] 12).0 ++ opt_part m.rcode m.opt)
unfolding sections_octets before each these
truncated_octets m = refl

-- and they are written so
pub truncated_put : (m : Message) (a b c d : List ℕ) (after : List Entry) (at next end : ℕ) → IsOverwritten a b 0 (header_octets (truncated m) (counts_in (truncated m))) at → WritesEncoding (each question_octets (questions m.question)) b c at [] after (Some next) → IsOverwritten c d next (opt_part m.rcode m.opt) end → IsOverwritten a d 0 (reply_octets (truncated m)) end
truncated_put m a b c d after at next end front middle back =
    let asked = each question_octets (questions m.question) in
    let next_is = front.next_is in
    let place : at ≡ 12 = omega arith in
    let there = subst (λ (n : ℕ). IsOverwritten b c at (asked [] n).0 next) place middle.octets in
    let both = IsOverwritten-then b c d at next end _ _ there back in
    subst (λ (octets : List ℕ). IsOverwritten a d 0 octets end) (sym (truncated_octets m)) (IsOverwritten-then a b d 0 at end _ _ front both)

-- a whole reply is written as its header, and its sections behind it, where no name stands in front of them
pub message_put : (m : Message) (a b c : List ℕ) (at : ℕ) (names after : List Entry) (r : Option ℕ) → names ≡ [] → IsOverwritten a b 0 (header_octets m (counts_in m)) at → WritesEncoding (sections_octets m) b c at names after r → WritesParts a c 0 (reply_octets m) r
message_put m a b c at names after r none front back =
    let next_is = front.next_is in
    let place : at ≡ 12 = omega arith in
    let own = subst (λ (s : List Entry). WritesEncoding (sections_octets m) b c at s after r) none back in
    let there = subst (λ (n : ℕ). WritesParts b c at (sections_octets m [] n).0 r) place (WritesParts-encoding (sections_octets m) b c at [] after r own) in
    WritesParts-then a b c 0 at (header_octets m (counts_in m)) (sections_octets m [] 12).0 r front there

-- octets that were written to the front of a part of a buffer stand at its front
pub sent : (old new x rest : List ℕ) (len : ℕ) → IsOverwritten old new 0 x len → take len (new ++ rest) ≡ x
sent old new x rest len put =
    let same = length_stays old new 0 x len put in
    let least = put.within in
    take-append-le len new rest (omega arith) ∙ octets_are old new 0 x len put

-- and what is behind them stays
pub sent_whole : (out new x : List ℕ) (k len : ℕ) → k ≤ length out → IsOverwritten (take k out) new 0 x len → IsOverwritten out (new ++ drop k out) 0 x len
sent_whole out new x k len within put =
    let least = put.within in
    let size = length-take-le k out within in
    let rest : drop len (take k out) ++ drop k out ≡ drop len out =
    sym (drop-append-le len (take k out) (drop k out) least) ∙ ap (drop len) (take-append-drop k out) in
    record {
      next_is = put.next_is;
      within = omega arith;
      new_is = ap (λ (t : List ℕ). t ++ drop k out) put.new_is ∙ append_assoc x (drop len (take k out)) (drop k out) ∙ ap (λ (t : List ℕ). x ++ t) rest;
    }

fits_front : (old new x : List ℕ) (len : ℕ) → IsOverwritten old new 0 x len → length x ≤ length old
fits_front old new x len put = let next = put.next_is in let within = put.within in omega arith

and_false : (b : Bool) → (b && false) ≡ false
and_false true = refl
and_false false = refl

-- octets that went into so much room fit, and octets that didn't don't
fits_room : (limit k len : ℕ) (x old new : List ℕ) → k ≡ min limit 65535 → length old ≡ k → IsOverwritten old new 0 x len → nat_le (length x) (min limit 65535) ≡ true
fits_room limit k len x old new at size put = le-leb _ _ (subst (λ (n : ℕ). length x ≤ n) (size ∙ at) (fits_front old new x len put))

over_room : (limit k size : ℕ) (old new : List ℕ) → k ≡ min limit 65535 → length old ≡ k → IsStopped old new 0 size → nat_le size (min limit 65535) ≡ false
over_room limit k size old new at is stopped =
    let short = stopped.short in
    let over : length old < size = omega arith in
    lt-leb _ _ (subst (λ (n : ℕ). n < size) (is ∙ at) over)

-- a reply that was written fits
pub fit_whole : (m : Message) (limit k len : ℕ) (old new : List ℕ) → k ≡ min limit 65535 → length old ≡ k → IsOverwritten old new 0 (reply_octets m) len → fit m limit ≡ reply_octets m
fit_whole m limit k len old new at size put = let test = fits_room limit k len (reply_octets m) old new at size put in rw test

-- the second of three
second : (whole below shorter : Bool) (x y z : List ℕ) → whole ≡ false → below ≡ false → shorter ≡ true → (if whole then x else if not below && shorter then y else z) ≡ y
second whole below shorter x y z a b c = rw (a, b, c)

-- one that didn't go in doesn't, and is sent without its additional section where that went in
pub fit_shorter : (m : Message) (limit k len : ℕ) (old new last : List ℕ) → k ≡ min limit 65535 → length old ≡ k → length new ≡ k → m.below_cut ≡ false → IsStopped old new 0 (length (reply_octets m)) → IsOverwritten new last 0 (reply_octets (without_additional m)) len → fit m limit ≡ reply_octets (without_additional m)
fit_shorter m limit k len old new last at size size_new apart stopped put =
    let test = over_room limit k (length (reply_octets m)) old new at size stopped in
    let shorter = fits_room limit k len (reply_octets (without_additional m)) new last at size_new put in
    second (fits m limit) m.below_cut (fits (without_additional m) limit) (reply_octets m) (reply_octets (without_additional m)) (reply_octets (truncated m)) test apart shorter

-- why a reply isn't sent without its additional section
pub no_shorter : (m : Message) (limit k : ℕ) (old new : List ℕ) → k ≡ min limit 65535 → length old ≡ k → IsStopped old new 0 (length (reply_octets (without_additional m))) → (not m.below_cut && fits (without_additional m) limit) ≡ false
no_shorter m limit k old new at size stopped =
    let test = over_room limit k (length (reply_octets (without_additional m))) old new at size stopped in
    ap (λ (b : Bool). not m.below_cut && b) test ∙ and_false (not m.below_cut)

-- and else it is truncated
pub fit_cut : (m : Message) (limit k : ℕ) (old new : List ℕ) → k ≡ min limit 65535 → length old ≡ k → IsStopped old new 0 (length (reply_octets m)) → (not m.below_cut && fits (without_additional m) limit) ≡ false → fit m limit ≡ reply_octets (truncated m)
fit_cut m limit k old new at size stopped shorter =
    let test = over_room limit k (length (reply_octets m)) old new at size stopped in
    rw (test, shorter)
