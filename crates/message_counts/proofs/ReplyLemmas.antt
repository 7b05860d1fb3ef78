-- Each reply is counted by one RCODE, once.
use Rattle.std.proofs.Common.{◌≡◌, ◌==◌, ◌+◌, ◌++◌, refl, ap, ◌∙◌, ℕ, arith, Bool, true, false, List, [], ◌∷◌, length, Option, Some, None, if◌then◌else◌}
use Rattle.counters.specs.declared.counter.Counter.{Counter}
use Rattle.counters.specs.declared.counter.Counter.TheVariants.{Truncated, Update}
use Rattle.counters.specs.declared.transport.Transport.{Transport}
use Rattle.counters.specs.declared.address_family.AddressFamily.{AddressFamily}
use Rattle.counters.specs.declared.transfer.Transfer.{Transfer as TransferKind}
use Rattle.counters.specs.declared.rcode.Rcode.{Rcode}
use Rattle.counters.specs.Rcodes.{rcode_of as rcode_named}
use Rattle.message_counts.specs.Counts.{one, question_counts, queried_type, got_counts, transfer_counts, request_counts, reply_counts, truncated_counts, update_counts}
use Rattle.message_counts.specs.Places.{is_truncated, opcode_of, rcode_of}
use Rattle.message_counts.specs.Replies.{replies_by, replies_in, all_reply_counts, RepliesCountOnce}
use Rattle.message_counts.specs.Transfers.{transfer_of}

-- of counts after others
replies_after : (a b : List (Counter × ℕ)) → replies_in (a ++ b) ≡ replies_in a + replies_in b
replies_after [] b = omega arith
replies_after (count ∷ a) b =
    let rest = replies_after a b in
    let here = replies_by count.0 count.1 in
    let sums : here + replies_in (a ++ b) ≡ here + replies_in a + replies_in b = omega arith in sums

-- whether it is truncated, and what it is of an update
flags_none : (is_cut is_update : Bool) (rcode : Rcode) → replies_in ((if is_cut then one Truncated ∷ [] else []) ++ (if is_update then one (Update rcode) ∷ [] else [])) ≡ 0
flags_none true true rcode = refl
flags_none true false rcode = refl
flags_none false true rcode = refl
flags_none false false rcode = refl

one_reply : (octets : List ℕ) → replies_in (reply_counts octets) ≡ 1
one_reply octets =
    let none : replies_in (truncated_counts octets ++ update_counts octets) ≡ 0 = flags_none (is_truncated octets) (opcode_of octets == 5) (rcode_named (rcode_of octets)) in
    ap (λ n. 1 + (0 + n)) none

replies_all : (replies : List (List ℕ)) → replies_in (all_reply_counts replies) ≡ length replies
replies_all [] = refl
replies_all (reply ∷ replies) =
    let together = replies_after (reply_counts reply) (all_reply_counts replies) in
    let first = one_reply reply in
    let rest = replies_all replies in
    let all : replies_in (reply_counts reply ++ all_reply_counts replies) ≡ length replies + 1 = omega arith in
    all ∙ omega arith

no_question : (qtype : Option ℕ) → replies_in (question_counts qtype) ≡ 0
no_question None = refl
no_question (Some number) = refl

no_request : (transport : Transport) (family : AddressFamily) (request : List ℕ) → replies_in (request_counts transport family request) ≡ 0
no_request transport family request = ap (λ n. 0 + (0 + (0 + n))) (no_question (queried_type request))

no_got : (got : Option TransferKind) → replies_in (got_counts got) ≡ 0
no_got None = refl
no_got (Some transfer) = refl

no_transfer : (asked : Option ℕ) (reply : List ℕ) → replies_in (transfer_counts asked reply) ≡ 0
no_transfer None reply = refl
no_transfer (Some qtype) reply = no_got (transfer_of qtype reply)

pub replies_count_once : RepliesCountOnce
replies_count_once = (λ replies. replies_all replies, λ transport family request. no_request transport family request, λ asked reply. no_transfer asked reply)
