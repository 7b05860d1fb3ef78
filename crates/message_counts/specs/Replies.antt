-- How often replies are counted by their RCODE.
use Rattle.std.specs.Prelude.{◌≡◌, ◌+◌, ◌++◌, ℕ, List, [], ◌∷◌, length, Option}
use Rattle.counters.specs.declared.counter.Counter.{Counter}
use Rattle.counters.specs.declared.counter.Counter.TheVariants.{Reply}
use Rattle.counters.specs.declared.transport.Transport.{Transport}
use Rattle.counters.specs.declared.address_family.AddressFamily.{AddressFamily}
use Rattle.message_counts.specs.Counts.{request_counts, reply_counts, transfer_counts}

-- so many more of a counter of replies by an RCODE; none of any other
abbrev pub replies_by : Counter → ℕ → ℕ
replies_by (Reply rcode) more = more
replies_by _ more = 0

-- by how much the counters of replies go up, those of all RCODEs together
abbrev pub replies_in : List (Counter × ℕ) → ℕ
replies_in [] = 0
replies_in (count ∷ counts) = replies_by count.0 count.1 + replies_in counts

-- what several replies are counted as, one after another
abbrev pub all_reply_counts : List (List ℕ) → List (Counter × ℕ)
all_reply_counts [] = []
all_reply_counts (reply ∷ replies) = reply_counts reply ++ all_reply_counts replies

-- replies of all RCODEs together are as many as are counted; what a request asks, and what it got of a transfer, is no reply
abbrev pub RepliesCountOnce : Type 0
RepliesCountOnce =
    ((replies : List (List ℕ)) → replies_in (all_reply_counts replies) ≡ length replies)
    × ((transport : Transport) (family : AddressFamily) (request : List ℕ) → replies_in (request_counts transport family request) ≡ 0)
    × ((asked : Option ℕ) (reply : List ℕ) → replies_in (transfer_counts asked reply) ≡ 0)
