-- What deploying a zone sends to a server, and what it takes from it (RFC 5936, 2; RFC 2136, 2 and 3.8).
use Rattle.std.specs.Prelude.{◌≡◌, ℕ, Bool, false, true, ◌&&◌, ◌||◌, not, ◌==◌, ◌-◌, List, [], ◌∷◌, ◌++◌, length, nat_lt, flat_map, slice_get, Option, Some, None, Result, Ok, if◌then◌else◌}
use Rattle.std.specs.List.{AllByRecursion}
use Rattle.std.specs.Io.KnownBytes.{Appends, Consumes}
use Rattle.dns_name.specs.Name.{Name, wire_of}
use Rattle.dns_rdata.specs.Numbers.{type_SOA}
use Rattle.dns_rdata.specs.Raw.{RawRecord}
use Rattle.dns_rdata.specs.Record.{Record}
use Rattle.dns_message.specs.Frame.{frame_of}
use Rattle.tsig.specs.Keys.{SharedKey}
use Rattle.transfer_core.specs.Take.{take}
use Rattle.transfer_in.specs.Taking.{records_of_message, records_of_messages}
use Rattle.zone_tree.specs.Zone.{apex_of}
use Rattle.zone_deploy.specs.Replies.{code_of}
use Rattle.zone_deploy.specs.Signatures.{Chain, sent_octets, first_chain, AreSigned}

-- the query for a whole zone: a header with an ID of 0 and one question, and the question: the zone's name, type AXFR, class IN (RFC 5936, 2.1)
abbrev pub transfer_query : Name → List ℕ
transfer_query apex = 0 ∷ 0 ∷ 0 ∷ 0 ∷ 0 ∷ 1 ∷ 0 ∷ 0 ∷ 0 ∷ 0 ∷ 0 ∷ 0 ∷ [] ++ (wire_of apex ++ 0 ∷ 252 ∷ 0 ∷ 1 ∷ [])

-- whether there is a record, and it is an SOA
abbrev pub is_soa_in : Option RawRecord → Bool
is_soa_in None = false
is_soa_in (Some r) = r.rtype == type_SOA

-- whether the last of some records is an SOA
abbrev pub is_soa_last : List RawRecord → Bool
is_soa_last records = is_soa_in (slice_get records (length records - 1))

-- whether a transfer is over with these records, by whether others came before them: the last one is an SOA, and not the transfer's first record
-- (RFC 5936, 2.2)
abbrev pub ends_with : Bool → List RawRecord → Bool
ends_with has_begun records = is_soa_last records && (has_begun || nat_lt 1 (length records))

-- whether there is a record
abbrev pub has_records : List RawRecord → Bool
has_records [] = false
has_records (r ∷ records) = true

-- whether a transfer is over with the last of these messages, and not before
abbrev pub is_over : Bool → List (List ℕ) → Bool
is_over has_begun [] = false
is_over has_begun (m ∷ []) = ends_with has_begun (records_of_message m)
is_over has_begun (m ∷ n ∷ messages) =
    not (ends_with has_begun (records_of_message m)) && is_over (has_begun || has_records (records_of_message m)) (n ∷ messages)

-- the messages of a transfer, read one after another: each is a reply of NOERROR to the query, it is over with the last, and they are signed behind the query's
-- MAC where there is a key, the last of them too
pub record IsTransfer (key : Option SharedKey) (now : ℕ) (query : List ℕ) (before after : Option (List ℕ)) (messages : List (List ℕ)) : Type 0 where
  pub read : Consumes before after (flat_map frame_of messages)
  pub replies : AllByRecursion (λ m. code_of query m ≡ Some 0) messages
  pub over : is_over false messages ≡ true
  pub last : Chain
  pub signed : AreSigned key (first_chain key now query) messages last
  pub closed : last.unsigned ≡ 0

-- a query for the whole zone was written, and a transfer was read, which makes this zone of another
pub record IsServed (key : Option SharedKey) (other : List Record) (written_before written_after before after : Option (List ℕ)) (zone : List Record) : Type 0 where
  pub now : ℕ
  pub messages : List (List ℕ)
  pub sent : Appends written_before written_after (frame_of (sent_octets key now (transfer_query (apex_of other))))
  pub transfer : IsTransfer key now (transfer_query (apex_of other)) before after messages
  pub taken : take other (records_of_messages messages) ≡ Ok zone

-- an update was written, and the reply to it was read, which has this code, and is signed behind the update's MAC where there is a key
pub record IsAnswered (key : Option SharedKey) (update : List ℕ) (written_before written_after before after : Option (List ℕ)) (code : ℕ) : Type 0 where
  pub now : ℕ
  pub reply : List ℕ
  pub sent : Appends written_before written_after (frame_of (sent_octets key now update))
  pub read : Consumes before after (frame_of reply)
  pub code_is : code_of update reply ≡ Some code
  pub last : Chain
  pub signed : AreSigned key (first_chain key now update) (reply ∷ []) last
