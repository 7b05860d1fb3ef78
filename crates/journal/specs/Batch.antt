-- Batches: the requests of one frame, each of one message or more (own).
use Rattle.std.specs.Prelude.{◌≡◌, ℕ, ◌^◌, ◌<◌, List, [], ◌∷◌, ◌++◌, length, All, sum_by}
use Rattle.std.specs.Int.{w16, to_be_bytes}
use Rattle.std.specs.List.{flat_map}

-- the octets of a request's messages: one message as a rule, and more where one message can't have all of its records
abbrev pub Messages : Type 0
Messages = List (List ℕ)

-- its first message, and those after it
abbrev pub first_of : Messages → List ℕ
first_of [] = []
first_of (message ∷ messages) = message

abbrev pub more_of : Messages → Messages
more_of [] = []
more_of (message ∷ messages) = messages

-- octets after their number, in two octets, as messages are sent over TCP (RFC 1035, 4.2.2)
unfoldable pub counted : List ℕ → List ℕ
counted octets = to_be_bytes w16 (length octets) ++ octets

-- what stands in a batch of a request's further messages: before each of them no octets, after their number
abbrev pub more_octets : Messages → List ℕ
more_octets [] = []
more_octets (message ∷ messages) = counted [] ++ (counted message ++ more_octets messages)

-- what stands in a batch of a request: its messages, each after its length, and between two of them no octets, after their number
abbrev pub request_octets : Messages → List ℕ
request_octets [] = []
request_octets (message ∷ messages) = counted message ++ more_octets messages

-- a batch: its requests, in the order of their versions
abbrev pub batch_of : List Messages → List ℕ
batch_of requests = flat_map request_octets requests

-- a message that can stand in a batch: it has octets, as many as two octets can count
pub record IsShort (message : List ℕ) : Type 0 where
  pub some : 0 < length message
  pub short : length message < 2 ^ 16

-- a request that can stand in a batch: it has a message, and each is one that can
pub record IsRequest (messages : Messages) : Type 0 where
  pub some : 0 < length messages
  pub short : All IsShort messages

-- how many octets the messages of a request have together
abbrev pub octets_in : Messages → ℕ
octets_in messages = sum_by length messages

-- octets are the batch of these requests
pub record IsBatch (octets : List ℕ) (requests : List Messages) : Type 0 where
  pub short : All IsRequest requests
  pub spelt : octets ≡ batch_of requests

-- octets don't begin with no octets after their number, as what follows a request in a batch
abbrev pub NoJoint : List ℕ → Type 0
NoJoint octets = (rest : List ℕ) → octets ≡ counted [] ++ rest → ⊥
