-- What is written on a stream: the replies to its requests, in their order (RFC 1035, 4.2.2).
use Rattle.std.specs.Prelude.{◌≡◌, ℕ, List, [], ◌∷◌, ◌++◌, Option, Some}
use Rattle.requests.specs.Octets.{frames_of, IsTorn}
use Rattle.requests.specs.Served.{Learned, Grows}
use Rattle.requests.specs.declared.stream_end.StreamEnd.{StreamEnd}
use Rattle.requests.specs.declared.stream_end.StreamEnd.TheVariants.{Clean, Torn, Device, Spent, NoMemory}

-- what is known on a stream, where several requests may wait for their replies: what was known when the first of those that wait was taken
-- up, or what is known where none waits; and what is known (own)
pub record Knowledge (T : Type 0) : Type 0 where
  pub asked : Learned T
  pub latest : Learned T

-- nothing of either is forgotten (own)
pub record Extends {T : Type 0} (later before : Knowledge T) : Type 0 where
  pub asked : Grows later.asked before.asked
  pub latest : Grows later.latest before.latest

-- what a reply is, by what is known before it and when it is made, the request, and the reply's messages; and which requests may wait
module _ {T : Type 0} (IsReply : Learned T → Learned T → List ℕ → List (List ℕ) → Type 0) (is_later : List ℕ → Type 0) where
  -- the reply to a request that may wait is by what was known when the first of those that wait was taken up; that to any request may be by
  -- all that is known before it, and then none waits after it (own)
  pub data IsMade (before later : Knowledge T) (request : List ℕ) (messages : List (List ℕ)) : Type 0 where
    waited : is_later request → IsReply before.asked later.latest request messages → IsMade before later request messages
    prompt : IsReply before.latest later.latest request messages → Grows later.asked later.latest → IsMade before later request messages

-- what a reply is, by what is known before it and when it is made, the request, and the reply's messages
module _ {T : Type 0} (IsReply : Knowledge T → Knowledge T → List ℕ → List (List ℕ) → Type 0) where
  -- requests, the frames of their replies in order, and what is known then: nothing that was known before a reply is forgotten
  pub data Answers (start : Knowledge T) : List (List ℕ) → List ℕ → Knowledge T → Type 0 where
    none : Answers start [] [] start
    next : {requests more : List (List ℕ)} {octets longer : List ℕ} {seen before later : Knowledge T} {request : List ℕ} {messages : List (List ℕ)} → Answers start requests octets seen
        → Extends before seen → Extends later before → IsReply before later request messages → more ≡ requests ++ request ∷ [] → longer ≡ octets ++ frames_of messages → Answers start more longer later

  -- between two states of a stream, all frames that were read have been answered
  pub record Served (start : Knowledge T) (old : List ℕ × List ℕ) (seen : Knowledge T) (new : List ℕ × List ℕ) : Type 0 where
    pub requests : List (List ℕ)
    pub octets : List ℕ
    pub last : Knowledge T
    pub answers : Answers start requests octets last
    pub grown : Extends seen last
    pub input : old.0 ≡ frames_of requests ++ new.0
    pub output : new.1 ≡ old.1 ++ octets

  -- a prefix of what such an answering writes has been written
  pub record PartlyServed (start : Knowledge T) (old : List ℕ × List ℕ) (seen : Knowledge T) (new : Option (List ℕ × List ℕ)) : Type 0 where
    pub left : List ℕ
    pub front : List ℕ
    pub back : List ℕ
    pub whole : List ℕ × List ℕ
    pub served : Served start old seen whole
    pub written : whole.1 ≡ (old.1 ++ front) ++ back
    pub now : new ≡ Some (left, old.1 ++ front)

  -- how a stream ends: with all its frames answered, nothing or a torn frame after them, and nothing left to be read; otherwise with a
  -- prefix of the replies written
  abbrev pub EndsAs : StreamEnd → Knowledge T → List ℕ × List ℕ → Knowledge T → Option (List ℕ × List ℕ) → Type 0
  EndsAs Clean start old seen new = (written : List ℕ) × (new ≡ Some ([], written)) × Served start old seen ([], written)
  EndsAs Torn start old seen new = (torn written : List ℕ) × (new ≡ Some ([], written)) × IsTorn torn × Served start old seen (torn, written)
  EndsAs Device start old seen new = PartlyServed start old seen new
  EndsAs Spent start old seen new = PartlyServed start old seen new
  EndsAs NoMemory start old seen new = PartlyServed start old seen new
