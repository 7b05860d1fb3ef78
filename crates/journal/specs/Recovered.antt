-- What a start reads from a zone text and a journal (own).
use Rattle.std.specs.Prelude.{◌≡◌, ℕ, ◌+◌, Bool, List, ◌++◌, length, take, map, All, slice_get, Some, ⊤, if◌then◌else◌}
use Rattle.std.specs.List.{flat_map}
use Rattle.journal.specs.declared.heads.Head.{Head}
use Rattle.journal.specs.declared.start.Refused.{Refused}
use Rattle.journal.specs.declared.start.Refused.TheVariants.{BadHead, OtherText, Damaged, NoBatch, NoMemory}
use Rattle.journal.specs.declared.tails.Tail.TheVariants.{Blank, Torn, Later}
use Rattle.journal.specs.Frame.{frames_of, IsRead}
use Rattle.journal.specs.Tail.{IsTail}
use Rattle.journal.specs.Batch.{Messages, batch_of, IsRequest, IsBatch}
use Rattle.journal.specs.Head.{head_of, salt_of, IsHead, IsText, IsHeadFault}

-- a journal: its head, and the frames of these batches, the first of them of number 0
abbrev pub journal_of : Head → List (List Messages) → List ℕ
journal_of head batches = head_of head ++ frames_of (salt_of head) 0 (map batch_of batches)

-- all updates of batches, in order
abbrev pub updates_in : List (List Messages) → List Messages
updates_in batches = flat_map (λ updates. updates) batches

-- octets begin with this head, and these octets follow it
pub record BeginsHead (octets : List ℕ) (head : Head) (behind : List ℕ) : Type 0 where
  pub is_head : IsHead head
  pub spelt : octets ≡ head_of head ++ behind

-- octets begin with this head, and what follows it is read as these bodies and a rest
pub record IsOpened (octets : List ℕ) (head : Head) (bodies : List (List ℕ)) (rest : List ℕ) : Type 0 where
  pub behind : List ℕ
  pub begins : BeginsHead octets head behind
  pub read : IsRead (salt_of head) 0 behind bodies rest

-- bodies are these batches
pub record AreBatches (bodies : List (List ℕ)) (batches : List (List Messages)) : Type 0 where
  pub short : All (All IsRequest) batches
  pub spelt : bodies ≡ map batch_of batches

-- what a start gets: the head; the updates, in order; the number of batches; the position after the last of them; and whether what follows is torn
pub record IsRecovered (text octets : List ℕ) (head : Head) (updates : List Messages) (number end : ℕ) (torn : Bool) : Type 0 where
  pub bodies : List (List ℕ)
  pub batches : List (List Messages)
  pub rest : List ℕ
  pub opened : IsOpened octets head bodies rest
  pub same_text : IsText head.text text
  pub are_batches : AreBatches bodies batches
  pub all : updates ≡ updates_in batches
  pub count : number ≡ length batches
  pub place : end + length rest ≡ length octets
  pub tail : IsTail (salt_of head) number rest (if torn then Torn else Blank)

-- the bodies before this number are batches, and the body of this number isn't one
pub record IsNoBatch (bodies : List (List ℕ)) (number : ℕ) : Type 0 where
  pub batches : List (List Messages)
  pub before : AreBatches (take number bodies) batches
  pub body : List ℕ
  pub is_present : slice_get bodies number ≡ Some body
  pub none : (updates : List Messages) → IsBatch body updates → ⊥

-- why bodies are refused as batches
abbrev pub IsRefusedBatch : List (List ℕ) → Refused → Type 0
IsRefusedBatch bodies (NoBatch number) = IsNoBatch bodies number
IsRefusedBatch bodies NoMemory = ⊤
IsRefusedBatch bodies _ = ⊥

-- a journal of this text is damaged: a later frame begins at this octet, the first such one after what is read
pub record IsDamaged (text octets : List ℕ) (at : ℕ) : Type 0 where
  pub head : Head
  pub bodies : List (List ℕ)
  pub rest : List ℕ
  pub place : ℕ
  pub opened : IsOpened octets head bodies rest
  pub same_text : IsText head.text text
  pub later : IsTail (salt_of head) (length bodies) rest (Later place)
  pub is : at + length rest ≡ length octets + place

-- a journal of this text that isn't damaged has a frame of this number, the first one whose body is no batch
pub record HasNoBatch (text octets : List ℕ) (number : ℕ) : Type 0 where
  pub head : Head
  pub bodies : List (List ℕ)
  pub rest : List ℕ
  pub torn : Bool
  pub opened : IsOpened octets head bodies rest
  pub same_text : IsText head.text text
  pub tail : IsTail (salt_of head) (length bodies) rest (if torn then Torn else Blank)
  pub no_batch : IsNoBatch bodies number

-- why a text and a journal are refused, the first of these: the journal doesn't begin with a head; the text is another; it is damaged; a body is no batch
abbrev pub IsRefused : List ℕ → List ℕ → Refused → Type 0
IsRefused text octets (BadHead fault) = IsHeadFault octets fault
IsRefused text octets OtherText = (head : Head) × (behind : List ℕ) × BeginsHead octets head behind × (IsText head.text text → ⊥)
IsRefused text octets (Damaged at) = IsDamaged text octets at
IsRefused text octets (NoBatch number) = HasNoBatch text octets number
IsRefused text octets NoMemory = ⊤
