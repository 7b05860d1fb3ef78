-- What requests are told (RFC 2136, 3.8).
use Rattle.std.specs.Prelude.{ℕ, List, slice_index}
use Rattle.journal.specs.Batch.{Messages}

-- a reply: the messages of its request, and its code
pub record Reply : Type 0 where
  pub request : Messages
  pub code : ℕ

-- the reply of a code's number, and of the messages of its request
abbrev pub reply_of : List ℕ → Messages → Reply
reply_of numbers messages = record { request = messages; code = slice_index numbers 0 }
