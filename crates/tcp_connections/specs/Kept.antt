-- What a connection keeps, besides what its device has (own).
use Rattle.std.specs.Prelude.{◌≡◌, ℕ, ◌+◌, ◌-◌, ◌%◌, ◌^◌, ◌≤◌, ◌⊎◌, min, length, Bool, true, false, List, [], ◌∷◌, ◌++◌, take, Option, None, Some, option_map}
use Rattle.dns_message.specs.Frame.{frame_in}
use Rattle.requests.specs.Octets.{frames_of}
use Rattle.tcp_connections.specs.declared.waiting.Waiting.{Waiting}
use Rattle.tcp_connections.specs.declared.waiting.Waiting.TheVariants.{Request, Rest, Answer, Taking}
use Rattle.tcp_connections.specs.declared.handler.Reply.{Reply}
use Rattle.tcp_connections.specs.declared.handler.Reply.TheVariants.{Silent, One, Many, Later}

-- octets that were read and aren't answered, octets that are to be written, and messages whose frames are to be written after these;
-- whether messages are being made; how many times the peer has finished something: has sent a whole request that is answered, or taken all
-- that was ready (modulo 2^64); and how many octets it has taken, up to 2^64 - 1
pub record Kept : Type 0 where
  pub held : List ℕ
  pub ready : List ℕ
  pub later : List (List ℕ)
  pub making : Bool
  pub passed : ℕ
  pub taken : ℕ

-- nothing is kept
abbrev pub nothing_kept : Kept
nothing_kept = record { held = []; ready = []; later = []; making = false; passed = 0; taken = 0 }

-- one more has passed
abbrev pub one_passed : ℕ → ℕ
one_passed passed = (passed + 1) % 2 ^ 64

-- how many have passed after a write, by what it leaves ready: one more if that is nothing
abbrev pub passed_behind : List ℕ → ℕ → ℕ
passed_behind [] passed = one_passed passed
passed_behind (octet ∷ octets) passed = passed

-- how many octets are taken after a write of so many, up to 2^64 - 1
abbrev pub taken_behind : ℕ → ℕ → ℕ
taken_behind count taken = min (taken + count) (2 ^ 64 - 1)

-- what a connection waits for that holds something, by the frame at its start, if that is whole
abbrev pub awaited_in : Option (List ℕ × List ℕ) → Waiting
awaited_in None = Rest
awaited_in (Some frame) = Answer

-- what a connection waits for, by whether messages are being made, what is ready to be written, and what is held
abbrev pub awaited_by : Bool → List ℕ → List ℕ → Waiting
awaited_by true ready held = Taking
awaited_by false (octet ∷ ready) held = Taking
awaited_by false [] (octet ∷ held) = awaited_in (frame_in (octet ∷ held))
awaited_by false [] [] = Request

abbrev pub awaited : Kept → Waiting
awaited kept = awaited_by kept.making kept.ready kept.held

-- all octets that are to be written
abbrev pub due : Kept → List ℕ
due kept = kept.ready ++ frames_of kept.later

-- so much is to be written that no further request is answered before that: messages are being made, or 16,384 octets or more are ready (own)
abbrev pub IsFull : Kept → Type 0
IsFull kept = (kept.making ≡ true) ⊎ (16384 ≤ length kept.ready)

-- a connection waits for octets: no whole frame is held, and nothing is to be written
pub record IsWaiting (kept : Kept) : Type 0 where
  pub part : frame_in kept.held ≡ None
  pub ready : kept.ready ≡ []
  pub later : kept.later ≡ []

-- a stream as its connection has it: what is left to be answered, held or not yet read, and what was written together with what is to be
-- written
abbrev pub told_by : Kept → Option (List ℕ × List ℕ) → Option (List ℕ × List ℕ)
told_by kept octets = option_map (λ o. (kept.held ++ o.0, o.1 ++ due kept)) octets

-- the messages of a reply: none, the one of so many octets at the start of a buffer, or those that are left of something that makes them; none of one that
-- is made later
abbrev pub messages_of : {M : Type 0} → (M → List (List ℕ)) → Reply M → List ℕ → List (List ℕ)
messages_of left Silent out = []
messages_of left (One len) out = take len out ∷ []
messages_of left (Many messages) out = left messages
messages_of left Later out = []
