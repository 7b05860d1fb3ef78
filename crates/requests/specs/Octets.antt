-- The octets of a stream that reports them (own).
use Rattle.std.specs.Prelude.{◌≡◌, ◌≢◌, ℕ, List, [], ◌∷◌, ◌++◌, take, flat_map, Option, None, Some, IfSome}
use Rattle.dns_message.specs.Frame.{frame_of, frame_in}

-- these octets were read from a stream: those that were left begin with them, and nothing was written
abbrev pub Gives : Option (List ℕ × List ℕ) → Option (List ℕ × List ℕ) → List ℕ → Type 0
Gives old new octets = IfSome old (λ o. (rest : List ℕ) × (o.0 ≡ octets ++ rest) × (new ≡ Some (rest, o.1)))

-- these octets were written to a stream, after those already written, and nothing was read
abbrev pub Takes : Option (List ℕ × List ℕ) → Option (List ℕ × List ℕ) → List ℕ → Type 0
Takes old new octets = IfSome old (λ o. new ≡ Some (o.0, o.1 ++ octets))

-- nothing is left to be read
abbrev pub IsAtEnd : Option (List ℕ × List ℕ) → Type 0
IsAtEnd octets = IfSome octets (λ o. o.0 ≡ [])

-- octets begin a frame and end before it does (RFC 1035, 4.2.2)
abbrev pub IsTorn : List ℕ → Type 0
IsTorn octets = (octets ≢ []) × (frame_in octets ≡ None)

-- the frames of messages, one after another (RFC 1035, 4.2.2)
abbrev pub frames_of : List (List ℕ) → List ℕ
frames_of messages = flat_map frame_of messages

-- the messages in a buffer: the one of so many octets at its start, or none
abbrev pub messages_in : Option ℕ → List ℕ → List (List ℕ)
messages_in None out = []
messages_in (Some len) out = take len out ∷ []
