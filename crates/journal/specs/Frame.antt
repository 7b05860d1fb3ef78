-- Frames, which follow a journal's head: each a mark, the length of its body, its number, the body, and a checksum (own).
use Rattle.std.specs.Prelude.{◌≡◌, ℕ, ◌+◌, ◌^◌, ◌<◌, List, [], ◌∷◌, ◌++◌, length, take}
use Rattle.std.specs.Int.{w32, w64, to_be_bytes}
use Rattle.sha2.specs.Sha256.{sha256}

-- the octets that a frame's checksum is of: the length of its body, in four octets, its number, in eight, and its body
unfoldable pub text_of : ℕ → List ℕ → List ℕ
text_of number body = to_be_bytes w32 (length body) ++ (to_be_bytes w64 number ++ body)

-- the mark that each frame of a journal begins with: the first eight octets of the journal's salt
unfoldable pub mark_of : List ℕ → List ℕ
mark_of salt = take 8 salt

-- a frame after its mark: its text, and the SHA-256 of the journal's salt and that text
unfoldable pub summed : List ℕ → ℕ → List ℕ → List ℕ
summed salt number body = text_of number body ++ sha256 (salt ++ text_of number body)

-- a frame: the journal's mark, and the rest of the frame
unfoldable pub framed : List ℕ → ℕ → List ℕ → List ℕ
framed salt number body = mark_of salt ++ summed salt number body

-- the frames of these bodies, numbered from a number on
abbrev pub frames_of : List ℕ → ℕ → List (List ℕ) → List ℕ
frames_of salt number [] = []
frames_of salt number (body ∷ bodies) = framed salt number body ++ frames_of salt (number + 1) bodies

-- a body has fewer octets than this: 64 updates of one message each have at most 4,194,368 of them in a batch
abbrev pub body_limit : ℕ
body_limit = 2 ^ 24

-- bodies that are within the limit, and whose numbers, from a number on, fit eight octets
abbrev pub Fit : ℕ → List (List ℕ) → Type 0
Fit number [] = Unit {0}
Fit number (body ∷ bodies) = (length body < body_limit) × (number < 2 ^ 64) × Fit (number + 1) bodies

-- octets begin with the frame of this number and this body, and these octets follow it
pub record IsFrame (salt : List ℕ) (number : ℕ) (octets body rest : List ℕ) : Type 0 where
  pub short : length body < body_limit
  pub counted : number < 2 ^ 64
  pub spelt : octets ≡ framed salt number body ++ rest

-- octets don't begin with a frame of this number
abbrev pub NoFrame : List ℕ → ℕ → List ℕ → Type 0
NoFrame salt number octets = (body rest : List ℕ) → IsFrame salt number octets body rest → ⊥

-- octets are the frames of these bodies, numbered from a number on, and the octets after them don't begin with a frame of the next number
pub record IsRead (salt : List ℕ) (number : ℕ) (octets : List ℕ) (bodies : List (List ℕ)) (rest : List ℕ) : Type 0 where
  pub spelt : octets ≡ frames_of salt number bodies ++ rest
  pub fit : Fit number bodies
  pub no_more : NoFrame salt (number + length bodies) rest
