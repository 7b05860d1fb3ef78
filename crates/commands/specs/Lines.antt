-- Lines of octets, read and written (own).
use Rattle.std.specs.Prelude.{◌≡◌, ℕ, ◌==◌, List, [], ◌∷◌, ◌++◌, Option, Result, MatchResult, if◌then◌else◌, codes}
use Rattle.std.specs.Io.KnownBytes.{Appends}
use Rattle.hex.specs.Hex.{encode_lower}

-- the maximum length of a request, in octets (RFC 1035, 4.2.2)
abbrev pub MOST_OCTETS : ℕ
MOST_OCTETS = 65535

-- messages in lower-case hexadecimal, each preceded by a space
abbrev pub spaced_behind : List (List ℕ) → List ℕ
spaced_behind [] = []
spaced_behind (message ∷ messages) = (codes " " ++ encode_lower message) ++ spaced_behind messages

-- messages in lower-case hexadecimal, separated by spaces
abbrev pub spaced : List (List ℕ) → List ℕ
spaced [] = []
spaced (message ∷ messages) = encode_lower message ++ spaced_behind messages

-- adds an octet to the start of the first line
abbrev pub onto_first : ℕ → List (List ℕ) → List (List ℕ)
onto_first octet [] = (octet ∷ []) ∷ []
onto_first octet (line ∷ lines) = (octet ∷ line) ∷ lines

-- the lines of an input: each ends with an LF, which the last one may lack (own)
abbrev pub input_lines : List ℕ → List (List ℕ)
input_lines [] = []
input_lines (octet ∷ input) = if octet == 10 then [] ∷ input_lines input else onto_first octet (input_lines input)

-- what was written is a prefix of these octets
pub record Begins (before after : Option (List ℕ)) (octets : List ℕ) : Type 0 where
  pub done : List ℕ
  pub rest : List ℕ
  pub grown : Appends before after done
  pub whole : done ++ rest ≡ octets

-- these octets were written, or on an error a prefix of them
abbrev pub Writes : {T E : Type 0} → Result T E → Option (List ℕ) → Option (List ℕ) → List ℕ → Type 0
Writes result before after octets = MatchResult result (λ _. Appends before after octets) (λ _. Begins before after octets)
