-- Where in a text an octet stands: between parentheses, between quotes, in a comment (RFC 1035, 5.1). It is told octet by
-- octet, without the items of the text.
use Rattle.std.specs.Prelude.{ℕ, Bool, true, false, not, ◌&&◌, ◌==◌, List, [], ◌∷◌, if◌then◌else◌}
use Rattle.zone_lexing.specs.Order.{lfs}

-- what is open where an octet stands: a parenthesis, a quote, a comment, a backslash that takes the octet along
pub record Place : Type 0 where
  pub inside : Bool
  pub quoted : Bool
  pub remark : Bool
  pub escaped : Bool

-- the place after an octet: an LF ends quotes and comments, and nothing is taken along over it; in a comment all else is
-- comment, and between quotes only a quote and a backslash have a meaning (RFC 1035, 5.1)
abbrev pub place_behind : Place → ℕ → Place
place_behind at c =
    if c == 10 then record at { quoted = false; remark = false; escaped = false }
    else if at.remark then at
    else if at.escaped then record at { escaped = false }
    else if c == 92 then record at { escaped = true }
    else if c == 34 then record at { quoted = not at.quoted }
    else if at.quoted then at
    else if c == 59 then record at { remark = true }
    else if c == 40 then record at { inside = true }
    else if c == 41 then record at { inside = false }
    else at

-- the place after octets that stand at a place
abbrev pub place_from : Place → List ℕ → Place
place_from at [] = at
place_from at (c ∷ text) = place_from (place_behind at c) text

-- the place after a text
abbrev pub place_of : List ℕ → Place
place_of text = place_from (record { inside = false; quoted = false; remark = false; escaped = false }) text

-- whether octets end in this one
abbrev pub ends_in : ℕ → List ℕ → Bool
ends_in octet [] = false
ends_in octet (c ∷ []) = c == octet
ends_in octet (c ∷ d ∷ text) = ends_in octet (d ∷ text)

-- whether a place is outside quotes and comments, and after no backslash that takes the next octet along
abbrev pub is_outside : Place → Bool
is_outside at = not at.quoted && (not at.remark && not at.escaped)

-- whether a text ends where a comment or a blank may stand: outside quotes and comments, after no backslash that takes it
-- along, and after no CR, which an LF would take to a line's end
abbrev pub ends_outside : List ℕ → Bool
ends_outside text = is_outside (place_of text) && not (ends_in 13 text)

-- whether octets may stand after the semicolon of a comment: none is an LF, and the last is no CR
abbrev pub is_remark : List ℕ → Bool
is_remark octets = lfs octets == 0 && not (ends_in 13 octets)
