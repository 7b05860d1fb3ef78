-- Names as text (RFC 1035, 5.1; RFC 4343, 2.1).
use Rattle.std.specs.Prelude.{ℕ, zero, suc, ◌+◌, ◌*◌, ◌-◌, ◌/◌, ◌%◌, Bool, ◌||◌, ◌&&◌, ◌==◌, List, [], ◌∷◌, ◌++◌, length, nat_lt, nat_le, if◌then◌else◌, Option, Some, None, Result, Ok, Err, option_map, option_and_then, flat_map, bytes_eq, codes}
use Rattle.std.specs.List.{list_any}
use Rattle.std.specs.Char.{is_ascii_digit}
use Rattle.dns_name.specs.Name.{Name, wire_of}
use Rattle.dns_name.specs.declared.text.NameFault.{NameFault}
use Rattle.dns_name.specs.declared.text.NameFault.TheVariants.{LabelTooLong, NameTooLong, EmptyLabel, BadEscape}
use Rattle.dns_name.specs.declared.text.Mark.{Mark}
use Rattle.dns_name.specs.declared.text.Mark.TheVariants.{Dot, Octet}

-- the octet that three digits after a backslash stand for; none where one is no digit or the number is over 255
abbrev pub numbered : List ℕ → Option (Mark × ℕ)
numbered (a ∷ b ∷ c ∷ text) =
    if is_ascii_digit a && is_ascii_digit b && is_ascii_digit c && nat_le ((a - 48) * 100 + (b - 48) * 10 + (c - 48)) 255 then
    Some (Octet ((a - 48) * 100 + (b - 48) * 10 + (c - 48)), 4) else None
numbered _ = None

-- what stands after a backslash: three digits for the octet of that number, another character for itself
abbrev pub escaped : List ℕ → Option (Mark × ℕ)
escaped [] = None
escaped (x ∷ text) = if is_ascii_digit x then numbered (x ∷ text) else Some (Octet x, 2)

-- the first mark of a text, a dot between labels or an octet of a label, and how many characters spell it;
-- none where they are a backslash with neither form after it (RFC 1035, 5.1)
abbrev pub mark_at : List ℕ → Option (Mark × ℕ)
mark_at [] = None
mark_at (c ∷ text) = if c == 92 then escaped text else if c == 46 then Some (Dot, 1) else Some (Octet c, 1)

-- the octet that a mark stands for where dots don't part labels
abbrev pub octet_of : Mark → ℕ
octet_of Dot = 46
octet_of (Octet c) = c

-- the octet at the front of a text in which dots don't part labels, and how many characters spell it (RFC 1035, 5.1)
abbrev pub octet_at : List ℕ → Option (ℕ × ℕ)
octet_at text = option_map (λ m. (octet_of m.0, m.1)) (mark_at text)

-- the marks of the text after its first k characters
abbrev pub marks : ℕ → List ℕ → Option (List Mark)
marks k [] = Some []
marks zero (c ∷ text) = option_and_then (λ m. option_map (λ ms. m.0 ∷ ms) (marks (m.1 - 1) text)) (mark_at (c ∷ text))
marks (suc k) (c ∷ text) = marks k text

-- an octet before the first piece
abbrev pub onto_first : ℕ → List (List ℕ) → List (List ℕ)
onto_first c [] = (c ∷ []) ∷ []
onto_first c (piece ∷ pieces) = (c ∷ piece) ∷ pieces

-- the pieces between the dots
abbrev pub pieces_of : List Mark → List (List ℕ)
pieces_of [] = [] ∷ []
pieces_of (Dot ∷ ms) = [] ∷ pieces_of ms
pieces_of (Octet c ∷ ms) = onto_first c (pieces_of ms)

-- the labels of the pieces: where the last piece is empty, the text ended in a dot and stands for itself;
-- else the origin is after it (RFC 1035, 5.1)
abbrev pub completed : Name → List (List ℕ) → List (List ℕ)
completed origin [] = origin
completed origin (piece ∷ []) = if length piece == 0 then [] else piece ∷ origin
completed origin (piece ∷ pieces) = piece ∷ completed origin pieces

-- labels that make a name; else an empty label is told first, then one over 63 octets, then a name over 255
abbrev pub lawful : List (List ℕ) → Result Name NameFault
lawful labels =
    if list_any (λ label. length label == 0) labels then Err EmptyLabel
    else if list_any (λ label. nat_lt 63 (length label)) labels then Err LabelTooLong
    else if nat_lt 255 (length (wire_of labels)) then Err NameTooLong
    else Ok labels

-- the labels of a text that has these marks; no text at all has an empty label, and a dot alone is the root
abbrev pub labels_of : Name → List Mark → List (List ℕ)
labels_of origin [] = [] ∷ []
labels_of origin (Dot ∷ []) = []
labels_of origin ms = completed origin (pieces_of ms)

-- the name that a text stands for under an origin: `@` alone is the origin; a bad escape is told before the other
-- faults (RFC 1035, 5.1)
abbrev pub name_of_text : List ℕ → Name → Result Name NameFault
name_of_text text origin =
    if bytes_eq text (codes "@") then Ok origin
    else elim (marks 0 text) [ None ↦ Err BadEscape | Some ms ↦ lawful (labels_of origin ms) ]

-- the three digits of an octet
abbrev pub digits_of : ℕ → List ℕ
digits_of c = (48 + c / 100) ∷ (48 + c / 10 % 10) ∷ (48 + c % 10) ∷ []

-- whether a character stands in a text only after a backslash: one of . \ " ; ( ) @ $ (RFC 1035, 5.1; own)
abbrev pub is_special : ℕ → Bool
is_special c = c == 46 || c == 92 || c == 34 || c == 59 || c == 40 || c == 41 || c == 64 || c == 36

-- an octet of a label as text: after a backslash where it is special, as three digits where it is no printed
-- character, else as itself (RFC 1035, 5.1)
abbrev pub octet_text : ℕ → List ℕ
octet_text c = if nat_lt c 33 || nat_lt 126 c then 92 ∷ digits_of c else if is_special c then 92 ∷ c ∷ [] else c ∷ []

-- a label as text, with the dot after it
abbrev pub label_text : List ℕ → List ℕ
label_text label = flat_map octet_text label ++ 46 ∷ []

-- a name as text: its labels with a dot after each; the root is a dot (RFC 1035, 5.1)
abbrev pub text_of : Name → List ℕ
text_of [] = 46 ∷ []
text_of (label ∷ name) = flat_map label_text (label ∷ name)
