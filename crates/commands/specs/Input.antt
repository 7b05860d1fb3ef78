-- A zone's text, followed by a command's input (own).
use Rattle.std.specs.Prelude.{ℕ, Bool, ◌==◌, List, [], ◌∷◌, bytes_eq, codes, if◌then◌else◌}
use Rattle.std.specs.List.{concat, before_first, after_first}
use Rattle.std.specs.Io.BufRead.{ends_with_byte, strip_last}
use Rattle.commands.specs.Lines.{onto_first}

-- a line without its end: an LF, or a CR and an LF
abbrev pub without_end : List ℕ → List ℕ
without_end line = if ends_with_byte 10 line then strip_last 13 (strip_last 10 line) else line

-- whether a line, including its end, is the line `%`, which ends a zone's text
unfoldable pub is_separator : List ℕ → Bool
is_separator line = bytes_eq (without_end line) (codes "%")

-- the lines of an input, each with its end, which the last one may lack
abbrev pub whole_lines : List ℕ → List (List ℕ)
whole_lines [] = []
whole_lines (octet ∷ input) = if octet == 10 then (octet ∷ []) ∷ whole_lines input else onto_first octet (whole_lines input)

-- the zone's text at the start of an input: everything before the first line `%`, or all of it if there is none
unfoldable pub zone_text_of : List ℕ → List ℕ
zone_text_of input = concat (before_first is_separator (whole_lines input))

-- the command's input: everything after that line, or nothing if there is none
unfoldable pub behind_zone_text : List ℕ → List ℕ
behind_zone_text input = concat (after_first is_separator (whole_lines input))
