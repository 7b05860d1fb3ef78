-- The lines that are told of entries.
use Rattle.std.specs.Prelude.{ℕ, ◌+◌, nat_lt, if◌then◌else◌, option_map}
use Rattle.zone_lexing.specs.Entries.{Entry}

-- an entry with each of its lines changed so
abbrev pub on_lines : (ℕ → ℕ) → Entry → Entry
on_lines change entry = record entry { line = change entry.line; unclosed = option_map change entry.unclosed }

-- a line where one more line stands after the first n of the text
abbrev pub lowered : ℕ → ℕ → ℕ
lowered n line = if nat_lt n line then line + 1 else line

-- an entry without its lines
abbrev pub without_lines : Entry → Entry
without_lines entry = on_lines (λ line. 0) entry
