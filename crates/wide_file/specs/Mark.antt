-- A byte order mark before a text.
use Rattle.std.specs.Prelude.{ℕ, List, ◌∷◌, ◌&&◌, ◌==◌, if◌then◌else◌}

-- a text without the byte order mark that it may begin with, which is U+FEFF in UTF-8 (RFC 3629, 6)
abbrev pub after_mark : List ℕ → List ℕ
after_mark (a ∷ b ∷ c ∷ text) = if a == 239 && b == 187 && c == 191 then text else a ∷ b ∷ c ∷ text
after_mark text = text
