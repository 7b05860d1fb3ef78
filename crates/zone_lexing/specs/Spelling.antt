-- How the words of an entry are spelt on one line (RFC 1035, 5.1).
use Rattle.std.specs.Prelude.{ℕ, ◌+◌, Bool, false, not, ◌||◌, ◌&&◌, ◌==◌, List, [], ◌∷◌, ◌++◌, length, nat_lt}
use Rattle.std.specs.List.{flat_map, list_all}
use Rattle.zone_lexing.specs.Items.{ends, escapes}
use Rattle.zone_lexing.specs.Word.{Written}
use Rattle.zone_lexing.specs.Word.Written.{Plain, Quoted, Unclosed}
use Rattle.zone_lexing.specs.Entries.{Entry, whole}
use Rattle.zone_lexing.specs.declared.item.Run.{Run}
use Rattle.zone_lexing.specs.declared.item.Run.TheVariants.{OfWord, OfString}

-- whether octets are a run to their end: no LF or CR is among them, nothing ends them, and no backslash at their end takes
-- along what stands after; whether a backslash takes the first of them along
abbrev pub is_run : Run → Bool → List ℕ → Bool
is_run run escaped [] = not escaped
is_run run escaped (c ∷ octets) = not (c == 10 || c == 13) && (not (ends run escaped c) && is_run run (escapes escaped c) octets)

-- whether a word is spelt by its octets: one outside quotes has an octet, and none that ends it
abbrev pub is_spelt : Written → Bool
is_spelt (Plain octets) = nat_lt 0 (length octets) && is_run OfWord false octets
is_spelt (Quoted octets) = is_run OfString false octets
is_spelt Unclosed = false

-- a word with its quotes
abbrev pub spell_word : Written → List ℕ
spell_word (Plain octets) = octets
spell_word (Quoted octets) = 34 ∷ octets ++ 34 ∷ []
spell_word Unclosed = []

-- words with a space before each, and the line's end
abbrev pub spell_more : List Written → List ℕ
spell_more [] = 10 ∷ []
spell_more (word ∷ words) = 32 ∷ spell_word word ++ spell_more words

-- a line: words with a space between, and its end
abbrev pub spell_line : List Written → List ℕ
spell_line [] = 10 ∷ []
spell_line (word ∷ words) = spell_word word ++ spell_more words

-- a text of lines
abbrev pub spell : List (List Written) → List ℕ
spell lines = flat_map spell_line lines

-- the entries of lines that begin with no blank, each an entry; the number of the first line is given
abbrev pub one_a_line : ℕ → List (List Written) → List Entry
one_a_line line [] = []
one_a_line line (words ∷ lines) = whole (record { line = line; indented = false }) words ++ one_a_line (line + 1) lines

-- whether each word of the lines is spelt by its octets
abbrev pub are_spelt : List (List Written) → Bool
are_spelt lines = list_all (λ words. list_all is_spelt words) lines
