-- The paths of the files that a text includes, whatever else stands in it.
use Rattle.std.specs.Prelude.{ℕ, Bool, List, [], ◌∷◌, ◌++◌, codes, if◌then◌else◌, Option, None, Ok, Err}
use Rattle.std.specs.Option.{option_and_then, option_to_list}
use Rattle.master_file.specs.Records.{directive_of, words_of}
use Rattle.record_text.specs.Mnemonics.{is_word}
use Rattle.wide_file.specs.Paths.{resolved}
use Rattle.wide_file.specs.WideRecords.{path_of}
use Rattle.zone_lexing.specs.Entries.{Entry}
use Rattle.zone_lexing.specs.Word.{Written}

-- the path of the file that arguments name in a file
abbrev pub path_in : List ℕ → List Written → Option (List ℕ)
path_in file [] = None
path_in file (word ∷ words) = elim (path_of word) [ Ok path ↦ resolved file path | Err cause ↦ None ]

-- the path of the file that an entry of a file includes
abbrev pub path_named : List ℕ → Bool → List Written → Option (List ℕ)
path_named file indented words =
    option_and_then (λ directive. if is_word directive.0 (codes "$INCLUDE") then path_in file directive.1 else None) (directive_of indented words)

-- and those of all entries, in order
abbrev pub paths_in : List ℕ → List Entry → List (List ℕ)
paths_in file [] = []
paths_in file (entry ∷ entries) = option_to_list (path_named file entry.indented (words_of entry)) ++ paths_in file entries
