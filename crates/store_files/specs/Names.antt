-- The names of a store's files (own).
use Rattle.std.specs.Prelude.{◌≡◌, ◌≢◌, ◌+◌, ◌^◌, ◌<◌, ◌⊎◌, ⊤, ℕ, List, Option, None, Some, ◌++◌, codes}
use Rattle.std.specs.Fmt.{decimal}
use Rattle.std.specs.Str.Parse.{IsNumeral, digits_value}
use Rattle.journal.specs.declared.heads.Head.{Head}
use Rattle.journal.specs.Head.{head_of, IsHead}

-- the path of a file in a directory
abbrev pub path_of : List ℕ → List ℕ → List ℕ
path_of dir name = dir ++ (codes "/" ++ name)

-- the name of the zone text of a number
abbrev pub text_name : ℕ → List ℕ
text_name number = codes "zone-" ++ decimal number

-- the name of the file of a number with a journal's torn end
abbrev pub torn_name : ℕ → List ℕ
torn_name number = codes "torn-" ++ decimal number

-- a name is that of the zone text of a number, whose digits may begin with zeros
abbrev pub IsTextName : List ℕ → ℕ → Type 0
IsTextName name number = (digits : List ℕ) × (name ≡ codes "zone-" ++ digits) × IsNumeral 10 digits × (digits_value 10 digits ≡ number) × (number < 2 ^ 64)

-- a file of this name hasn't been renamed yet: a journal, or a torn end
abbrev pub IsLaid : List ℕ → Type 0
IsLaid name = (name ≡ codes "journal.new") ⊎ (name ≡ codes "torn.new")

-- a file of this name is removed where a store's text has this number: one that isn't renamed, or the text of a number that is neither this nor the one before it
abbrev pub IsLeftOver : List ℕ → ℕ → Type 0
IsLeftOver name number = IsLaid name ⊎ ((other : ℕ) × IsTextName name other × (other ≢ number) × (other + 1 ≢ number))

-- a journal begins with a head that names the text of this number
abbrev pub Names : List ℕ → ℕ → Type 0
Names octets number = (head : Head) × (rest : List ℕ) × IsHead head × (octets ≡ head_of head ++ rest) × (number ≡ head.number)

-- a number is greater than another, if there is one
abbrev pub IsAbove : Option ℕ → ℕ → Type 0
IsAbove None number = ⊤
IsAbove (Some before) number = before < number

-- the greatest number of a directory's zone texts, given that of some of its names, and one more name: that name's number, where it is a zone text's and is greater; else the
-- one before
abbrev pub IsGreatestOf : Option ℕ → List ℕ → Option ℕ → Type 0
IsGreatestOf before name greatest =
    ((number : ℕ) × IsTextName name number × IsAbove before number × (greatest ≡ Some number))
    ⊎ (((number : ℕ) → IsTextName name number → IsAbove before number → ⊥) × (greatest ≡ before))

-- no store was created in a directory without a journal, whose zone texts have this greatest number: it has no zone text; or its only one is the first, of
-- number 0, and `journal.new` names that, as a crash leaves them while a first store is created: `journal.new` is written before the text, and renamed last. No later journal
-- names 0. Else there was a journal, and it is lost
abbrev pub IsUnbegun : Option ℕ → List ℕ → Type 0
IsUnbegun None laid = ⊤
IsUnbegun (Some greatest) laid = (greatest ≡ 0) × Names laid 0
