-- The head of a journal: which zone text it belongs to (own).
use Rattle.std.specs.Prelude.{◌≡◌, ◌≢◌, ℕ, ◌^◌, ◌<◌, ◌≤◌, List, [], ◌∷◌, ◌++◌, length, take, drop, codes}
use Rattle.std.specs.Int.{w32, w64, to_be_bytes}
use Rattle.sha2.specs.Sha256.{sha256}
use Rattle.journal.specs.declared.heads.Head.{Head}
use Rattle.journal.specs.declared.heads.HeadFault.{HeadFault}
use Rattle.journal.specs.declared.heads.HeadFault.TheVariants.{Short, Foreign, WrongSum}
use Rattle.journal.specs.declared.heads.TextSum.{TextSum}

-- the octets that each journal begins with
abbrev pub name : List ℕ
name = codes "dnsd journal, 2" ++ 10 ∷ []

-- a text: its length in octets, in eight octets, and its SHA-256
abbrev pub sum_octets : TextSum → List ℕ
sum_octets text = to_be_bytes w64 text.len ++ text.sum

-- a head's text: the format's name; the number of its zone text; its random octets; that text; its serial, in four octets; and the text that the store was created from
unfoldable pub head_text : Head → List ℕ
head_text head = name ++ (to_be_bytes w64 head.number ++ (head.random ++ (sum_octets head.text ++ (to_be_bytes w32 head.serial ++ sum_octets head.origin))))

-- the salt of its frames: the text's SHA-256
unfoldable pub salt_of : Head → List ℕ
salt_of head = sha256 (head_text head)

-- a head: its text, and its salt
unfoldable pub head_of : Head → List ℕ
head_of head = head_text head ++ salt_of head

-- the length of a head in octets
abbrev pub head_len : ℕ
head_len = 156

-- its length fits eight octets, and its SHA-256 has 32
abbrev pub IsSum : TextSum → Type 0
IsSum text = (text.len < 2 ^ 64) × (length text.sum ≡ 32)

-- its numbers fit their octets, and it has as many random octets as it should
pub record IsHead (head : Head) : Type 0 where
  pub number : head.number < 2 ^ 64
  pub random : length head.random ≡ 16
  pub text : IsSum head.text
  pub serial : head.serial < 2 ^ 32
  pub origin : IsSum head.origin

-- octets are this text
abbrev pub IsText : TextSum → List ℕ → Type 0
IsText text octets = (text.len ≡ length octets) × (text.sum ≡ sha256 octets)

-- why octets don't begin with a head, the first of these: there are fewer than a head has; they begin with another name; the checksum isn't the text's
abbrev pub IsHeadFault : List ℕ → HeadFault → Type 0
IsHeadFault octets Short = length octets < head_len
IsHeadFault octets Foreign = (head_len ≤ length octets) × (take 16 octets ≢ name)
IsHeadFault octets WrongSum = (head_len ≤ length octets) × (take 16 octets ≡ name) × (take 32 (drop 124 octets) ≢ sha256 (take 124 octets))
