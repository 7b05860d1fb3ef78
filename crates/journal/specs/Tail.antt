-- The octets after the last whole frame of a journal: what a crash leaves, or damage (own).
use Rattle.std.specs.Prelude.{◌≡◌, ℕ, ◌+◌, ◌^◌, ◌<◌, ◌⊎◌, List, ◌++◌, length, drop, All}
use Rattle.std.specs.Int.{w32, w64, to_be_bytes}
use Rattle.journal.specs.declared.tails.Tail.{Tail}
use Rattle.journal.specs.declared.tails.Tail.TheVariants.{Blank, Torn, Later}
use Rattle.journal.specs.Frame.{body_limit, mark_of, IsFrame}

-- octets begin with a frame whose number is later than that of the next one
pub record BeginsLater (salt : List ℕ) (next : ℕ) (octets : List ℕ) : Type 0 where
  pub number : ℕ
  pub body : List ℕ
  pub left : List ℕ
  pub later : next < number
  pub frame : IsFrame salt number octets body left

-- octets begin with a mark
abbrev pub BeginsMarked : List ℕ → List ℕ → Type 0
BeginsMarked mark octets = (rest : List ℕ) × (octets ≡ mark ++ rest)

-- a mark occurs in octets after their first one
abbrev pub StandsAgain : List ℕ → List ℕ → Type 0
StandsAgain mark octets = (place : ℕ) × (0 < place) × BeginsMarked mark (drop place octets)

-- octets begin as a later frame does, with the mark, a length and a later number, and these are as many as that frame would have
pub record IsOutline (mark : List ℕ) (next : ℕ) (octets whole rest : List ℕ) : Type 0 where
  pub size : ℕ
  pub number : ℕ
  pub behind : List ℕ
  pub short : size < body_limit
  pub counted : number < 2 ^ 64
  pub later : next < number
  pub lead : octets ≡ mark ++ (to_be_bytes w32 size ++ (to_be_bytes w64 number ++ behind))
  pub long : length whole ≡ length mark + size + 44
  pub spelt : octets ≡ whole ++ rest

-- octets begin as a later frame does, and the mark occurs again in as many octets as that frame would have, whether it is one or not
pub record Overlaps (salt : List ℕ) (next : ℕ) (octets : List ℕ) : Type 0 where
  pub whole : List ℕ
  pub rest : List ℕ
  pub outline : IsOutline (mark_of salt) next octets whole rest
  pub again : StandsAgain (mark_of salt) whole

-- octets begin with a later frame, or with one that overlaps a further mark
abbrev pub ShowsLater : List ℕ → ℕ → List ℕ → Type 0
ShowsLater salt next octets = BeginsLater salt next octets ⊎ Overlaps salt next octets

-- no position begins with either
abbrev pub NoneLater : List ℕ → ℕ → List ℕ → Type 0
NoneLater salt next rest = (at : ℕ) → ShowsLater salt next (drop at rest) → ⊥

-- only zeros
abbrev pub IsBlank : List ℕ → Type 0
IsBlank rest = All (λ octet. octet ≡ 0) rest

-- what is reported of the octets, which don't begin with the next frame: blank, where there are none or only zeros; or the first position where a later
-- frame begins, for then each frame before that one was on the disk, or one that overlaps a further mark, which no crash leaves; else torn
abbrev pub IsTail : List ℕ → ℕ → List ℕ → Tail → Type 0
IsTail salt next rest Blank = IsBlank rest
IsTail salt next rest Torn = (IsBlank rest → ⊥) × NoneLater salt next rest
IsTail salt next rest (Later at) = ShowsLater salt next (drop at rest) × ((place : ℕ) → place < at → ShowsLater salt next (drop place rest) → ⊥)
