-- A cell, and its steps: values are published one after the other, and each that somebody owns stays as it is (own).
use Rattle.std.specs.Prelude.{◌≡◌, ℕ, ◌+◌, ◌-◌, ◌<◌, Bool, false, ◌||◌, ◌==◌, if◌then◌else◌, List, [], ◌∷◌, ◌++◌, length, Option, None, Some, MatchBool}

-- a cell: the values published, the first one first, which numbers are buried, and how many strong and weak owners each
-- number has; a value's number is its place among those published (own)
pub record Cell (T : Type 0) : Type 0 where
  pub published : List T
  pub buried : ℕ → Bool
  pub strong : ℕ → ℕ
  pub weak : ℕ → ℕ

-- the steps of a cell (own)
pub data CellStep (T : Type 0) : Type 0 where
  -- a strong owner of the last value
  Load : CellStep T
  -- one value more; the publisher becomes a strong owner of the value that was last
  Publish : T → CellStep T
  -- one strong owner more of an owned number
  Clone : ℕ → CellStep T
  -- one strong owner less
  Drop : ℕ → CellStep T
  -- a value that nobody owns is given up for good
  Bury : ℕ → CellStep T
  -- a weak owner of an owned number
  Down : ℕ → CellStep T
  -- a strong owner of a weak owner's number, or none where it is buried
  Up : ℕ → CellStep T
  -- one weak owner less
  Fade : ℕ → CellStep T

-- the counts, with one more at k (own)
abbrev pub one_more : ℕ → (ℕ → ℕ) → ℕ → ℕ
one_more k counts = λ j. if j == k then counts j + 1 else counts j

-- the counts, with one less at k (own)
abbrev pub one_less : ℕ → (ℕ → ℕ) → ℕ → ℕ
one_less k counts = λ j. if j == k then counts j - 1 else counts j

-- k is the number of the value published last (own)
abbrev pub IsLast : {T : Type 0} → Cell T → ℕ → Type 0
IsLast cell k = length cell.published ≡ k + 1

-- the cell with one strong owner more of k (own)
abbrev pub with_strong : {T : Type 0} → ℕ → Cell T → Cell T
with_strong k cell = record cell { strong = one_more k cell.strong }

-- the cell with one strong owner less of k (own)
abbrev pub without_strong : {T : Type 0} → ℕ → Cell T → Cell T
without_strong k cell = record cell { strong = one_less k cell.strong }

-- the cell with one weak owner more of k (own)
abbrev pub with_weak : {T : Type 0} → ℕ → Cell T → Cell T
with_weak k cell = record cell { weak = one_more k cell.weak }

-- the cell with one weak owner less of k (own)
abbrev pub without_weak : {T : Type 0} → ℕ → Cell T → Cell T
without_weak k cell = record cell { weak = one_less k cell.weak }

-- the cell with one value more, after the others (own)
abbrev pub with_value : {T : Type 0} → T → Cell T → Cell T
with_value value cell = record cell { published = cell.published ++ value ∷ [] }

-- the cell in which k is buried too (own)
abbrev pub with_buried : {T : Type 0} → ℕ → Cell T → Cell T
with_buried k cell = record cell { buried = λ j. j == k || cell.buried j }

-- what a step may make of a cell, and the number that it gives a new owner, none where it gives none (own)
abbrev pub Steps : {T : Type 0} → Cell T → CellStep T → Option ℕ → Cell T → Type 0
Steps before Load given after = (k : ℕ) × IsLast before k × (given ≡ Some k) × (after ≡ with_strong k before)
Steps before (Publish value) given after =
    (k : ℕ) × IsLast before k × (given ≡ Some k) × (after ≡ with_value value (with_strong k before))
Steps before (Clone k) given after = (0 < before.strong k) × (given ≡ Some k) × (after ≡ with_strong k before)
Steps before (Drop k) given after = (0 < before.strong k) × (given ≡ None) × (after ≡ without_strong k before)
Steps before (Bury k) given after =
    (k + 1 < length before.published) × (before.strong k ≡ 0) × (before.buried k ≡ false)
    × (given ≡ None) × (after ≡ with_buried k before)
Steps before (Down k) given after = (0 < before.strong k) × (given ≡ Some k) × (after ≡ with_weak k before)
Steps before (Up k) given after =
    (0 < before.weak k)
    × MatchBool (before.buried k) ((given ≡ None) × (after ≡ before)) ((given ≡ Some k) × (after ≡ with_strong k before))
Steps before (Fade k) given after = (0 < before.weak k) × (given ≡ None) × (after ≡ without_weak k before)

-- a step can be made (own)
abbrev pub HasStep : {T : Type 0} → Cell T → CellStep T → Type 0
HasStep {T} cell step = (given : Option ℕ) × (after : Cell T) × Steps cell step given after

-- the cell in which one value is published, and nobody owns anything (own)
abbrev pub start : {T : Type 0} → T → Cell T
start value = record { published = value ∷ []; buried = λ k. false; strong = λ k. 0; weak = λ k. 0 }

-- a run: steps made in turn, each with the number that it gave (own)
abbrev pub Runs : {T : Type 0} → Cell T → List (CellStep T × Option ℕ) → Cell T → Type 0
Runs before [] after = after ≡ before
Runs {T} before ((step, given) ∷ more) after = (between : Cell T) × Steps before step given between × Runs between more after

-- a cell that a run from its first value reaches (own)
abbrev pub IsReached : {T : Type 0} → Cell T → Type 0
IsReached {T} cell = (first : T) × (run : List (CellStep T × Option ℕ)) × Runs (start first) run cell

-- each value follows the one before it (own)
abbrev pub EachFollows : {T : Type 0} → (T → T → Type 0) → List T → Type 0
EachFollows follows [] = Unit {0}
EachFollows follows (value ∷ []) = Unit {0}
EachFollows follows (value ∷ next ∷ more) = follows value next × EachFollows follows (next ∷ more)
