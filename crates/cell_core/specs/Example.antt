-- A cell of numbers, for worked examples.
use Rattle.std.specs.Prelude.{ℕ, List, [], ◌∷◌, Option, None, Some}
use Rattle.cell_core.specs.Cell.{Cell, CellStep, start, with_strong, without_strong, with_weak, with_value, with_buried}

-- 10 is published
abbrev pub one_value : Cell ℕ
one_value = start 10

-- 10 is loaded, and 20 is published: 10 has two strong owners, one of them the publisher
abbrev pub two_values : Cell ℕ
two_values = with_value 20 (with_strong 0 (with_strong 0 one_value))

-- the steps that lead there
abbrev pub to_two_values : List (CellStep ℕ × Option ℕ)
to_two_values = (CellStep.Load, Some 0) ∷ (CellStep.Publish 20, Some 0) ∷ []

-- then 20 is loaded, 10 gets a weak owner, and loses both strong ones
abbrev pub one_weak : Cell ℕ
one_weak = without_strong 0 (without_strong 0 (with_weak 0 (with_strong 1 two_values)))

-- the steps that lead there
abbrev pub to_one_weak : List (CellStep ℕ × Option ℕ)
to_one_weak = (CellStep.Load, Some 1) ∷ (CellStep.Down 0, Some 0) ∷ (CellStep.Drop 0, None) ∷ (CellStep.Drop 0, None) ∷ []

-- then 10 is buried
abbrev pub one_buried : Cell ℕ
one_buried = with_buried 0 one_weak
