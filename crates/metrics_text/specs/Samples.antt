-- Samples and their labels.
use Rattle.std.specs.Prelude.{ℕ, List, [], ◌∷◌, ◌++◌}
use Rattle.metrics_text.specs.declared.number.Number.{Number}

-- a label: its name and its value
pub record LabelOf : Type 0 where
  pub name : List ℕ
  pub value : List ℕ

-- a sample: what follows the family's name, its labels, its number
pub record SampleOf : Type 0 where
  pub suffix : List ℕ
  pub labels : List LabelOf
  pub number : Number

-- a sample without labels
abbrev pub plain_sample : Number → SampleOf
plain_sample number = record { suffix = []; labels = []; number = number }

-- a sample with one label more
abbrev pub labelled : SampleOf → LabelOf → SampleOf
labelled sample label = record { suffix = sample.suffix; labels = sample.labels ++ label ∷ []; number = sample.number }
