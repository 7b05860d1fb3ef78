-- Samples with two labels, one, or none.
use Rattle.std.specs.Prelude.{ℕ, List}
use Rattle.metrics_text.specs.declared.number.Number.TheVariants.{Whole}
use Rattle.metrics_text.specs.Samples.{SampleOf, plain_sample, labelled}

-- a whole number without labels
abbrev pub whole_sample : ℕ → SampleOf
whole_sample number = plain_sample (Whole number)

-- a whole number with one label
abbrev pub one_label : List ℕ → List ℕ → ℕ → SampleOf
one_label label value number = labelled (whole_sample number) (record { name = label; value = value })

-- a whole number with two labels
abbrev pub two_labels : List ℕ → List ℕ → List ℕ → List ℕ → ℕ → SampleOf
two_labels label value second_label second_value number = labelled (one_label label value number) (record { name = second_label; value = second_value })
