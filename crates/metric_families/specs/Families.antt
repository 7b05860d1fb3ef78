-- Families by what they say, and samples of several labels each.
use Rattle.std.specs.Prelude.{ℕ, List, map}
use Rattle.metrics_text.specs.declared.family.Kind.{Kind}
use Rattle.metrics_text.specs.Families.{FamilyOf, empty_family, with_sample, with_samples}
use Rattle.metrics_text.specs.Samples.{SampleOf}
use Rattle.metric_families.specs.Samples.{one_label, two_labels, whole_sample}

-- a family of one number without labels
abbrev pub plain_family : List ℕ → List ℕ → Kind → ℕ → FamilyOf
plain_family name help kind number = with_sample (empty_family name help kind) (whole_sample number)

-- a family of one number with one label
abbrev pub one_family : List ℕ → List ℕ → Kind → List ℕ → List ℕ → ℕ → FamilyOf
one_family name help kind label value number = with_sample (empty_family name help kind) (one_label label value number)

-- a sample for each, with one label: its word, and its number
abbrev pub each_labelled : {A : Type 0} → List ℕ → (A → List ℕ) → (A → ℕ) → List A → List SampleOf
each_labelled label word number all = map (λ a. one_label label (word a) (number a)) all

-- a family with a sample for each
abbrev pub labelled_family : {A : Type 0} → List ℕ → List ℕ → Kind → List ℕ → (A → List ℕ) → (A → ℕ) → List A → FamilyOf
labelled_family name help kind label word number all = with_samples (empty_family name help kind) (each_labelled label word number all)

-- a family with a sample for each, which has two labels
abbrev pub pair_family : {A : Type 0} → List ℕ → List ℕ → Kind → List ℕ → List ℕ → (A → List ℕ) → (A → List ℕ) → (A → ℕ) → List A → FamilyOf
pair_family name help kind first second word other number all = with_samples (empty_family name help kind) (map (λ a. two_labels first (word a) second (other a) (number a)) all)
