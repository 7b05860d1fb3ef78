-- Families of samples.
use Rattle.std.specs.Prelude.{ℕ, List, [], ◌∷◌, ◌++◌}
use Rattle.metrics_text.specs.declared.family.Kind.{Kind}
use Rattle.metrics_text.specs.Samples.{SampleOf}

-- samples of one name, with what they say and their kind
pub record FamilyOf : Type 0 where
  pub name : List ℕ
  pub help : List ℕ
  pub kind : Kind
  pub samples : List SampleOf

-- a family without samples
abbrev pub empty_family : List ℕ → List ℕ → Kind → FamilyOf
empty_family name help kind = record { name = name; help = help; kind = kind; samples = [] }

-- a family with further samples
abbrev pub with_samples : FamilyOf → List SampleOf → FamilyOf
with_samples family samples = record { name = family.name; help = family.help; kind = family.kind; samples = family.samples ++ samples }

-- a family with one sample more
abbrev pub with_sample : FamilyOf → SampleOf → FamilyOf
with_sample family sample = with_samples family (sample ∷ [])
