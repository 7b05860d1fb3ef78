-- Buckets of a histogram.
use Rattle.std.specs.Prelude.{ℕ, List}

-- a bucket: its bound as text, and how many lie above the bound before it and at most at its own
pub record BucketOf : Type 0 where
  pub bound : List ℕ
  pub count : ℕ
