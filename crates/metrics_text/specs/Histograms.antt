-- Histograms as samples (Prometheus' exposition format, 0.0.4, Histograms and summaries).
use Rattle.std.specs.Prelude.{ℕ, ◌+◌, ◌-◌, ◌^◌, List, [], ◌∷◌, ◌++◌, codes, min}
use Rattle.metrics_text.specs.declared.number.Number.{Number}
use Rattle.metrics_text.specs.declared.number.Number.TheVariants.{Whole, Nanoseconds}
use Rattle.metrics_text.specs.Samples.{SampleOf}
use Rattle.metrics_text.specs.Buckets.{BucketOf}

-- two numbers together, up to the most that 64 bits hold
abbrev pub both : ℕ → ℕ → ℕ
both a b = min (a + b) (2 ^ 64 - 1)

-- a sample without labels, with something after its family's name
abbrev pub suffixed : List ℕ → Number → SampleOf
suffixed suffix number = record { suffix = suffix; labels = []; number = number }

-- how many are at most a bound
abbrev pub bucket_sample : List ℕ → ℕ → SampleOf
bucket_sample bound below = record { suffix = codes "_bucket"; labels = record { name = codes "le"; value = bound } ∷ []; number = Whole below }

-- for each bucket how many are at most its bound: those before it too
abbrev pub bucket_samples : ℕ → List BucketOf → List SampleOf
bucket_samples before [] = []
bucket_samples before (b ∷ bs) = bucket_sample b.bound (both before b.count) ∷ bucket_samples (both before b.count) bs

-- how many all buckets counted
abbrev pub counted : ℕ → List BucketOf → ℕ
counted before [] = before
counted before (b ∷ bs) = counted (both before b.count) bs

-- all, of which some lie above the last bound
abbrev pub all_of : List BucketOf → ℕ → ℕ
all_of buckets above = both (counted 0 buckets) above

-- a histogram: its buckets, all under the bound +Inf, the sum of what was measured, and how many there are
abbrev pub histogram_samples : List BucketOf → ℕ → ℕ → List SampleOf
histogram_samples buckets above nanoseconds =
    bucket_samples 0 buckets
    ++ (bucket_sample (codes "+Inf") (all_of buckets above)
    ∷ (suffixed (codes "_sum") (Nanoseconds nanoseconds) ∷ (suffixed (codes "_count") (Whole (all_of buckets above)) ∷ [])))
