-- How long something took, as histograms (Prometheus' exposition format, 0.0.4, Histograms and summaries).
use Rattle.std.specs.Prelude.{ℕ, zero, suc, ◌+◌, ◌==◌, List, [], ◌∷◌, codes, slice_index, if◌then◌else◌}
use Rattle.counters.specs.declared.times.Times.{Times}
use Rattle.metrics_text.specs.declared.family.Kind.TheVariants.{Histogram}
use Rattle.metrics_text.specs.Buckets.{BucketOf}
use Rattle.metrics_text.specs.Families.{FamilyOf, empty_family, with_samples}
use Rattle.metrics_text.specs.Histograms.{histogram_samples}

-- the bound of a bucket, in seconds: those that times are counted by
abbrev pub bound_text : ℕ → List ℕ
bound_text place =
    if place == 0 then codes "0.0001"
    else if place == 1 then codes "0.0003"
    else if place == 2 then codes "0.0009"
    else if place == 3 then codes "0.0027"
    else if place == 4 then codes "0.0081"
    else if place == 5 then codes "0.0243"
    else if place == 6 then codes "0.0729"
    else if place == 7 then codes "0.2187"
    else if place == 8 then codes "0.6561"
    else if place == 9 then codes "1.9683"
    else codes "5.9049"

-- so many buckets from a place on
abbrev pub buckets_from : List ℕ → ℕ → ℕ → List BucketOf
buckets_from counts place zero = []
buckets_from counts place (suc left) = record { bound = bound_text place; count = slice_index counts place } ∷ buckets_from counts (place + 1) left

-- a family of a histogram: eleven buckets, and what lies above the last bound
abbrev pub times_family : List ℕ → List ℕ → Times → FamilyOf
times_family name help times = with_samples (empty_family name help Histogram) (histogram_samples (buckets_from times.counts 0 11) (slice_index times.counts 11) times.nanoseconds)
