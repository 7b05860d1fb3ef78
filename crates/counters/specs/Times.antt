-- How long something took, by buckets (Prometheus' exposition format, Histograms).
use Rattle.std.specs.Prelude.{ℕ, ◌*◌, ◌^◌, List, [], ◌∷◌, map, count_by, nat_lt, replicate}
use Rattle.counters.specs.Sums.{both, more_at}
use Rattle.counters.specs.declared.times.Times.{Times}

-- the bounds of the buckets but the last, in nanoseconds: 0.1 milliseconds, and ten more, each three times the one before
abbrev pub bounds : List ℕ
bounds = map (λ k. 100000 * 3 ^ k) (0 ∷ (1 ∷ (2 ∷ (3 ∷ (4 ∷ (5 ∷ (6 ∷ (7 ∷ (8 ∷ (9 ∷ (10 ∷ [])))))))))))

-- the bucket of a time: how many bounds lie below it
abbrev pub bucket_of : ℕ → ℕ
bucket_of nanoseconds = count_by (λ bound. nat_lt bound nanoseconds) bounds

-- no time
abbrev pub no_times : Times
no_times = record { counts = replicate 12 0; nanoseconds = 0 }

-- one time more: in its bucket, and in the sum
abbrev pub with_time : Times → ℕ → Times
with_time times nanoseconds = record { counts = more_at (bucket_of nanoseconds) 1 times.counts; nanoseconds = both times.nanoseconds nanoseconds }
