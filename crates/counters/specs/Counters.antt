-- The numbers of a thread.
use Rattle.std.specs.Prelude.{ℕ, List, [], ◌∷◌, slice_index, replicate}
use Rattle.counters.specs.Counter.{counter_index}
use Rattle.counters.specs.Sums.{more_at}
use Rattle.counters.specs.Times.{no_times}
use Rattle.counters.specs.declared.counter.Counter.{Counter}
use Rattle.counters.specs.declared.counters.Counters.{Counters}

-- the number of a counter: the one at its place
abbrev pub number_of : Counter → List ℕ → ℕ
number_of counter numbers = slice_index numbers (counter_index counter)

-- nothing was counted
abbrev pub no_counters : Counters
no_counters = record { numbers = replicate 82 0; updates = no_times; syncs = no_times }

-- so many more of a counter
abbrev pub with_more : Counter → ℕ → Counters → Counters
with_more counter more counters = record { numbers = more_at (counter_index counter) more counters.numbers; updates = counters.updates; syncs = counters.syncs }

-- so many more of several counters, one after another
abbrev pub with_counts : List (Counter × ℕ) → Counters → Counters
with_counts [] counters = counters
with_counts (count ∷ counts) counters = with_counts counts (with_more count.0 count.1 counters)
