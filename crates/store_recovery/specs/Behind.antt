-- The batches after the first updates of a store (own).
use Rattle.std.specs.Prelude.{◌≡◌, ℕ, ◌-◌, nat_lt, List, [], ◌∷◌, length, drop, map, All, if◌then◌else◌}
use Rattle.journal.specs.Batch.{Messages, batch_of, IsRequest}
use Rattle.journal.specs.Frame.{Fit}
use Rattle.journal.specs.Recovered.{updates_in}

-- batches have the updates after the first so many of others, and fit a journal of their own
pub record AreBehind (k : ℕ) (batches rest : List (List Messages)) : Type 0 where
  pub all : updates_in rest ≡ drop k (updates_in batches)
  pub short : All (All IsRequest) rest
  pub fit : Fit 0 (map batch_of rest)

-- the batches after the first so many updates; where these end within a batch, the rest of that batch is the first
abbrev pub batches_behind : ℕ → List (List Messages) → List (List Messages)
batches_behind k [] = []
batches_behind k (batch ∷ batches) = if nat_lt k (length batch) then drop k batch ∷ batches else batches_behind (k - length batch) batches
