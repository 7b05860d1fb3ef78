-- Woken keys that a wait has taken from a list (own).
use Rattle.std.specs.Prelude.{ℕ, List, [], Option, None, Some}
use Rattle.worker_jobs.specs.declared.waking_poll.WakeSource.{WakeSource}

-- those that aren't reported as ready yet
abbrev pub taken_keys : Option WakeSource → List ℕ
taken_keys None = []
taken_keys (Some wakes) = wakes.woken.items
