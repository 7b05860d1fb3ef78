-- Connections that have ended, one reason after another.
use Rattle.std.proofs.Common.{◌≡◌, ℕ, ◌+◌, ◌-◌, ◌^◌, ◌<◌, List, drop, length, get_or, min, ap, ◌∙◌, sym}
use Rattle.std.proofs.lemmas.List.{drop_more}
use Rattle.counters.specs.declared.counter.Counter.TheVariants.{ConnectionEnded}
use Rattle.counters.specs.declared.connection_end.ConnectionEnd.TheVariants.{Done}
use Rattle.counters.specs.Counters.{number_of}
use Rattle.counters.specs.ConnectionEnds.{all_connection_ends}
use Rattle.metric_families.specs.Counted.{ended_by}

-- once those of the next reason are counted, the number, with what is left, is still that of all
pub ended_more : (numbers : List ℕ) (before next all i : ℕ) → i < length all_connection_ends
    → next ≡ min (before + number_of (ConnectionEnded (get_or all_connection_ends i Done)) numbers) (2 ^ 64 - 1)
    → ended_by before numbers (drop i all_connection_ends) ≡ all → ended_by next numbers (drop (i + 1) all_connection_ends) ≡ all
ended_more numbers before next all i within is stood =
    ap (λ n. ended_by n numbers (drop (i + 1) all_connection_ends)) is
    ∙ (sym (ap (ended_by before numbers) (drop_more all_connection_ends i Done within)) ∙ stood)
