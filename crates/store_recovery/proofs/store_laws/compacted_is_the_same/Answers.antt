use Rattle.store_recovery.proofs.BehindLemmas.{are_behind}
use Rattle.store_recovery.proofs.CompactedLemmas.{compacted_store, compacted_started, replay_parts, replay_rest}
use Rattle.store_recovery.proofs.store_laws.compacted_is_the_same.Goals as goal

pub returns : goal.returns
returns c = record { store = compacted_store; versions = replay_parts; last = replay_rest; started = compacted_started; behind = are_behind }
