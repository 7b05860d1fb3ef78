use Rattle.std.proofs.Common.{arith}
use Rattle.store_recovery.specs.Replay.{begun}
use Rattle.store_recovery.proofs.HeldLemmas.{begun_newest, held_newest, held_zone, held_number}
use Rattle.store_recovery.proofs.laws.what_is_replayed_is_held.Goals as goal

pub returns : goal.returns
returns c = record {
  newest = λ zone updates taken. held_newest zone (begun zone) updates (begun_newest zone) taken;
  zone = λ zone updates. held_zone (begun zone) updates;
  number = λ zone updates. omega (arith, held_number (begun zone) updates);
}
