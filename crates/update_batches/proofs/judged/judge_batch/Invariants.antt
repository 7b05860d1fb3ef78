use Rattle.std.proofs.Common.{◌≡◌, take}
use Rattle.std.specs.Prelude.{vec_len, vec_capacity}
use Rattle.update_batches.specs.Batch.{IsBatch}
use Rattle.update_batches.proofs.judged.judge_batch.Given as goal

abbrev pub invariant-loop-one : goal.invariant-loop-one
invariant-loop-one l = record {
  judged : IsBatch l.last (take l.one-index l.requests) l.verdicts.items l.updates.items l.room;
  long : vec_len l.verdicts ≡ l.one-index;
  capacity : vec_capacity l.verdicts ≡ vec_capacity l.fn.verdicts;
}
