use Rattle.std.proofs.Common.{◌+◌, ◌++◌, ◌∷◌, [], take, subst, sym, ap, ◌∙◌, arith}
use Rattle.std.proofs.lemmas.List.{take_more, take_all}
use Rattle.update_batches.specs.Batch.{IsBatch}
use Rattle.update_batches.proofs.BatchLemmas.{none_so_far, so_far_same}
use Rattle.update_batches.proofs.judged.judge_batch.Goals as goal

pub loop-one-init : goal.loop-one-init
loop-one-init c = record {
  judged = none_so_far c.args.last.now c.args.room c.clear.new.self.items c.new-updates.result.items c.clear.ensures.items c.new-updates.ensures.items;
  long = c.clear.ensures.len;
  capacity = c.clear.ensures.capacity;
}

pub loop-one-preserved : goal.loop-one-preserved
loop-one-preserved c =
    let before = c.loop-one.invariant in
    let requests = c.args.requests.now in
    let index = c.loop-one.one-index in
    let one = c.one-item.result in
    let more = take_more requests index one c.loop-one-test.true ∙ ap (λ x. take index requests ++ x ∷ []) (sym c.one-item.is) in
    record {
      judged = so_far_same c.args.last.now c.args.room
          (take index requests ++ one ∷ []) (take (index + 1) requests) (c.loop-one.verdicts.items ++ c.judge_one-verdict.result ∷ []) c.push_reserved.new.self.items
          c.judge_one-verdict.new.updates.items
          more c.push_reserved.ensures.items
          (c.judge_one-verdict.ensures (take index requests) c.loop-one.verdicts.items before.judged);
      long = c.push_reserved.ensures.len ∙ ap (λ n. n + 1) before.long;
      capacity = c.push_reserved.ensures.capacity ∙ before.capacity;
    }

pub returns-clause-judged : goal.returns-clause-judged
returns-clause-judged c =
    let all = take_all c.loop-one.one-index c.args.requests.now (omega (arith, c.loop-one-test.false)) in
    subst (λ xs. IsBatch c.args.last.now xs c.loop-one.verdicts.items c.loop-one.updates.items c.args.room) all c.loop-one.invariant.judged
