-- What is taken one by one is what stands in front.
use Rattle.std.proofs.Common.{rules, ◌∙◌, sym, ap, ◌∷◌, [], ◌++◌, take, append_assoc}
use Rattle.update_batches.specs.BoundedQueue.{items_of}
use Rattle.update_batches.proofs.TakeLemmas.{first_behind, taken_more, rest_more}
use Rattle.update_batches.proofs.bounded_queue.BoundedQueue.take.Goals as goal

pub loop-taken-preserved : goal.loop-taken-preserved
loop-taken-preserved g c =
    let front = c.loop-taken.invariant in
    let i = c.loop-taken._taken in
    let item = c.in-Some.item in
    let line = c.args.self.now in
    let is = first_behind i line c.loop-taken.self c.take_first.result front.1 c.take_first.ensures.first ∙ c.in-Some.is in (
      c.push_reserved.ensures.items ∙ ap (λ l. l ++ item ∷ []) front.0 ∙ append_assoc c.args.taken.now.items (take i (items_of line)) (item ∷ [])
          ∙ ap (λ l. c.args.taken.now.items ++ l) (sym (taken_more i (items_of line) item is)),
      rest_more i line c.loop-taken.self c.take_first.new.self front.1 c.take_first.ensures.rest,
      search rules,
      search rules,
    )
