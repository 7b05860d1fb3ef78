-- One pair more is put.
use Rattle.std.proofs.Common.{rules, ◌≡◌, ◌∷◌, [], ◌++◌, map, refl, sym, ap, ◌∙◌, append_assoc}
use Rattle.std.specs.Vec.Iter.{into_iter_items}
use Rattle.worker_jobs.proofs.EachLemmas.{all_taken}
use Rattle.worker_jobs.proofs.ListLemmas.{map_more}
use Rattle.worker_jobs.proofs.workers.put_pairs.Goals as goal

pub loop-asked-init : goal.loop-asked-init
loop-asked-init g c = record { left = c.into_iter-asked-iterator.ensures.into_iter_gives.0; room = search rules; pairs = search rules }

pub loop-asked-preserved : goal.loop-asked-preserved
loop-asked-preserved g c =
    let reader : c.in-Some.field-0.asked.reader ≡ c.into_reader.result = sym c.into_reader.ensures in
    let pair = ap (λ r. (r, c.in-Some.field-0.job)) reader in record {
      left = append_assoc c.loop-asked.yielded (c.in-Some.field-0 ∷ []) (into_iter_items c.next.new.self) ∙ ap (λ rest. c.loop-asked.yielded ++ rest) (sym c.in-Some.ensures.steps.0) ∙ c.loop-asked.invariant.left;
      room = search rules;
      pairs = c.push_reserved.ensures.items ∙ sym (map_more (λ worker. (worker.asked.reader, worker.job)) c.loop-asked.yielded _ c.in-Some.field-0 c.loop-asked.back.items _ refl (sym c.loop-asked.invariant.pairs) pair);
    }

pub returns : goal.returns
returns g c =
    let all : c.loop-asked.yielded ≡ c.args.done.items = all_taken c.loop-asked.yielded (into_iter_items c.loop-asked.asked-iterator) c.args.done.items c.loop-asked.invariant.left (sym c.loop-asked.asked-iterator.rest.ok.0 ∙ c.in-None.ensures.steps.0) in
    record { pairs = c.loop-asked.invariant.pairs ∙ ap (λ workers. map (λ worker. (worker.asked.reader, worker.job)) workers) all }
