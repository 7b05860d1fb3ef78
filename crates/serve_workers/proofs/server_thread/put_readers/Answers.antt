-- One reader more is put.
use Rattle.std.proofs.Common.{rules, ◌≡◌, ◌∷◌, [], ◌++◌, length, Some, map, refl, sym, ap, ◌∙◌, append_assoc}
use Rattle.std.proofs.lemmas.List.{map_push}
use Rattle.std.specs.Vec.Iter.{into_iter_items}
use Rattle.worker_jobs.proofs.EachLemmas.{all_taken}
use Rattle.worker_jobs.proofs.ListLemmas.{map_more}
use Rattle.serve_workers.proofs.ReaderLemmas.{length_same}
use Rattle.serve_workers.proofs.server_thread.put_readers.Goals as goal

pub loop-thread-init : goal.loop-thread-init
loop-thread-init g c = record { left = c.into_iter-thread-iterator.ensures.into_iter_gives.0; room = search rules; capacity = refl; readers = search rules }

pub loop-thread-preserved : goal.loop-thread-preserved
loop-thread-preserved g c = record {
  left = append_assoc c.loop-thread.yielded (c.in-Some.thread ∷ []) (into_iter_items c.next.new.self) ∙ ap (λ rest. c.loop-thread.yielded ++ rest) (sym c.in-Some.ensures.steps.0) ∙ c.loop-thread.invariant.left;
  room = search rules;
  capacity = search rules;
  readers = map_more (λ reader. Some reader) _ _ _ _ _ c.push_reserved.ensures.items c.loop-thread.invariant.readers c.into_reader.ensures ∙ sym (map_push (λ thread. thread.reader) c.loop-thread.yielded c.in-Some.thread);
}

pub returns-clause-readers : goal.returns-clause-readers
returns-clause-readers g c =
    let all : c.loop-thread.yielded ≡ c.args.threads.items = all_taken c.loop-thread.yielded (into_iter_items c.loop-thread.thread-iterator) c.args.threads.items c.loop-thread.invariant.left (sym c.loop-thread.thread-iterator.rest.ok.0 ∙ c.in-None.ensures.steps.0) in
    c.loop-thread.invariant.readers ∙ ap (λ threads. map (λ thread. thread.reader) threads) all

pub returns-clause-count : goal.returns-clause-count
returns-clause-count g c =
    let all : c.loop-thread.yielded ≡ c.args.threads.items = all_taken c.loop-thread.yielded (into_iter_items c.loop-thread.thread-iterator) c.args.threads.items c.loop-thread.invariant.left (sym c.loop-thread.thread-iterator.rest.ok.0 ∙ c.in-None.ensures.steps.0) in
    c.loop-thread.readers.ok.0 ∙ length_same (λ reader. Some reader) (λ thread. thread.reader) _ _ c.loop-thread.invariant.readers ∙ ap length all ∙ sym c.args.threads.ok.0
