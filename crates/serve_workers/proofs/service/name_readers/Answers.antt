-- One reader more is named.
use Rattle.std.proofs.Common.{rules, ◌≡◌, ◌∷◌, [], ◌++◌, refl, sym, ap, ◌∙◌, append_assoc}
use Rattle.std.proofs.lemmas.List.Elements.{All-head, All-rest, All-same}
use Rattle.std.specs.Vec.Iter.{into_iter_items}
use Rattle.worker_jobs.proofs.EachLemmas.{all_taken}
use Rattle.serve_workers.proofs.service.name_readers.Goals as goal

pub loop-reader-init : goal.loop-reader-init
loop-reader-init g c = record {
  left = ap (λ l. l ++ into_iter_items c.into_iter-reader-iterator.result) c.requires.empty ∙ c.into_iter-reader-iterator.ensures.into_iter_gives.0;
  named = All-same (λ r. r.cell ≡ g.N.Naming.cell) _ _ c.into_iter-reader-iterator.ensures.into_iter_gives.0 c.requires.named;
  count = search rules;
  room = search rules;
  capacity = refl;
}

pub of-requires : goal.of-requires
of-requires g c = All-head (λ r. r.cell ≡ g.N.Naming.cell) _ _ (All-same (λ r. r.cell ≡ g.N.Naming.cell) _ _ (sym c.in-Some.ensures.steps.0) c.loop-reader.invariant.named)

pub loop-reader-preserved : goal.loop-reader-preserved
loop-reader-preserved g c = record {
  left =
      ap (λ l. l ++ into_iter_items c.next.new.self) c.push_reserved.ensures.items
      ∙ append_assoc c.loop-reader.named.items (c.of.result ∷ []) (into_iter_items c.next.new.self)
      ∙ ap (λ r. c.loop-reader.named.items ++ r ∷ into_iter_items c.next.new.self) c.of.ensures
      ∙ ap (λ rest. c.loop-reader.named.items ++ rest) (sym c.in-Some.ensures.steps.0)
      ∙ c.loop-reader.invariant.left;
  named = All-rest (λ r. r.cell ≡ g.N.Naming.cell) _ _ _ c.in-Some.ensures.steps.0 c.loop-reader.invariant.named;
  count = search rules;
  room = search rules;
  capacity = search rules;
}

pub returns-clause-readers : goal.returns-clause-readers
returns-clause-readers g c =
    all_taken _ (into_iter_items c.loop-reader.reader-iterator) c.args.readers.items c.loop-reader.invariant.left (sym c.loop-reader.reader-iterator.rest.ok.0 ∙ c.in-None.ensures.steps.0)
