-- The engine's reader is the last one, that of who judges updates the one before it, and the others are those of the workers.
use Rattle.std.proofs.Common.{◌≡◌, ◌<◌, sym, ◌∙◌, subst}
use Rattle.std.proofs.lemmas.List.Elements.{All-same, All-take}
use Rattle.worker_jobs.proofs.EachLemmas.{all_last}
use Rattle.serve_workers.proofs.service.serve_with_readers.Goals as goal

pub name_readers-requires-clause-named : goal.name_readers-requires-clause-named
name_readers-requires-clause-named g c =
    let behind = All-same (λ r. (r.cell ≡ c.args.parts.cell) × (0 < r.left)) _ _ c.in-Some.ensures.rest (All-take (λ r. (r.cell ≡ c.args.parts.cell) × (0 < r.left)) _ c.args.parts.readers.items c.requires.readers) in
    let rest = All-same (λ r. (r.cell ≡ c.args.parts.cell) × (0 < r.left)) _ _ c.in-Some-pop.ensures.rest (All-take (λ r. (r.cell ≡ c.args.parts.cell) × (0 < r.left)) _ c.pop.new.self.items behind) in
    λ k d below. (rest k d below).0 ∙ c.requires.named

pub serve_with_engine-served-requires-clause-grant : goal.serve_with_engine-served-requires-clause-grant
serve_with_engine-served-requires-clause-grant g c κs within =
    let last = all_last (λ r. (r.cell ≡ c.args.parts.cell) × (0 < r.left)) c.pop.new.self.items c.in-Some.own (All-same (λ r. (r.cell ≡ c.args.parts.cell) × (0 < r.left)) _ _ (sym c.in-Some.ensures.items) c.requires.readers) in
    subst (λ r. 0 < r.left) (sym c.of-own.ensures) last.1
