-- No version is published behind the first one.
use Rattle.std.proofs.Common.{refl, ap, ◌∙◌}
use Rattle.zone_tree.specs.Version.{Version}
use Rattle.test_threads.proofs.ending.served.Goals as goal

pub serve_zone-end-requires-clause-first : goal.serve_zone-end-requires-clause-first
serve_zone-end-requires-clause-first g c = λ _ _. record {
  number = ap (λ (v : Version). v.number) (c.in-Some.ensures ∙ c.first-version.ensures);
  zone = refl;
  changes = ap (λ (v : Version). v.changes) (c.in-Some.ensures ∙ c.first-version.ensures);
}

pub serve_zone-end-requires-clause-follow : goal.serve_zone-end-requires-clause-follow
serve_zone-end-requires-clause-follow g c = λ _ _. rw c.new-later.ensures.items tt
