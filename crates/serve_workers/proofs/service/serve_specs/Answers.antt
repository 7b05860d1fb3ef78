-- The first version is published, and the others may be published behind it.
use Rattle.std.proofs.Common.{◌≡◌, sym, ap, subst}
use Rattle.zone_tree.specs.Version.{Version}
use Rattle.snapshot_cell.specs.Tokens.{PublisherState}
use Rattle.dns_engine.specs.Versions.{AreNext}
use Rattle.serve_workers.proofs.service.serve_specs.Goals as goal

pub serve_with_readers-requires-clause-follow : goal.serve_with_readers-requires-clause-follow
serve_with_readers-requires-clause-follow g c =
    let first : c.in-Ok-new.parts.publisher.value ≡ c.args.first = ap (λ (p : PublisherState Version). p.value) c.in-Ok-new.ensures.publisher in
    λ _ _. subst (λ (v : Version). AreNext v c.args.later.items) (sym first) c.requires.follow
