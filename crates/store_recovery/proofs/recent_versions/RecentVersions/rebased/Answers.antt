use Rattle.std.proofs.Common.{ap, ◌∙◌}
use Rattle.store_recovery.specs.Replay.{first_version}
use Rattle.store_recovery.specs.Rebased.{versions_in}
use Rattle.store_recovery.proofs.RebasedLemmas.{rebased_as, newest_begin}
use Rattle.store_recovery.proofs.recent_versions.RecentVersions.rebased.Goals as goal

pub returns-clause-same : goal.returns-clause-same
returns-clause-same c =
    rebased_as (versions_in c.args.self) c.oldest_first-oldest.result.0 c.first.result c.oldest_first-oldest.result.1.items c.number_all.new.later.items
    c.oldest_first-oldest.ensures.all c.number_all.ensures (c.first.ensures ∙ ap first_version c.into_zone.ensures)

-- those of a replay may be published
pub returns-clause-made : goal.returns-clause-made
returns-clause-made c zone messages is =
    newest_begin zone messages c.args.self c.first.result c.number_all.new.later.items is
    (rebased_as (versions_in c.args.self) c.oldest_first-oldest.result.0 c.first.result c.oldest_first-oldest.result.1.items c.number_all.new.later.items
    c.oldest_first-oldest.ensures.all c.number_all.ensures (c.first.ensures ∙ ap first_version c.into_zone.ensures))
