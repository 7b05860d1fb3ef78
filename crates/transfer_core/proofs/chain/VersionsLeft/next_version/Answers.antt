use Rattle.std.proofs.Common.{sym, ◌∙◌}
use Rattle.transfer_core.proofs.VersionLemmas.{drop_here}
use Rattle.transfer_core.proofs.chain.VersionsLeft.next_version.Goals as goal

pub returns : goal.returns
returns g c = sym c.self.view_is ∙ drop_here (g.L.VersionList.versions c.self.inside.list.now) c.self.inside.at c.in_ok-version.version.now c.in_ok-version.ensures
