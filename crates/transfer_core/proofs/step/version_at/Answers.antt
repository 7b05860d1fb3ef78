-- One is there.
use Rattle.std.proofs.Common.{sym, ap, ◌∙◌}
use Rattle.std.specs.Option.{option_copied}
use Rattle.transfer_core.proofs.VersionLemmas.{drop_here}
use Rattle.transfer_core.proofs.PlaceLemmas.{no_version}
use Rattle.transfer_core.proofs.step.version_at.Goals as goal

pub unreachable-requires : goal.unreachable-requires
unreachable-requires g c = no_version (g.C.VersionList.versions c.args.chain.now) c.args.at c.requires (sym (ap option_copied c.in-None.is) ∙ c.version.ensures)

pub returns : goal.returns
returns g c = drop_here (g.C.VersionList.versions c.args.chain.now) c.args.at c.in-Some.version.now (sym (ap option_copied c.in-Some.is) ∙ c.version.ensures)
