-- What is told of an update in a version.
use Rattle.std.proofs.Common.{subst}
use Rattle.zone_tree.specs.Version.{Version}
use Rattle.dns_engine.specs.Outcomes.{IsJudged}
use Rattle.dns_engine.proofs.OutcomeLemmas.{judged_as}
use Rattle.dns_engine.proofs.judged.judge.Goals as goal

pub returns : goal.returns
returns c =
    subst (λ (v : Version). IsJudged v c.args.update.now c.args.may c.judged_of.result) c.get-known.ensures
    (judged_as c.get-known.result.now c.args.update.now c.args.may c.apply.result c.judged_of.result c.apply.ensures.reported c.judged_of.ensures)
