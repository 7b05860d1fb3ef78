use Rattle.std.proofs.Common.{ap, ◌∙◌, Some}
use Rattle.world_run.specs.declared.judged.Judged.TheVariants.{Code, Makes}
use Rattle.world_run.proofs.JudgeLemmas.{told_by_code, told_next}
use Rattle.world_run.proofs.judged.judge_update.Goals as goal

pub returns-in-Refused-clause-ok : goal.returns-in-Refused-clause-ok
returns-in-Refused-clause-ok c =
    ap (λ heading. Some (Code heading c.code-code.result)) c.of_update-heading.ensures
    ∙ told_by_code c.args.version.now c.args.update.now c.apply-outcome.result c.code-code.result c.apply-outcome.ensures.reported c.code-code.ensures c.in-Refused.is

pub returns-in-Ok-clause-ok : goal.returns-in-Ok-clause-ok
returns-in-Ok-clause-ok c =
    rw c.in-Ok.ensures.ok
    (ap (λ heading. Some (Makes heading c.in-Next.next)) c.of_update-heading.ensures
    ∙ told_next c.args.version.now c.in-Next.next c.args.update.now c.apply-outcome.result c.apply-outcome.ensures.reported c.in-Next.is)
