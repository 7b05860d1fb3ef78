-- Four different groups are struck out.
use Rattle.std.proofs.Common.{refl, sym, ◌∙◌, arith}
use Rattle.tcp_connections.proofs.SurveyLemmas.{struck}
use Rattle.tcp_connections.proofs.survey.Survey.add.Goals as goal

pub returns-else-self-eq0-3 : goal.returns-else-self-eq0-3
returns-else-self-eq0-3 c = λ total count few survey.
    struck c.args.self.now _ c.args.group total count (sym c.is_group.ensures ∙ c.if-is_group.false) (sym c.is_group-else-is_group.ensures ∙ c.if-is_group-2.false) (sym c.is_group-else-is_group-2.ensures ∙ c.if-is_group-3.false)
    (omega (arith, c.if-self-eq0.false)) (omega (arith, c.if-self-eq0-2.false)) (omega (arith, c.if-self-eq0-3.false)) refl survey
