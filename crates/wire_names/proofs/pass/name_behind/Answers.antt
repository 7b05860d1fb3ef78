use Rattle.std.proofs.Common.{sym, ◌∙◌}
use Rattle.wire_names.proofs.PassLemmas.{none_behind, up_behind, not_led_behind}
use Rattle.wire_names.specs.NameAt.{name_at}
use Rattle.wire_names.proofs.pass.name_behind.Goals as goal

pub returns-in_err-run : goal.returns-in_err-run
returns-in_err-run c = c.from_residual.ensures ∙ none_behind (name_at c.args.msg.now c.args.at) c.in_err-run.ensures

pub returns-then-target-at : goal.returns-then-target-at
returns-then-target-at c = up_behind _ _ _ c.in_ok-run.run' c.in_ok-run.ensures c.in-Some.is c.if-target-at.true

pub returns-then-joined-eq0 : goal.returns-then-joined-eq0
returns-then-joined-eq0 c =
    not_led_behind _ _ _ _ c.in_ok-run.run' c.in_ok-run.ensures c.in-Some.is c.if-target-at.false (c.requires.sizes _ c.if-target-sizes.false) (sym c.joined.ensures ∙ c.if-joined-eq0.true)
