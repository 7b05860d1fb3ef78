use Rattle.std.proofs.Common.{◌∙◌}
use Rattle.wide_text.proofs.ParamLemmas.{params_step}
use Rattle.wide_text.proofs.params.params_in.Goals as goal

pub loop-rest-preserved : goal.loop-rest-preserved
loop-rest-preserved c =
    let part = c.in_ok-part.part in
    params_step _ _ c.loop-rest.rest.now (record { key = part.key.now; value = part.value.now; count = part.count }) c.in_ok-part.ensures.part c.in_ok-put_part.ensures.put
    ∙ c.loop-rest.invariant
