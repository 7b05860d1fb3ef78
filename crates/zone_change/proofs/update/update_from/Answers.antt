use Rattle.std.proofs.Common.{◌∷◌, [], ◌++◌, ap, ◌∙◌}
use Rattle.zone_change.proofs.RecordsLemmas.{same_update}
use Rattle.zone_change.proofs.update.update_from.Goals as goal

pub returns : goal.returns
returns c =
    let is_present = c.new.ensures ∙ c.in_ok-push.ensures.items ∙ ap (λ l. l ++ c.in_ok-condition.condition ∷ []) c.new-prerequisites.ensures.items ∙ c.in_ok-condition.ensures in
    same_update c.args.old.now c.args.updates.items _ c.copy.result c.new.result c.new-2.result (c.copy.ensures ∙ c.apex.ensures) is_present c.new-2.ensures
