use Rattle.std.proofs.Common.{sym, ap, ◌∙◌}
use Rattle.dns_name.specs.Name.{fold_name}
use Rattle.transfer_in.proofs.EndLemmas.{apex_folded}
use Rattle.transfer_in.proofs.taking.Progress.end.Goals as goal

pub end-requires-clause-folded : goal.end-requires-clause-folded
end-requires-clause-folded c = c.apex.ensures ∙ apex_folded c.args.zone.now c.soa-soa.ensures.lawful ∙ ap fold_name (sym c.apex.ensures)
