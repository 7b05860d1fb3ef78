use Rattle.std.proofs.Common.{ap, sym, ◌∙◌}
use Rattle.dns_name.specs.Name.{fold_name}
use Rattle.dns_rdata.proofs.NameLemmas.{fold_name-fold_name}
use Rattle.wide_file.proofs.record_entry.read_owner.Goals as goal

pub returns-clause-folded : goal.returns-clause-folded
returns-clause-folded c =
    c.fold.ensures.folded ∙ sym (fold_name-fold_name c.in_ok-owner.field-0) ∙ ap fold_name (sym c.fold.ensures.folded)
