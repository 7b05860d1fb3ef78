use Rattle.std.proofs.Common.{sym, subst}
use Rattle.store_recovery.specs.declared.choices.Choice.{Choice}
use Rattle.store_recovery.specs.Choice.{IsChoice}
use Rattle.store_recovery.proofs.ChoiceLemmas.{zones_chosen}
use Rattle.store_recovery.proofs.choices.choose.Goals as goal

pub returns-in-Ok-clause-chosen : goal.returns-in-Ok-clause-chosen
returns-in-Ok-clause-chosen c =
    let begun = c.args.begun.now in
    let last = c.args.last.now in
    let origin = c.args.origin.now in
    let text = c.args.text.now in
    let taken = c.args.taken in
    subst (λ (choice : Choice). IsChoice begun last origin text taken choice) (sym c.of_zones.ensures)
    (zones_chosen begun last origin text taken c.in-Ok.zone c.is_of-same.result c.is_of-same.ensures c.in-Ok.ensures.zone)
