use Rattle.std.proofs.Common.{sym, subst, ◌++◌}
use Rattle.std.specs.Option.{option_copied}
use Rattle.zone_tree.specs.Delta.{DifferOnlyAt}
use Rattle.zone_change.specs.Apart.{records_left}
use Rattle.zone_change.proofs.ApartLemmas.{joined}
use Rattle.zone_change.proofs.apart.pass_beside.Goals as goal

pub returns : goal.returns
returns c = λ front other h.
    let behind = records_left (option_copied c.args.next) c.args.others.now in
    subst (λ os. DifferOnlyAt os ((front ++ c.args.set.now) ++ behind) other) (sym c.in_ok-push.ensures.items)
    (joined c.args.owners.now.items c.owner.result front c.args.set.now behind other c.owner.ensures.shared h)
