use Rattle.std.proofs.Common.{subst, sym, ◌++◌}
use Rattle.std.specs.Option.{option_copied}
use Rattle.zone_tree.specs.Delta.{DifferOnlyAt}
use Rattle.zone_tree.specs.Sets.{records_in}
use Rattle.zone_change.specs.Apart.{records_left}
use Rattle.zone_change.proofs.ApartLemmas.{passed}
use Rattle.zone_change.proofs.apart.pass_all.Goals as goal

pub returns : goal.returns
returns c = λ front other h.
    let owners = c.args.owners.now.items in
    let behind = records_in c.args.others.now in
    let was = subst (λ o. DifferOnlyAt owners (front ++ records_left (option_copied o) c.args.others.now) other) c.in-Some.is h in
    let left = passed owners c.owner.result front c.in-Some.there.now behind other c.owner.ensures.shared was in
    c.pass_rest-2.ensures front other (subst (λ os. DifferOnlyAt os (front ++ behind) other) (sym c.in_ok-push.ensures.items) left)
