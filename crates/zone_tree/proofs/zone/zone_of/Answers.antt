-- The records keep the rules of a zone, and within its limits they are one.
use Rattle.std.proofs.Common.{◌∙◌, sym, ap, subst}
use Rattle.std.specs.Option.{option_copied}
use Rattle.zone_tree.specs.Filed.{AreKept}
use Rattle.zone_tree.proofs.ApexLemmas.{some_owner, kept}
use Rattle.zone_tree.proofs.zone.zone_of.Goals as goal

pub unreachable-requires : goal.unreachable-requires
unreachable-requires c =
    some_owner c.args.owners.pairs c.requires.filed c.requires.rules (sym c.first.ensures ∙ ap option_copied c.in_default.is)

pub invariant_of-result : goal.invariant_of-result
invariant_of-result c =
    subst (λ name. AreKept name c.args.count c.args.owners.pairs) (sym c.owner-apex.ensures)
    (kept c.args.owners.pairs c.requires.filed c.requires.rules c.in-Some.first.now c.args.count
    (sym c.first.ensures ∙ ap option_copied c.in-Some.is) c.requires.counted c.requires.few)

pub returns-clause-lawful : goal.returns-clause-lawful
returns-clause-lawful c = (invariant_of-result c).lawful
