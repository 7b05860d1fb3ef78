use Rattle.std.proofs.Common.{◌∙◌}
use Rattle.lookup_core.proofs.AliasLemmas.{among_searched, inside}
use Rattle.lookup_core.proofs.aliases.is_final_among.Goals as goal

-- a target in the zone is final where it was searched
pub returns-else-not-is_under : goal.returns-else-not-is_under
returns-else-not-is_under g c = λ aliases kept.
    let under = rw (c.is_under.ensures, c.apex.ensures) at c.if-not-is_under.false in
    c.is_among.ensures ∙ among_searched c.args.target.now c.args.folded.now c.args.names.now aliases c.requires kept ∙ inside _ _ under
