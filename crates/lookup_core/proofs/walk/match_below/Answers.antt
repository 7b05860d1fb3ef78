use Rattle.std.proofs.Common.{◌≡◌, ℕ, List, true, sym, ap, subst, ◌∙◌}
use Rattle.dns_name.specs.Name.{fold_name, is_under}
use Rattle.dns_rdata.specs.Record.{owner_of}
use Rattle.lookup_core.proofs.walk.match_below.Goals as goal

-- the owner of the SOA is the apex, which a zone keeps in lower case
pub below-sought-requires-clause-top : goal.below-sought-requires-clause-top
below-sought-requires-clause-top g c =
    c.stored-top.ensures ∙ c.stored_owner.ensures.folded ∙ ap fold_name (c.stored_owner.ensures.of ∙ ap owner_of c.requires.soa ∙ sym c.apex.ensures)

pub below-sought-requires-clause-under : goal.below-sought-requires-clause-under
below-sought-requires-clause-under g c =
    subst (λ (n : List (List ℕ)). is_under c.args.name.now n ≡ true) (sym c.apex.ensures) c.requires.under

pub match_sought-requires-clause-top : goal.match_sought-requires-clause-top
match_sought-requires-clause-top g c = c.stored-top.ensures ∙ c.stored_owner.ensures.of ∙ ap owner_of c.requires.soa
