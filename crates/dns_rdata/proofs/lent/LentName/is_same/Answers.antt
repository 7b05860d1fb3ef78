use Rattle.std.proofs.Common.{List, ℕ, sym, ap, subst, ◌∙◌}
use Rattle.dns_name.specs.Name.{IsName, is_same}
use Rattle.dns_rdata.proofs.lent.LentName.is_same.Goals as goal

pub is_spelt_by-requires-clause-lawful : goal.is_spelt_by-requires-clause-lawful
is_spelt_by-requires-clause-lawful c = subst IsName (sym c.in-Some.ensures.labels) c.in-Some.ensures.lawful

pub returns-in-Some : goal.returns-in-Some
returns-in-Some c = c.is_spelt_by.ensures ∙ ap (λ (own : List (List ℕ)). is_same own c.args.name.now) c.in-Some.ensures.labels

pub returns-in-None : goal.returns-in-None
returns-in-None c = c.eq.ensures ∙ ap (λ (own : List (List ℕ)). is_same own c.args.name.now) c.to_name.ensures
