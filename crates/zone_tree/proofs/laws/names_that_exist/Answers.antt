-- By the test of each record.
use Rattle.std.proofs.Common.{get_or}
use Rattle.std.proofs.lemmas.List.Folds.{Any-from_list_any, list_any-from_Any, list_any_at}
use Rattle.dns_name.specs.Name.{is_under}
use Rattle.zone_tree.proofs.LawLemmas.{under_itself, ancestors_exist}
use Rattle.zone_tree.proofs.laws.names_that_exist.Goals as goal

pub returns-clause-at_or_below : goal.returns-clause-at_or_below
returns-clause-at_or_below c zone name = (Any-from_list_any (λ r. is_under r.owner name) zone, list_any-from_Any (λ r. is_under r.owner name) zone)

pub returns-clause-owners : goal.returns-clause-owners
returns-clause-owners c zone k d l = list_any_at (λ r. is_under r.owner (get_or zone k d).owner) zone k d l (under_itself (get_or zone k d).owner)

pub returns-clause-ancestors : goal.returns-clause-ancestors
returns-clause-ancestors c = ancestors_exist
