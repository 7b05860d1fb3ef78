use Rattle.std.proofs.Common.{◌∙◌, rules}
use Rattle.std.proofs.lemmas.Fn.{always_returns_same}
use Rattle.update_core.specs.Ordered.{sought_cmp, record_of}
use Rattle.update_core.proofs.SearchLemmas.{sought_found}
use Rattle.update_core.proofs.ordered.is_sent.Goals as goal

-- the closure compares records with the one sought
pub returns : goal.returns
returns c =
    let search_facts = c.binary_search_by.ensures in
    let by_order = search_facts.position (λ q. sought_cmp q (record_of c.args.owner.now c.args.rtype.0 c.args.octets.now)) (always_returns_same _ _ _ (λ a r f' called. search rules)) in
    c.is_ok.ensures.value ∙ sought_found c.args.list.now c.args.owner.now c.args.rtype.0 c.args.octets.now c.requires _ search_facts.bound by_order
