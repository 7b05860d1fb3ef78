-- All sets of one owner are replaced.
use Rattle.std.proofs.Common.{sym, ap, ◌∙◌}
use Rattle.dns_name.specs.Name.{canonical_cmp, fold_name}
use Rattle.shared_tree.specs.Pairs.{pairs_with, pairs_without}
use Rattle.zone_tree.proofs.OwnLemmas.{next_filed, next_records}
use Rattle.zone_tree.proofs.draft.with_sets.Goals as goal

pub returns-clause-filed : goal.returns-clause-filed
returns-clause-filed c =
    let pairs = c.args.owners.now.pairs in
    let folded = sym c.octets-octets.ensures.name ∙ c.octets-octets.ensures.stored.folded ∙ ap fold_name c.octets-octets.ensures.name in
    next_filed c.args.owner c.args.own c.requires.own pairs c.requires.filed c.in_ok-next.next.pairs
    (λ some. c.in_ok-next.ensures.kept some ∙ ap (λ k. pairs_with canonical_cmp k c.args.own pairs) folded) (λ none. c.in_ok-next.ensures.gone none ∙ ap (λ k. pairs_without canonical_cmp k pairs) folded)

pub returns-clause-records : goal.returns-clause-records
returns-clause-records c =
    let pairs = c.args.owners.now.pairs in
    let folded = sym c.octets-octets.ensures.name ∙ c.octets-octets.ensures.stored.folded ∙ ap fold_name c.octets-octets.ensures.name in
    next_records c.args.owner c.args.own c.requires.own pairs c.requires.filed c.in_ok-next.next.pairs
    (λ some. c.in_ok-next.ensures.kept some ∙ ap (λ k. pairs_with canonical_cmp k c.args.own pairs) folded) (λ none. c.in_ok-next.ensures.gone none ∙ ap (λ k. pairs_without canonical_cmp k pairs) folded)
