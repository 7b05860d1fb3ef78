use Rattle.std.proofs.Common.{◌≡◌, ap, sym, ◌∙◌, subst}
use Rattle.std.specs.List.{All}
use Rattle.snapshot_cell.specs.Tokens.{published_in, limited_reader}
use Rattle.snapshot_cell.proofs.TokenLemmas.{first_token}
use Rattle.snapshot_cell.proofs.cell.Cell.new_limited.Goals as goal

pub deal_rest-spare-requires-clause-whole : goal.deal_rest-spare-requires-clause-whole
deal_rest-spare-requires-clause-whole g c =
    let d = c.deal_all.ensures.dealing c.args.first c.in-Some.ensures.4 in
    (d.publishing, d.views_are, d.whole)

pub invariant_of-result-2 : goal.invariant_of-result-2
invariant_of-result-2 g c =
    let made = c.in-Some.ensures in
    let d = c.deal_all.ensures.dealing c.args.first made.4 in
    let rest = c.deal_rest-spare in
    let reported = rest.ensures.dealt d.publishing d.views_are in
    first_token g.C.Names.begins g.C.Follows.follows c.args.first c.of-last.result.value c.args.readers c.min.result c.in-Some.made.table.shared.table_id rest.new.badge.table_id rest.new.badge.id c.deal_all.new.badge.views rest.new.badge.views rest.result.table_id rest.result.views d c.requires c.of-last.ensures
    (rest.ensures.badges.0 ∙ c.deal_all.ensures.badge.0 ∙ made.2) (rest.ensures.badges.1 ∙ c.deal_all.ensures.badge.1 ∙ made.3) reported.0 (rest.ensures.badges.2 ∙ sym rest.ensures.badges.0) reported.1

pub returns-clause-publisher : goal.returns-clause-publisher
returns-clause-publisher g c =
    let made = c.in-Some.ensures in
    let d = c.deal_all.ensures.dealing c.args.first made.4 in
    let rest = c.deal_rest-spare in
    let reported = rest.ensures.dealt d.publishing d.views_are in
    let cell = rest.ensures.badges.0 ∙ c.deal_all.ensures.badge.0 ∙ made.2 in
    let published = ap published_in reported.0 ∙ d.published in
    λ i. record { cell = cell i; published = published i; number = 0; value = c.of-last.ensures i; readers = c.args.readers; noted = 0; ready = 0 }

pub returns-clause-readers : goal.returns-clause-readers
returns-clause-readers g c =
    let table = c.in-Some.made.table.shared.table_id in (
      subst (λ n. All (λ r. r ≡ limited_reader n table c.args.first) c.deal_all.new.readers.items) c.min.ensures
          (c.deal_all.ensures.readers c.args.first c.in-Some.ensures.4),
      c.deal_all.ensures.count,
    )
