use Rattle.std.proofs.Common.{arith, ◌∙◌}
use Rattle.tsig.proofs.ListLemmas.{same_behind}
use Rattle.tsig.proofs.without_tsig.write_without_tsig.Goals as goal

pub returns-clause-behind : goal.returns-clause-behind
returns-clause-behind c =
    c.put_at.ensures.behind
    ∙ same_behind _ _ c.put_at-at-3.result c.put_at.result c.put_at-at-3.ensures.behind (omega (arith, c.put_at.ensures.next))
    ∙ same_behind _ _ c.put_at-at-2.result c.put_at.result c.put_at-at-2.ensures.behind (omega (arith, c.put_at.ensures.next, c.put_at-at-3.ensures.next))
    ∙ same_behind _ _ c.put_at-at.result c.put_at.result c.put_at-at.ensures.behind (omega (arith, c.put_at.ensures.next, c.put_at-at-3.ensures.next, c.put_at-at-2.ensures.next))
