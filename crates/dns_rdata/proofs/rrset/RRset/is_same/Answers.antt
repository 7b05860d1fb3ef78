use Rattle.std.proofs.Common.{sym, ◌∙◌}
use Rattle.dns_rdata.proofs.SameLemmas.{owners_differ, rtypes_differ, ttls_differ, data_decide}
use Rattle.dns_rdata.proofs.rrset.RRset.is_same.Goals as goal

pub returns-then-ne : goal.returns-then-ne
returns-then-ne c = owners_differ _ _ _ _ _ _ _ _ _ _ c.self.view_is c.other.view_is c.self.invariant c.other.invariant (sym c.if-ne.true ∙ c.ne.ensures)

pub returns-then-ne-2 : goal.returns-then-ne-2
returns-then-ne-2 c = rtypes_differ _ _ _ _ _ _ _ _ _ _ c.self.view_is c.other.view_is c.self.invariant c.other.invariant (sym c.if-ne-2.true ∙ c.ne-2.ensures)

pub returns-then-ne-3 : goal.returns-then-ne-3
returns-then-ne-3 c = ttls_differ _ _ _ _ _ _ _ _ _ _ c.self.view_is c.other.view_is c.self.invariant c.other.invariant (sym c.if-ne-3.true ∙ c.ne-3.ensures)

pub returns : goal.returns
returns c =
    data_decide _ _ _ _ _ _ _ _ _ _ c.self.view_is c.other.view_is c.self.invariant c.other.invariant (sym c.if-ne.false ∙ c.ne.ensures) (sym c.if-ne-2.false ∙ c.ne-2.ensures) (sym c.if-ne-3.false ∙ c.ne-3.ensures) c.are_same.result
    (rw (sym c.deref.ensures, sym c.deref-2.ensures) c.are_same.ensures)
