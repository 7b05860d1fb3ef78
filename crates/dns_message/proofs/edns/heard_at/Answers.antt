use Rattle.std.proofs.Common.{sym, ◌∙◌}
use Rattle.dns_message.proofs.ReadLemmas.{IsPassed-at, not_passed}
use Rattle.dns_message.proofs.OptLemmas.{HearsAt-other, HearsAt-more, HearsAt-found}
use Rattle.dns_message.proofs.edns.heard_at.Goals as goal

pub returns-in_err-rtype : goal.returns-in_err-rtype
returns-in_err-rtype c = rw c.from_residual.ensures (not_passed _ _ _ c.type_at.ensures c.in_err-rtype.was)

pub returns-then-ne : goal.returns-then-ne
returns-then-ne c = HearsAt-other _ _ _ _ _ (IsPassed-at _ _ _ _ _ c.type_at.ensures c.in_ok-rtype.was) (sym c.ne.ensures ∙ c.if-ne.true)

pub returns-in-None : goal.returns-in-None
returns-in-None c = HearsAt-found _ _ _ _ _ _ (IsPassed-at _ _ _ _ _ c.type_at.ensures c.in_ok-rtype.was) (sym c.ne.ensures ∙ c.if-ne.false) (sym c.do_bit_of.ensures ∙ c.in-None.is) c.heard_first.ensures

pub returns-in-Some : goal.returns-in-Some
returns-in-Some c =
    HearsAt-more _ _ _ _ _ _ _ (IsPassed-at _ _ _ _ _ c.type_at.ensures c.in_ok-rtype.was) (sym c.ne.ensures ∙ c.if-ne.false) (sym c.do_bit_of.ensures ∙ c.in-Some.is) c.too_many.ensures
