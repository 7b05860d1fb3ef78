use Rattle.std.proofs.Common.{◌≡◌, refl, subst, sym, ap, ◌∙◌, true, false, arith, append-nil}
use Rattle.dns_name.specs.Name.{fold_name, is_same}
use Rattle.dns_rdata.specs.Record.{owner_of}
use Rattle.zone_tree.specs.Filed.{AreGathered, AreBefore}
use Rattle.zone_tree.proofs.OwnerLemmas.{grown, all_before, same_last, weaker_ok, before_none}
use Rattle.zone_tree.proofs.owners.put_behind.Goals as goal

-- the set is the last owner's
pub returns-then-is_of : goal.returns-then-is_of
returns-then-is_of c = λ sets h before.
    let g = subst (λ l. AreGathered l sets) c.in-Some.ensures.items h in
    let folded : owner_of c.args.set ≡ fold_name (owner_of c.args.set) = subst (λ n. n ≡ fold_name n) c.stored_owner.ensures.of c.stored_owner.ensures.folded in
    let same : is_same c.in-Some.key (owner_of c.args.set) ≡ true = ap (is_same c.in-Some.key) (sym c.stored_owner.ensures.of) ∙ sym c.is_of.ensures ∙ c.if-is_of.true in
    rw c.in_ok-push-in-Some-2.ensures.items (grown _ _ _ sets c.args.set g refl c.in_ok-push-in-Some.ensures.ok (same_last _ _ (c.in-Some.key, c.in-Some.own) sets c.args.set g folded same))

-- the set is the first of an owner behind the last one
pub returns-in_ok-push-in-Some-3 : goal.returns-in_ok-push-in-Some-3
returns-in_ok-push-in-Some-3 c = weaker_ok c.put_new-in-Some.result
    (λ put sets h before.
    let g = subst (λ l. AreGathered l sets) c.in-Some.ensures.items h in
    let apart : is_same c.in-Some.key (owner_of c.args.set) ≡ false = ap (is_same c.in-Some.key) (sym c.stored_owner.ensures.of) ∙ sym c.is_of.ensures ∙ c.if-is_of.false in
    let same = sym c.in_ok-push-in-Some-3.ensures.items in
    put sets (subst (λ l. AreGathered l sets) same g) (subst (AreBefore (owner_of c.args.set)) same (all_before _ _ (c.in-Some.key, c.in-Some.own) sets c.args.set g before apart)))
    c.put_new-in-Some.ensures

-- the set is the first of all
pub returns-in-None : goal.returns-in-None
returns-in-None c = weaker_ok c.put_new.result
    (λ put sets h before. put sets (subst (λ l. AreGathered l sets) (c.in-None.ensures.items ∙ append-nil c.pop.new.self.items) h) (before_none (owner_of c.args.set) c.pop.new.self.items (omega (arith, c.in-None.ensures.cases, c.pop.new.self.ok.0))))
    c.put_new.ensures
