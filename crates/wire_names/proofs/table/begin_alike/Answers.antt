use Rattle.std.proofs.Common.{ℕ, ◌+◌, ap}
use Rattle.wire_names.proofs.FrontLemmas.{front_alike}
use Rattle.wire_names.proofs.table.begin_alike.Goals as goal

pub returns-in-Some-Some : goal.returns-in-Some-Some
returns-in-Some-Some c =
    front_alike c.args.octets.now c.args.others.now _ _ 2 c.args.len _ (ap (λ (n : ℕ). 1 + n) c.if-len-eq1.true) c.in-Some-Some.ensures'.cases.enough c.in-Some-Some.ensures.cases.same c.in-Some-Some.ensures'.cases.same c.eq.ensures

pub returns-in-Some-Some-2 : goal.returns-in-Some-Some-2
returns-in-Some-Some-2 c =
    front_alike c.args.octets.now c.args.others.now _ _ 3 c.args.len _ (ap (λ (n : ℕ). 1 + n) c.if-len-eq2.true) c.in-Some-Some-2.ensures'.cases.enough c.in-Some-Some-2.ensures.cases.same c.in-Some-Some-2.ensures'.cases.same c.eq-in-Some-Some-2.ensures
