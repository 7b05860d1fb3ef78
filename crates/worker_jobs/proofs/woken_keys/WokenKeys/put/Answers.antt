-- There is room for each that isn't told yet.
use Rattle.std.proofs.Common.{◌≡◌, ◌==◌, ℕ, ◌≤◌, false, List, sym, ap, ◌∙◌, subst, arith}
use Rattle.std.specs.List.{list_any}
use Rattle.worker_jobs.specs.WokenKeys.{AreWoken}
use Rattle.worker_jobs.proofs.WokenLemmas.{told_more, room_for}
use Rattle.worker_jobs.proofs.woken_keys.WokenKeys.put.Goals as goal

pub push_reserved-requires : goal.push_reserved-requires
push_reserved-requires c =
    let fresh : list_any (λ (other : ℕ). other == c.args.key) c.self.inside.keys.items ≡ false = ap (list_any (λ (other : ℕ). other == c.args.key)) (sym c.deref.ensures.value) ∙ sym c.contains.ensures.value ∙ c.if-not-contains.true in
    omega (arith, room_for c.self.inside.most c.args.key c.self.inside.keys.items c.self.invariant.0 c.if-key-self.true fresh, c.self.invariant.1, c.self.inside.keys.ok.0)

pub invariant_of-self : goal.invariant_of-self
invariant_of-self c =
    let fresh : list_any (λ (other : ℕ). other == c.args.key) c.self.inside.keys.items ≡ false = ap (list_any (λ (other : ℕ). other == c.args.key)) (sym c.deref.ensures.value) ∙ sym c.contains.ensures.value ∙ c.if-not-contains.true in (
      subst (λ (l : List ℕ). AreWoken c.self.inside.most l) (sym c.push_reserved.ensures.items) (told_more c.self.inside.most c.args.key c.self.inside.keys.items c.self.invariant.0 c.if-key-self.true fresh),
      subst (λ (n : ℕ). c.self.inside.most ≤ n) (sym c.push_reserved.ensures.capacity) c.self.invariant.1,
    )
