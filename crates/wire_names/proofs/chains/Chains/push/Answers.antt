use Rattle.std.proofs.Common.{rules, ◌≡◌, ◌≤◌, ◌+◌, ◌⊎◌, inl, inr, ℕ, ◌∷◌, ◌++◌, [], length, set, get_or, subst, arith}
use Rattle.wire_names.specs.Chains.{AreChained}
use Rattle.wire_names.proofs.ChainLemmas.{chained_more, chained_alone}
use Rattle.wire_names.proofs.chains.Chains.push.Goals as goal

pub returns-then-parent-lt-CHAINS : goal.returns-then-parent-lt-CHAINS
returns-then-parent-lt-CHAINS c = λ entries entry chained len own low.
    let newest = c.args.self.now.newest in
    let older = c.args.self.now.older in
    let wide : length newest ≡ 258 = search rules in
    let long : length older ≡ 256 = search rules in
    let few = c.requires.few in
    let small = c.if-parent-lt-CHAINS.true in
    let range : (c.args.parent ≤ length entries + 1) ⊎ (c.args.parent ≡ 257) = elim low [ inl a ↦ inl (omega arith) | inr b ↦ inr (omega arith) ] in
    subst (λ (n : ℕ). AreChained (entries ++ entry ∷ []) (set (set newest (n + 1) 256) c.args.parent n) (set older n (get_or (set newest (n + 1) 256) c.args.parent 0))) len
    (chained_more entries entry newest older chained (omega arith) wide c.args.parent own range long)

pub returns-else-parent-lt-CHAINS : goal.returns-else-parent-lt-CHAINS
returns-else-parent-lt-CHAINS c = λ entries entry chained len own low.
    let newest = c.args.self.now.newest in
    let wide : length newest ≡ 258 = search rules in
    let few = c.requires.few in
    subst (λ (n : ℕ). AreChained (entries ++ entry ∷ []) (set newest (n + 1) 256) c.args.self.now.older) len
    (chained_alone entries entry newest c.args.self.now.older chained (omega arith) wide c.args.parent own c.if-parent-lt-CHAINS.false)
