use Rattle.std.proofs.Common.{◌≡◌, ℕ, List, subst, ◌++◌, ◌∷◌, [], length, sym, ap, ◌∙◌, arith, false}
use Rattle.lookup_core.specs.Look.{look, owned_by}
use Rattle.lookup_core.specs.Chain.{Stop}
use Rattle.lookup_core.specs.Shown.{end_shown, look_shown, HasItsServers, IsOnTheWay}
use Rattle.lookup_core.proofs.AliasLemmas.{begins, goes_on, stops, ends_there, shown_alone, target-owned_by, Ends, is_alias, no_alias}
use Rattle.lookup_core.proofs.LawLemmas.{rtype_of-alias, some-alias}
use Rattle.lookup_core.proofs.aliases.follow.Goals as goal

-- no alias is found
pub returns-in_default : goal.returns-in_default
returns-in_default g c =
    let zone = g.Z.ZoneRead.records c.args.zone.now in
    let at = c.spelt-asked.result in
    let way : IsOnTheWay zone c.args.name.now c.args.rtype.0 c.args.aliases.now.items 16 at = rw (c.requires.empty, c.spelt-asked.ensures) (begins zone c.args.name.now c.args.rtype.0 16 (omega arith)) in
    let seen : look_shown at c.args.first ≡ look zone at c.args.rtype.0 = subst (λ (n : List (List ℕ)). look_shown n c.args.first ≡ look zone n c.args.rtype.0) (sym c.spelt-asked.ensures) c.requires.seen in
    let other : is_alias (look_shown at c.args.first) ≡ false = no_alias at c.args.first c.in_default.not-Alias in
    let whole : Ends zone c.args.name.now c.args.rtype.0 c.args.aliases.now.items (end_shown c.end_of.result) =
    ends_there zone c.args.name.now c.args.rtype.0 c.args.aliases.now.items 15 at (look_shown at c.args.first) (end_shown c.end_of.result) way seen other c.end_of.ensures.end
    in
    record {
      chain = sym whole.chain;
      few = omega (arith, ap length c.requires.empty);
      some = whole.some;
      servers = c.end_of.ensures.servers zone (subst (λ (n : List (List ℕ)). HasItsServers zone n c.args.first) (sym c.spelt-asked.ensures) c.requires.servers);
    }

pub target-target-requires : goal.target-target-requires
target-target-requires g c =
    let zone = g.Z.ZoneRead.records c.args.zone.now in
    let at = c.spelt-asked.result in
    let first : look_shown at c.args.first ≡ look zone at c.args.rtype.0 = subst (λ (n : List (List ℕ)). look_shown n c.args.first ≡ look zone n c.args.rtype.0) (sym c.spelt-asked.ensures) c.requires.seen in
    rtype_of-alias zone at c.args.rtype.0 c.in-Alias.alias.now (sym first ∙ ap (look_shown at) c.in-Alias.is)

-- the alias found is the last one, since its target isn't searched
pub returns-then-is_final-clause-chain : goal.returns-then-is_final-clause-chain
returns-then-is_final-clause-chain g c =
    let zone = g.Z.ZoneRead.records c.args.zone.now in
    let at = c.spelt-asked.result in
    let way : IsOnTheWay zone c.args.name.now c.args.rtype.0 c.args.aliases.now.items 16 at = rw (c.requires.empty, c.spelt-asked.ensures) (begins zone c.args.name.now c.args.rtype.0 16 (omega arith)) in
    let first : look_shown at c.args.first ≡ look zone at c.args.rtype.0 = subst (λ (n : List (List ℕ)). look_shown n c.args.first ≡ look zone n c.args.rtype.0) (sym c.spelt-asked.ensures) c.requires.seen in
    let seen = sym first ∙ ap (look_shown at) c.in-Alias.is in
    let whole : Ends zone c.args.name.now c.args.rtype.0 (c.args.aliases.now.items ++ c.under.result ∷ []) Stop =
    stops zone c.args.name.now c.args.rtype.0 c.args.aliases.now.items 15 at c.under.result (owned_by at c.in-Alias.alias.now) c.target-target.result way seen
    (shown_alone at c.under.result c.from_ref.result.now c.in-Alias.alias.now c.under.ensures.owner c.under.ensures.records c.from_ref.ensures.value (some-alias zone at c.args.rtype.0 (owned_by at c.in-Alias.alias.now) seen))
    (c.target-target.ensures ∙ sym (target-owned_by at c.in-Alias.alias.now))
    (let h = rw (c.as_slice.ensures.value, c.push.ensures.items, c.to_name-next.ensures) at c.is_final.ensures in sym h ∙ c.if-is_final.true)
    in
    rw c.push.ensures.items (sym whole.chain)

-- the alias found is the first one, and its target is searched
pub follow_on-requires-clause-way : goal.follow_on-requires-clause-way
follow_on-requires-clause-way g c =
    let zone = g.Z.ZoneRead.records c.args.zone.now in
    let at = c.spelt-asked.result in
    let way : IsOnTheWay zone c.args.name.now c.args.rtype.0 c.args.aliases.now.items 16 at = rw (c.requires.empty, c.spelt-asked.ensures) (begins zone c.args.name.now c.args.rtype.0 16 (omega arith)) in
    let first : look_shown at c.args.first ≡ look zone at c.args.rtype.0 = subst (λ (n : List (List ℕ)). look_shown n c.args.first ≡ look zone n c.args.rtype.0) (sym c.spelt-asked.ensures) c.requires.seen in
    let seen = sym first ∙ ap (look_shown at) c.in-Alias.is in
    rw c.push.ensures.items
    (goes_on zone c.args.name.now c.args.rtype.0 c.args.aliases.now.items 15 at c.under.result (owned_by at c.in-Alias.alias.now) c.target-target.result way seen
    (shown_alone at c.under.result c.from_ref.result.now c.in-Alias.alias.now c.under.ensures.owner c.under.ensures.records c.from_ref.ensures.value (some-alias zone at c.args.rtype.0 (owned_by at c.in-Alias.alias.now) seen))
    (c.target-target.ensures ∙ sym (target-owned_by at c.in-Alias.alias.now))
    (let h = rw (c.as_slice.ensures.value, c.push.ensures.items, c.to_name-next.ensures) at c.is_final.ensures in sym h ∙ c.if-is_final.false))

-- something else than an alias is found at the target of the first one
pub returns-in_default-found : goal.returns-in_default-found
returns-in_default-found g c =
    let zone = g.Z.ZoneRead.records c.args.zone.now in
    let at = c.spelt-asked.result in
    let way : IsOnTheWay zone c.args.name.now c.args.rtype.0 c.args.aliases.now.items 16 at = rw (c.requires.empty, c.spelt-asked.ensures) (begins zone c.args.name.now c.args.rtype.0 16 (omega arith)) in
    let first : look_shown at c.args.first ≡ look zone at c.args.rtype.0 = subst (λ (n : List (List ℕ)). look_shown n c.args.first ≡ look zone n c.args.rtype.0) (sym c.spelt-asked.ensures) c.requires.seen in
    let seen = sym first ∙ ap (look_shown at) c.in-Alias.is in
    let next : IsOnTheWay zone c.args.name.now c.args.rtype.0 (c.args.aliases.now.items ++ c.under.result ∷ []) 15 c.target-target.result =
    goes_on zone c.args.name.now c.args.rtype.0 c.args.aliases.now.items 15 at c.under.result (owned_by at c.in-Alias.alias.now) c.target-target.result way seen
    (shown_alone at c.under.result c.from_ref.result.now c.in-Alias.alias.now c.under.ensures.owner c.under.ensures.records c.from_ref.ensures.value (some-alias zone at c.args.rtype.0 (owned_by at c.in-Alias.alias.now) seen))
    (c.target-target.ensures ∙ sym (target-owned_by at c.in-Alias.alias.now))
    (let h = rw (c.as_slice.ensures.value, c.push.ensures.items, c.to_name-next.ensures) at c.is_final.ensures in sym h ∙ c.if-is_final.false)
    in
    let there : look_shown c.target-target.result c.look_below-found.result ≡ look zone c.target-target.result c.args.rtype.0 =
    subst (λ (n : List (List ℕ)). look_shown n c.look_below-found.result ≡ look zone n c.args.rtype.0) c.to_name-next.ensures c.look_below-found.ensures.look
    in
    let whole : Ends zone c.args.name.now c.args.rtype.0 (c.args.aliases.now.items ++ c.under.result ∷ []) (end_shown c.end_of-in_default-found.result) =
    ends_there zone c.args.name.now c.args.rtype.0 (c.args.aliases.now.items ++ c.under.result ∷ []) 14 c.target-target.result (look_shown c.target-target.result c.look_below-found.result) (end_shown c.end_of-in_default-found.result)
    next there (no_alias c.target-target.result c.look_below-found.result c.in_default-found.not-Alias) c.end_of-in_default-found.ensures.end
    in
    record {
      chain = rw c.push.ensures.items (sym whole.chain);
      few = rw (c.push.ensures.items, c.requires.empty) (omega arith);
      some = rw c.push.ensures.items whole.some;
      servers = c.end_of-in_default-found.ensures.servers zone (subst (λ (n : List (List ℕ)). HasItsServers zone n c.look_below-found.result) c.to_name-next.ensures c.look_below-found.ensures.servers);
    }
