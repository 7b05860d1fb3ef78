use Rattle.std.proofs.Common.{◌≡◌, ℕ, List, subst, suc, ◌-◌, ◌++◌, ◌∷◌, [], length, sym, ap, ◌∙◌, arith, length-append, false}
use Rattle.std.proofs.lemmas.List.{length-map}
use Rattle.dns_name.specs.Name.{fold_name}
use Rattle.lookup_core.specs.Look.{look, owned_by}
use Rattle.lookup_core.specs.Chain.{Stop}
use Rattle.lookup_core.specs.Shown.{end_shown, look_shown, HasItsServers, IsOnTheWay}
use Rattle.lookup_core.proofs.AliasLemmas.{goes_on, stops, ends_there, runs_out, shown_alone, target-owned_by, not_outside, Ends, folded-first, folded-next, is_alias, no_alias}
use Rattle.lookup_core.proofs.LawLemmas.{rtype_of-alias, some-alias}
use Rattle.lookup_core.proofs.aliases.follow_on.Goals as goal

pub loop-init : goal.loop-init
loop-init g c = record {
  way = λ more all. subst (λ n. IsOnTheWay (g.Z.ZoneRead.records c.args.zone.now) c.args.name.now c.args.rtype.0 c.args.aliases.now.items n c.args.first) (let e : 15 ≡ more = omega arith in e) c.requires.way;
  count = sym (length-map c.args.aliases.now.items (λ alias. alias.owner)) ∙ ap length c.requires.one;
  names = c.push.ensures.items ∙ folded-first c.args.aliases.now.items c.args.name.now c.fold.result c.new-names.result.items c.requires.one c.new-names.ensures c.fold.ensures.folded;
  folded = c.fold-folded.ensures.folded ∙ ap fold_name c.to_name.ensures;
  seen = c.requires.seen;
  servers = c.requires.servers;
}

-- something else than an alias is found
pub returns-in_default : goal.returns-in_default
returns-in_default g c =
    let other : is_alias (look_shown c.loop.searched c.loop.found) ≡ false = no_alias c.loop.searched c.loop.found c.in_default.not-Alias in
    let whole : Ends (g.Z.ZoneRead.records c.args.zone.now) c.args.name.now c.args.rtype.0 c.loop.aliases.items (end_shown c.end_of.result) =
    ends_there (g.Z.ZoneRead.records c.args.zone.now) c.args.name.now c.args.rtype.0 c.loop.aliases.items (15 - c.loop.counter) c.loop.searched (look_shown c.loop.searched c.loop.found) (end_shown c.end_of.result)
    (c.loop.invariant.way (suc (15 - c.loop.counter)) (omega arith)) c.loop.invariant.seen other c.end_of.ensures.end
    in
    record { chain = sym whole.chain; few = omega arith; some = whole.some; servers = c.end_of.ensures.servers (g.Z.ZoneRead.records c.args.zone.now) c.loop.invariant.servers }

pub target-target-requires : goal.target-target-requires
target-target-requires g c =
    let seen = sym c.loop.invariant.seen ∙ ap (look_shown c.loop.searched) c.in-Alias.is in
    rtype_of-alias (g.Z.ZoneRead.records c.args.zone.now) c.loop.searched c.args.rtype.0 c.in-Alias.alias.now seen

-- the alias found is the last one, since its target isn't searched
pub returns-then-is_final_among : goal.returns-then-is_final_among
returns-then-is_final_among g c =
    let zone = g.Z.ZoneRead.records c.args.zone.now in
    let seen = sym c.loop.invariant.seen ∙ ap (look_shown c.loop.searched) c.in-Alias.is in
    let kept = c.as_slice.ensures.value ∙ c.push-in-loop-2.ensures.items ∙ folded-next c.loop.aliases.items c.under.result c.loop.names.items c.loop.folded c.loop.searched c.loop.invariant.names c.loop.invariant.folded c.under.ensures.owner in
    let whole : Ends zone c.args.name.now c.args.rtype.0 (c.loop.aliases.items ++ c.under.result ∷ []) Stop =
    stops zone c.args.name.now c.args.rtype.0 c.loop.aliases.items (15 - c.loop.counter) c.loop.searched c.under.result (owned_by c.loop.searched c.in-Alias.alias.now) c.target-target.result
    (c.loop.invariant.way (suc (15 - c.loop.counter)) (omega arith)) seen
    (shown_alone c.loop.searched c.under.result c.from_ref.result.now c.in-Alias.alias.now c.under.ensures.owner c.under.ensures.records c.from_ref.ensures.value (some-alias zone c.loop.searched c.args.rtype.0 (owned_by c.loop.searched c.in-Alias.alias.now) seen))
    (c.target-target.ensures ∙ sym (target-owned_by c.loop.searched c.in-Alias.alias.now))
    (let said = c.is_final_among.ensures (c.loop.aliases.items ++ c.under.result ∷ []) kept in let h = rw c.to_name-next.ensures at said in sym h ∙ c.if-is_final_among.true)
    in
    record {
      chain = rw c.push-in-loop.ensures.items (sym whole.chain);
      few = rw c.push-in-loop.ensures.items (omega (arith, length-append c.loop.aliases.items, c.loop.invariant.count));
      some = rw c.push-in-loop.ensures.items whole.some;
      servers = tt;
    }

-- a target that is searched is at or below the apex
pub look_below-found-requires-clause-under : goal.look_below-found-requires-clause-under
look_below-found-requires-clause-under g c =
    let kept = c.as_slice.ensures.value ∙ c.push-in-loop-2.ensures.items ∙ folded-next c.loop.aliases.items c.under.result c.loop.names.items c.loop.folded c.loop.searched c.loop.invariant.names c.loop.invariant.folded c.under.ensures.owner in
    let said = c.is_final_among.ensures (c.loop.aliases.items ++ c.under.result ∷ []) kept in
    not_outside _ _ (sym said ∙ c.if-is_final_among.false)

-- the alias found is the next one, and its target is searched
pub loop-preserved : goal.loop-preserved
loop-preserved g c =
    let zone = g.Z.ZoneRead.records c.args.zone.now in
    let seen = sym c.loop.invariant.seen ∙ ap (look_shown c.loop.searched) c.in-Alias.is in
    let next = folded-next c.loop.aliases.items c.under.result c.loop.names.items c.loop.folded c.loop.searched c.loop.invariant.names c.loop.invariant.folded c.under.ensures.owner in
    let kept = c.as_slice.ensures.value ∙ c.push-in-loop-2.ensures.items ∙ next in
    record {
      way = λ more all.
          rw c.push-in-loop.ensures.items
          (goes_on zone c.args.name.now c.args.rtype.0 c.loop.aliases.items more c.loop.searched c.under.result (owned_by c.loop.searched c.in-Alias.alias.now) c.target-target.result
          (c.loop.invariant.way (suc more) (omega arith)) seen
          (shown_alone c.loop.searched c.under.result c.from_ref.result.now c.in-Alias.alias.now c.under.ensures.owner c.under.ensures.records c.from_ref.ensures.value (some-alias zone c.loop.searched c.args.rtype.0 (owned_by c.loop.searched c.in-Alias.alias.now) seen))
          (c.target-target.ensures ∙ sym (target-owned_by c.loop.searched c.in-Alias.alias.now))
          (let said = c.is_final_among.ensures (c.loop.aliases.items ++ c.under.result ∷ []) kept in let h = rw c.to_name-next.ensures at said in sym h ∙ c.if-is_final_among.false));
      count = rw c.push-in-loop.ensures.items (omega (arith, length-append c.loop.aliases.items, c.loop.invariant.count));
      names = rw c.push-in-loop.ensures.items (c.push-in-loop-2.ensures.items ∙ next);
      folded = c.fold-folded-in-loop.ensures.folded ∙ ap fold_name c.to_name-next.ensures;
      seen = subst (λ (n : List (List ℕ)). look_shown n c.look_below-found.result ≡ look zone n c.args.rtype.0) c.to_name-next.ensures c.look_below-found.ensures.look;
      servers = subst (λ (n : List (List ℕ)). HasItsServers zone n c.look_below-found.result) c.to_name-next.ensures c.look_below-found.ensures.servers;
    }

-- as many aliases were followed as may be
pub returns : goal.returns
returns g c =
    let whole : Ends (g.Z.ZoneRead.records c.args.zone.now) c.args.name.now c.args.rtype.0 c.loop.aliases.items Stop =
    runs_out (g.Z.ZoneRead.records c.args.zone.now) c.args.name.now c.args.rtype.0 c.loop.aliases.items c.loop.searched (c.loop.invariant.way 0 (omega arith))
    in
    record { chain = sym whole.chain; few = omega arith; some = whole.some; servers = tt }
