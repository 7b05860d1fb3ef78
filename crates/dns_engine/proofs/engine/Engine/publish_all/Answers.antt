-- One version more is published.
use Rattle.std.proofs.Common.{rules, arith, refl, ◌+◌, ◌-◌, ◌++◌, ◌∷◌, [], List, length, append_assoc, sym, ap, ◌∙◌, subst}
use Rattle.std.proofs.lemmas.List.{length_push}
use Rattle.std.specs.Vec.Iter.{into_iter_items}
use Rattle.zone_tree.specs.Version.{Version}
use Rattle.dns_engine.specs.Versions.{AreNext}
use Rattle.dns_engine.specs.Held.{Held, EngineState, held_with, held_through}
use Rattle.dns_engine.proofs.ThroughLemmas.{all_taken, through_more}
use Rattle.dns_engine.proofs.engine.Engine.publish_all.Goals as goal

pub loop-version-init : goal.loop-version-init
loop-version-init g c =
    let items = c.into_iter-version-iterator.ensures.into_iter_gives.0 in
    record {
      all = items;
      held = refl;
      left = omega arith;
      free = omega (arith, c.requires.free, ap length items);
      follow = subst (λ (l : List Version). AreNext c.args.self.now.held.last l) (sym items) c.requires.follow;
    }

pub publish_next-requires : goal.publish_next-requires
publish_next-requires g c = (
  search rules,
  (
    omega (arith, c.loop-version.invariant.free, ap length c.in-Some.ensures.steps.0),
    (subst (λ (l : List Version). AreNext c.loop-version.self.held.last l) c.in-Some.ensures.steps.0 c.loop-version.invariant.follow).0,
  ),
)

pub loop-version-preserved : goal.loop-version-preserved
loop-version-preserved g c =
    let version = c.in-Some.version in
    let rest = into_iter_items c.next.new.self in
    let yielded = c.loop-version.yielded in
    let taken = c.in-Some.ensures.steps.0 in
    let is = c.publish_next.ensures in
    let first : Held = c.args.self.now.held in
    let behind : AreNext version rest = (subst (λ (l : List Version). AreNext c.loop-version.self.held.last l) taken c.loop-version.invariant.follow).1 in
    record {
      all = append_assoc yielded (version ∷ []) rest ∙ ap (λ (l : List Version). yielded ++ l) (sym taken) ∙ c.loop-version.invariant.all;
      held =
          ap (λ (s : EngineState). s.held) is ∙ ap (λ (h : Held). held_with h version) c.loop-version.invariant.held ∙ sym (through_more first yielded version);
      left = omega (arith, ap (λ (s : EngineState). s.left) is, c.loop-version.invariant.left, length_push yielded version);
      free = omega (arith, ap (λ (s : EngineState). s.free) is, c.loop-version.invariant.free, ap length taken);
      follow = subst (λ (v : Version). AreNext v rest) (sym (ap (λ (s : EngineState). s.held.last) is)) behind;
    }

pub returns-clause-held : goal.returns-clause-held
returns-clause-held g c =
    let all = all_taken c.loop-version.yielded (into_iter_items c.loop-version.version-iterator) c.args.later.items c.loop-version.invariant.all
    (sym c.loop-version.version-iterator.rest.ok.0 ∙ c.in-None.ensures.steps.0) in
    c.loop-version.invariant.held ∙ ap (λ (l : List Version). held_through c.args.self.now.held l) all

pub returns-clause-left : goal.returns-clause-left
returns-clause-left g c =
    let all = all_taken c.loop-version.yielded (into_iter_items c.loop-version.version-iterator) c.args.later.items c.loop-version.invariant.all
    (sym c.loop-version.version-iterator.rest.ok.0 ∙ c.in-None.ensures.steps.0) in
    omega (arith, c.loop-version.invariant.left, ap length all)
