-- What is held at first is the first version alone.
use Rattle.std.proofs.Common.{rules, arith, ◌≡◌, sym, ap, ◌∙◌, subst}
use Rattle.zone_tree.specs.Version.{Version}
use Rattle.dns_engine.specs.Versions.{AreNext}
use Rattle.dns_engine.specs.Held.{Held, EngineState, held_alone, held_through}
use Rattle.dns_engine.proofs.engine.Engine.resume.Goals as goal

pub publish_all-requires : goal.publish_all-requires
publish_all-requires g c =
    let last : c.count-sure.new.self.held.last ≡ c.args.publisher.value =
    ap (λ (s : EngineState). s.held.last) c.count-sure.ensures ∙ ap (λ (s : EngineState). s.held.last) c.in_ok-engine.ensures.made in (
      search rules,
      (
        omega (arith, ap (λ (s : EngineState). s.free) c.count-sure.ensures, c.if-sure-len.false, c.len.ensures, c.args.later.ok.0),
        subst (λ (v : Version). AreNext v c.args.later.items) (sym last) c.requires.follow,
      ),
    )

pub returns-clause-held : goal.returns-clause-held
returns-clause-held g c =
    let held : c.count-sure.new.self.held ≡ held_alone c.args.publisher.published c.args.publisher.value c.args.keep =
    ap (λ (s : EngineState). s.held) c.count-sure.ensures ∙ ap (λ (s : EngineState). s.held) c.in_ok-engine.ensures.made in
    c.publish_all.ensures.held ∙ ap (λ (h : Held). held_through h c.args.later.items) held

pub returns-clause-left : goal.returns-clause-left
returns-clause-left g c =
    omega (arith, c.publish_all.ensures.left, ap (λ (s : EngineState). s.left) c.count-sure.ensures, ap (λ (s : EngineState). s.left) c.in_ok-engine.ensures.made)

-- where it isn't sure to publish so many, none is published, and there are some
pub returns-then-sure-len-clause-given_back : goal.returns-then-sure-len-clause-given_back
returns-then-sure-len-clause-given_back g c =
    c.finish-publisher.ensures.publisher.0 ∙ ap (λ (s : EngineState). s.held.published) c.count-sure.ensures ∙ ap (λ (s : EngineState). s.held.published) c.in_ok-engine.ensures.made
