-- So many slots are free, and grants, weak owners and numbers are left.
use Rattle.std.proofs.Common.{◌≡◌, sym, ap, ◌∙◌, arith}
use Rattle.zone_tree.specs.Version.{Version}
use Rattle.snapshot_cell.specs.Tokens.{PublisherState}
use Rattle.dns_engine.specs.Held.{EngineState, free_of, state_for}
use Rattle.dns_engine.proofs.engine.Engine.count.Goals as goal

pub invariant_of-self : goal.invariant_of-self
invariant_of-self g c =
    let held = c.self.invariant in
    let is = c.count.ensures in (
      held.0,
      ap (λ (p : PublisherState Version). p.published) is ∙ held.1,
      ap (λ (p : PublisherState Version). p.value) is ∙ held.2,
      ap (λ (p : PublisherState Version). p.number) is ∙ held.3,
      held.4,
      held.5,
    )

pub returns : goal.returns
returns g c =
    let inside = c.self.inside in
    let is = c.count.ensures in
    let ready : c.count.new.publisher.ready ≡ c.number-slots.result = ap (λ (p : PublisherState Version). p.ready) is ∙ sym c.number-slots.ensures in
    let noted : c.count.new.publisher.noted ≡ inside.publisher.noted = ap (λ (p : PublisherState Version). p.noted) is in
    let number = ap (λ (s : EngineState). s.held.last.number) c.self.view_is in
    let free : free_of c.count.new.publisher.ready inside.reader.left c.count.new.publisher.noted inside.last.value.number ≡ c.min-2.result =
    omega (arith, ready, noted, number) in
    (λ i. record { held = record { published = inside.reader.seen; last = inside.last.value; keep = inside.keep; older = inside.older }; left = inside.reader.left; free = free i })
    ∙ ap (λ (s : EngineState). state_for s c.min-2.result) c.self.view_is
