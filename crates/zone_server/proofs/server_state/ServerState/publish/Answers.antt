-- What an update makes from the last version may be published after it, and what is told stays so.
use Rattle.std.proofs.Common.{rules, ◌≡◌, ◌<◌, ℕ, sym, subst, arith}
use Rattle.zone_tree.specs.Version.{Version}
use Rattle.dns_engine.specs.Versions.{Makes}
use Rattle.dns_engine.specs.Held.{EngineState}
use Rattle.update_batches.specs.Engine.{IsLast}
use Rattle.update_batches.proofs.BatchLemmas.{last_once}
use Rattle.zone_server.specs.Right.{AreCounted}
use Rattle.zone_server.proofs.StateLemmas.{tickets_with}
use Rattle.zone_server.proofs.CountedLemmas.{counted_with}
use Rattle.zone_server.proofs.server_state.ServerState.publish.Goals as goal

pub publish_next-requires : goal.publish_next-requires
publish_next-requires g c =
    let held = c.self.inside.engine.held in
    let made = c.requires.made in
    let latest = c.learn_latest.ensures.latest in
    let is_last = subst (λ (s : EngineState). IsLast s.held.published made.0) (sym c.self.view_is) made.2 in
    let same : made.0 ≡ held.last = last_once held.published made.0 held.last is_last (latest.before, latest.ends) in
    let whole : c.args.right.now.reserved.amount ≡ c.self.inside.reserved.total = c.audit.ensures.whole (search rules) in
    let free : 0 < c.self.inside.engine.free = omega (arith, c.requires.room, whole, c.self.invariant.1.reserved_fit) in (
      search rules,
      (free, record { update = made.1.update; makes = subst (λ (v : Version). Makes made.1.update v c.args.version) same made.3 }),
    )

pub invariant_of-self : goal.invariant_of-self
invariant_of-self g c = (
  tickets_with g.Z.FirstZone.zone c.self.inside.engine c.publish_next.new.self c.args.version c.self.inside.replies.tickets.items c.publish_next.ensures c.learn_latest-2.ensures.latest c.self.invariant.0,
  counted_with c.self.inside.engine c.publish_next.new.self c.args.version c.self.inside.published.total c.audit.new.self.total c.add.new.self.total c.sub.new.self.total c.publish_next.ensures c.add.ensures.total c.sub.ensures.total
      (subst (λ (n : ℕ). AreCounted c.self.inside.engine c.self.inside.published.total n) (sym c.audit.ensures.total) c.self.invariant.1),
)
