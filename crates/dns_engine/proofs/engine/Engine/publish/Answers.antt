-- A version is published as one that several can own.
use Rattle.std.proofs.Common.{◌≡◌, ◌<◌, subst}
use Rattle.std.specs.Bool.{OnTrue}
use Rattle.zone_tree.specs.Version.{Version}
use Rattle.dns_engine.specs.Held.{state_with}
use Rattle.dns_engine.proofs.FreeLemmas.{published_or_same}
use Rattle.dns_engine.proofs.engine.Engine.publish.Goals as goal

pub returns : goal.returns
returns g c =
    let call = c.publish_shared in
    let published = subst (λ (v : Version). OnTrue call.result (call.new.self ≡ state_with c.args.self.now v)) c.in-Some.ensures call.ensures.published in
    published_or_same (0 < c.args.self.now.left) (call.new.self ≡ state_with c.args.self.now c.args.version) (call.new.self ≡ c.args.self.now) call.result call.ensures.grant published call.ensures.same
