-- The version that an update makes is published.
use Rattle.std.proofs.Common.{rules, ◌≡◌, sym, ◌∙◌, subst, None}
use Rattle.zone_tree.specs.Version.{Version}
use Rattle.update_core.specs.Verdict.{verdict}
use Rattle.dns_engine.specs.Versions.{Makes}
use Rattle.dns_engine.specs.Outcomes.{made}
use Rattle.dns_engine.proofs.OutcomeLemmas.{made_of, next_told, next_code}
use Rattle.dns_engine.proofs.engine.Engine.update.Goals as goal

pub publish-requires : goal.publish-requires
publish-requires g c =
    let next = c.in-Some.version in
    let reported = next_told c.last_version.result.now next c.args.update.now c.args.may c.apply-outcome.result c.apply-outcome.ensures.reported (sym c.next.ensures ∙ c.in-Some.is) in
    let makes = subst (λ (v : Version). Makes c.args.update.now v next) c.last_version.ensures (made_of c.last_version.result.now next c.args.update.now c.args.may reported) in
    (search rules, (search rules, record { update = c.args.update.now; makes = makes }))

pub returns-then-publish-clause-reported : goal.returns-then-publish-clause-reported
returns-then-publish-clause-reported g c =
    let next = c.in-Some.version in
    let is = sym c.next.ensures ∙ c.in-Some.is in
    let reported = next_told c.last_version.result.now next c.args.update.now c.args.may c.apply-outcome.result c.apply-outcome.ensures.reported is in
    let makes = subst (λ (v : Version). Makes c.args.update.now v next) c.last_version.ensures (made_of c.last_version.result.now next c.args.update.now c.args.may reported) in
    let taken = subst (λ (v : Version). verdict v.zone c.args.update.now c.args.may ≡ None) c.last_version.ensures reported.0 in
    made next taken makes (c.code-code.ensures ∙ next_code next c.apply-outcome.result is) c.if-publish.ensures.0 c.if-publish.ensures.1
