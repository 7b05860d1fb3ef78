-- The store that a start has given goes on.
use Rattle.std.proofs.Common.{◌≡◌, ◌<◌, ℕ, List, [], length, min, All, sym, ap, ◌∙◌, subst}
use Rattle.zone_tree.specs.Version.{Version}
use Rattle.dns_engine.specs.Held.{KEPT}
use Rattle.journal.specs.Batch.{request_octets}
use Rattle.journal.specs.Frame.{body_limit}
use Rattle.store_compaction.specs.RecentUpdates.{RecentState, followed}
use Rattle.store_compaction.specs.Writer.{recent_of}
use Rattle.store_server.specs.declared.resume.OpenStore.{OpenStore}
use Rattle.store_server.specs.OpenStore.{WritesOn}
use Rattle.store_server.proofs.ResumedLemmas.{has_fit, has_many, writes_on, followed_keep}
use Rattle.store_server.proofs.start_versions.resume_store.Goals as goal

pub recent_of-requires-clause-short : goal.recent_of-requires-clause-short
recent_of-requires-clause-short g c =
    subst (All (λ messages. length (request_octets messages) < body_limit)) (sym c.deref-2.ensures.value) (has_fit c.args.store c.requires)

pub recent_of-requires-clause-many : goal.recent_of-requires-clause-many
recent_of-requires-clause-many g c =
    ap length (c.deref.ensures.value ∙ c.in_ok-later.ensures) ∙ (has_many c.args.store c.requires ∙ ap length (sym c.deref-2.ensures.value))

pub returns-clause-writes : goal.returns-clause-writes
returns-clause-writes g c =
    let store : OpenStore = c.args.store in
    let keep : ℕ = min c.args.keep KEPT in
    let first : c.in-Some.first ≡ store.first = c.in-Some.ensures in
    let later : c.in_ok-later.later.items ≡ store.later.items = c.in_ok-later.ensures in
    let found = c.in_ok-recent.ensures in
    let recent : recent_of c.of.result ≡ followed (record { oldest = store.first; steps = []; keep = keep }) found.0 =
    c.of.ensures.recent ∙ (found.3 ∙ ap (λ (f : Version). followed (record { oldest = f; steps = []; keep = keep }) found.0) first) in
    let writes : WritesOn store.first store.later.items c.of.result =
    writes_on store keep found.0 c.of.result c.requires (found.1 ∙ (c.deref.ensures.value ∙ later))
    (found.2 ∙ c.deref-2.ensures.value) recent c.of.ensures.log c.of.ensures.head in
    subst (λ (f : Version). WritesOn f c.in_ok-later.later.items c.of.result) (sym first) (subst (λ (l : List Version). WritesOn store.first l c.of.result) (sym later) writes)

pub returns-clause-keep : goal.returns-clause-keep
returns-clause-keep g c =
    let found = c.in_ok-recent.ensures in
    let begun : RecentState = record { oldest = c.in-Some.first; steps = []; keep = min c.args.keep KEPT } in
    ap (λ (t : RecentState). t.keep) (c.of.ensures.recent ∙ found.3) ∙ followed_keep begun found.0

pub returns-clause-recent : goal.returns-clause-recent
returns-clause-recent g c =
    let store : OpenStore = c.args.store in
    let keep : ℕ = min c.args.keep KEPT in
    let first : c.in-Some.first ≡ store.first = c.in-Some.ensures in
    let later : c.in_ok-later.later.items ≡ store.later.items = c.in_ok-later.ensures in
    let found = c.in_ok-recent.ensures in (
      found.0,
      found.1 ∙ (c.deref.ensures.value ∙ later),
      found.2 ∙ c.deref-2.ensures.value,
      c.of.ensures.recent ∙ (found.3 ∙ ap (λ (f : Version). followed (record { oldest = f; steps = []; keep = keep }) found.0) first),
    )
