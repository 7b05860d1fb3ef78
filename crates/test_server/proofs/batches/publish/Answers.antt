-- What a batch makes is published, and its results hold then.
use Rattle.std.proofs.Common.{rules, ◌≡◌, ◌≤◌, ◌+◌, ◌++◌, ◌∙◌, List, ap, sym, subst, arith}
use Rattle.std.specs.Prelude.{vec_len, vec_capacity}
use Rattle.zone_tree.specs.Version.{Version}
use Rattle.update_batches.specs.declared.verdict.Verdict.{Verdict}
use Rattle.update_batches.specs.Batch.{versions_in}
use Rattle.zone_server.specs.declared.update_result.QueuedResult.{QueuedResult}
use Rattle.zone_server.specs.UpdateResult.{AreResults, queued_results}
use Rattle.test_server.proofs.DoneLemmas.{batch_judged, batch_done}
use Rattle.test_server.proofs.batches.publish.Goals as goal

pub publish_batch-requires : goal.publish_batch-requires
publish_batch-requires g c =
    let is = c.requires.judged in
    let batch = c.args.batch in (
      search rules,
      (
        c.requires.counted,
        (batch_judged g.Z.FirstZone.zone c.args.reader.now.seen is.0 is.2 is.1 c.args.requests.items batch.verdicts.items batch.updates.items is.4, c.requires.room),
      ),
    )

pub put_results-requires : goal.put_results-requires
put_results-requires g c =
    let is = c.requires.judged in
    let batch = c.args.batch in
    let first = g.Z.FirstZone.zone in
    let seen = c.args.reader.now.seen in
    let versions = versions_in batch.updates.items in
    let done : AreResults first (seen ++ versions) (queued_results batch.number batch.verdicts.items c.args.requests.items) =
    batch_done first seen is.0 is.2 is.1 c.args.requests.items batch.verdicts.items batch.updates.items is.4 batch.number is.3 in
    let results : c.in_ok-results.results.items ≡ queued_results batch.number batch.verdicts.items c.args.requests.items =
    c.in_ok-results.ensures ∙ ap (λ (vs : List Verdict). queued_results batch.number vs c.args.requests.items) c.deref.ensures.value in
    let capacity : c.len.result ≤ vec_capacity c.in_ok-outgoing.outgoing = search rules in
    let none : vec_len c.in_ok-outgoing.outgoing ≡ 0 = search rules in (
      search rules,
      (
        subst (λ (l : List Version). AreResults first l c.in_ok-results.results.items) (sym c.publish_batch.ensures.published)
            (subst (λ (rs : List QueuedResult). AreResults first (seen ++ versions) rs) (sym results) done),
        omega (arith, capacity, none, c.len.ensures),
      ),
    )
