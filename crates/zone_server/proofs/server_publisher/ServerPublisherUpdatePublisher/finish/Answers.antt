-- The versions of a batch are published after the last one, the result of each of its updates holds for them, and each reply is sent.
use Rattle.std.proofs.Common.{rules, ◌≡◌, ◌≤◌, ◌+◌, ◌++◌, List, length, take, map, ap, ◌∙◌, sym, subst, arith}
use Rattle.std.specs.Prelude.{vec_len, vec_capacity}
use Rattle.std.proofs.lemmas.List.{length-take}
use Rattle.zone_tree.specs.Version.{Version}
use Rattle.update_batches.specs.Engine.{IsLast}
use Rattle.update_batches.specs.Batch.{newest_of, versions_in}
use Rattle.update_batches.specs.Results.{AreDone}
use Rattle.zone_server.specs.declared.outgoing.Outgoing.{Outgoing}
use Rattle.zone_server.specs.declared.update_result.QueuedResult.{QueuedResult}
use Rattle.zone_server.specs.Brought.{Brought, brought_after, brought_for, brought_from, all_brought, AreReplies}
use Rattle.zone_server.specs.Met.{PublisherState}
use Rattle.zone_server.specs.UpdateResult.{AreResults}
use Rattle.zone_server.proofs.PublisherDoneLemmas.{queued_all, queued_replies, brought_all, results_long}
use Rattle.zone_server.proofs.PublisherMetLemmas.{judged_queued, judged_latest}
use Rattle.zone_server.proofs.server_publisher.ServerPublisherUpdatePublisher.finish.Goals as goal

pub finish_batch-requires : goal.finish_batch-requires
finish_batch-requires g c =
    let first = g.Z.FirstZone.zone in
    let t = c.self.inside in
    let seen = t.reader.seen in
    let versions = versions_in c.args.updates.items in
    let verdicts = c.args.verdicts.now in
    let batch = take c.args.count c.args.requests.now.items in
    let made = c.requires.made in
    let met = c.self.invariant.0 in
    let judged = judged_queued first seen t.last t.begun versions made.0 met (subst (λ (s : PublisherState). IsLast s.seen made.0) (sym c.self.view_is) made.1) made.2 in
    let latest = judged_latest first seen t.last t.begun versions met judged in
    let done = subst (λ (s : PublisherState). AreDone (s.seen ++ versions) s.begun verdicts batch) (sym c.self.view_is) c.requires.done in
    let results = queued_all first (seen ++ versions) (newest_of judged.0 versions) latest.0 t.begun latest.1 verdicts batch done in
    let long : length c.take_results.new.results.items ≡ length batch = ap length c.take_results.ensures.results ∙ results_long t.begun verdicts batch in
    let none : length t.outgoing.items ≡ 0 = ap length c.self.invariant.4 in
    let room : vec_len t.outgoing + vec_len c.take_results.new.results ≤ vec_capacity t.outgoing =
    omega (arith, t.outgoing.ok.0, none, c.take_results.new.results.ok.0, long, length-take c.args.count c.args.requests.now.items, c.requires.few, c.self.invariant.5) in (
      search rules,
      (
        c.self.invariant.1,
        (
          judged,
          (
            subst (λ (s : PublisherState). length c.args.updates.items ≤ s.room) (sym c.self.view_is) c.requires.room,
            (subst (λ (rs : List QueuedResult). AreResults first (seen ++ versions) rs) (sym c.take_results.ensures.results) results, room),
          ),
        ),
      ),
    )

pub returns-clause-brought : goal.returns-clause-brought
returns-clause-brought g c =
    let t = c.self.inside in
    let verdicts = c.args.verdicts.now in
    let batch = take c.args.count c.args.requests.now.items in
    let results = c.take_results.new.results.items in
    let all : map brought_from c.finish_batch.new.outgoing.items ≡ all_brought verdicts batch =
    c.finish_batch.ensures.outgoing
    ∙ (ap (λ (os : List Outgoing). map brought_from os ++ map brought_for results) c.self.invariant.4
    ∙ (ap (λ (rs : List QueuedResult). map brought_for rs) c.take_results.ensures.results ∙ brought_all t.begun verdicts batch)) in
    c.send_all.ensures.brought
    ∙ (ap (λ (bs : List Brought). brought_after (g.P.ReplySender.brought t.replying) bs) all
    ∙ ap (λ (s : PublisherState). brought_after s.brought (all_brought verdicts batch)) c.self.view_is)

pub returns-clause-replies : goal.returns-clause-replies
returns-clause-replies g c =
    let first = g.Z.FirstZone.zone in
    let t = c.self.inside in
    let seen = t.reader.seen in
    let versions = versions_in c.args.updates.items in
    let verdicts = c.args.verdicts.now in
    let batch = take c.args.count c.args.requests.now.items in
    let made = c.requires.made in
    let met = c.self.invariant.0 in
    let judged = judged_queued first seen t.last t.begun versions made.0 met (subst (λ (s : PublisherState). IsLast s.seen made.0) (sym c.self.view_is) made.1) made.2 in
    let latest = judged_latest first seen t.last t.begun versions met judged in
    let done = subst (λ (s : PublisherState). AreDone (s.seen ++ versions) s.begun verdicts batch) (sym c.self.view_is) c.requires.done in
    subst (λ (l : List Version). AreReplies first l (t.begun + 1) verdicts batch) (sym c.finish_batch.ensures.published)
    (queued_replies first (seen ++ versions) (newest_of judged.0 versions) latest.0 t.begun latest.1 verdicts batch done)
