-- The first of those that wait are judged as a batch, and each of it gets its reply.
use Rattle.journal.specs.Batch.{Messages}
use Rattle.std.proofs.Common.{◌≡◌, ◌+◌, ◌++◌, ◌∙◌, ℕ, List, refl, ap, sym, subst, length, take, take-append-drop, arith}
use Rattle.std.specs.Prelude.{min, max}
use Rattle.dns_rdata.specs.Record.{Record}
use Rattle.zone_tree.specs.Version.{Version}
use Rattle.update_batches.specs.declared.queued_update.QueuedUpdate.{QueuedUpdate}
use Rattle.update_batches.specs.declared.verdict.Verdict.{Verdict}
use Rattle.update_batches.specs.Batch.{versions_in, IsBatch}
use Rattle.update_batches.specs.Results.{AreDone, replies_to}
use Rattle.update_batches.proofs.BatchLemmas.{judged_made}
use Rattle.update_batches.proofs.DoneLemmas.{published_done}
use Rattle.update_batches.proofs.ToldLemmas.{made_still, room_left, told_published, take_some, taken_many, told_between, told_tended}
use Rattle.update_batches.proofs.update_thread.UpdateThread.turn.Goals as goal

pub finish-requires-clause-made : goal.finish-requires-clause-made
finish-requires-clause-made g c =
    let last = c.begin_batch-last.result.0 in
    let end = c.begin_batch-last.ensures.last in
    let is = c.judge_batch-updates.ensures.judged in (
      last,
      end,
      made_still c.keep-updates.result.1 last c.judge_batch-updates.result.items c.keep-updates.result.0.items c.judge_batch-updates.new.verdicts.items c.keep-updates.new.verdicts.items
          c.keep-updates.ensures.kept (judged_made last c.min.result is.judged),
    )

pub finish-requires-clause-done : goal.finish-requires-clause-done
finish-requires-clause-done g c =
    let last = c.begin_batch-last.result.0 in
    let published = g.P.UpdatePublisher.published c.begin_batch-last.new.self in
    let count = c.first_of-count.result in
    let kept = c.keep-updates.result.0.items in
    let verdicts = c.keep-updates.new.verdicts.items in
    let done : AreDone (published ++ versions_in kept) (length published) verdicts (take count c.deref.result.now) =
    published_done published last c.begin_batch-last.ensures.last c.keep-updates.result.1 (take count c.deref.result.now) c.judge_batch-updates.new.verdicts.items verdicts
    c.judge_batch-updates.result.items kept c.min.result c.judge_batch-updates.ensures.judged c.keep-updates.ensures.kept in
    subst (λ (l : List QueuedUpdate). AreDone (published ++ versions_in kept) (g.P.UpdatePublisher.begun c.begin_batch-last.new.self) c.deref-2.result.now (take count l)) c.deref.ensures.value
    (subst (λ (vs : List Verdict). AreDone (published ++ versions_in kept) (g.P.UpdatePublisher.begun c.begin_batch-last.new.self) vs (take count c.deref.result.now)) (sym c.deref-2.ensures.value)
    (subst (λ (n : ℕ). AreDone (published ++ versions_in kept) n verdicts (take count c.deref.result.now)) (sym c.begin_batch-last.ensures.begun) done))

pub returns-clause-turned : goal.returns-clause-turned
returns-clause-turned g c =
    let has = g.S.UpdateStore.has in
    let leaves = g.S.UpdateStore.leaves in
    let same = c.fill.ensures.same in
    let last = c.begin_batch-last.result.0 in
    let old = g.P.UpdatePublisher.published c.args.self.now.publisher in
    let begun = g.P.UpdatePublisher.published c.begin_batch-last.new.self in
    let new = g.P.UpdatePublisher.published c.finish.new.self in
    let count = c.first_of-count.result in
    let waiting = c.fill.new.self.waiting.items in
    let batch = take count waiting in
    let updates = c.judge_batch-updates.result.items in
    let kept = c.keep-updates.result.0.items in
    let judged = c.judge_batch-updates.new.verdicts.items in
    let verdicts = c.keep-updates.new.verdicts.items in
    let fault = c.keep-updates.result.1 in
    let arrived = c.in_ok-fill.ensures.arrived in
    let some = c.in_ok-fill.ensures.some in
    let room = c.begin_batch-last.result.1 in
    let is : IsBatch last batch judged updates c.min.result =
    subst (λ (l : List QueuedUpdate). IsBatch last (take count l) judged updates c.min.result) c.deref.ensures.value c.judge_batch-updates.ensures.judged in
    let long : length waiting ≡ c.len.result = omega (arith, c.len.ensures, c.fill.new.self.waiting.ok.0) in
    let counted : count ≡ min (length waiting) (min (max room 1) 64) = c.first_of-count.ensures ∙ ap (λ n. min n (min (max room 1) 64)) (sym long) in
    let from : begun ≡ old = c.begin_batch-last.ensures.published ∙ ap (λ p. g.P.UpdatePublisher.published p) same.0 in
    let left : g.P.UpdatePublisher.room c.finish.new.self + length new ≡ room + length begun =
    room_left (g.P.UpdatePublisher.room c.finish.new.self) room (g.P.UpdatePublisher.room c.begin_batch-last.new.self) begun new kept c.finish.ensures.room c.finish.ensures.published
    c.begin_batch-last.ensures.room in
    record {
      arrived = arrived.0;
      batch = batch;
      taken = sym arrived.1 ∙ (sym (take-append-drop count waiting) ∙ ap (λ l. batch ++ l) (sym c.finish.ensures.rest));
      some = take_some count waiting (omega (arith, counted, some)) some;
      room = room;
      many = taken_many count (min (max room 1) 64) waiting c.finish.new.requests.items counted c.finish.ensures.rest;
      left = omega (arith, left, ap length from);
      verdicts = verdicts;
      reported = told_tended has leaves fault old new batch verdicts c.args.self.now.store c.tend.new.self c.keep-updates.new.store c.tend-2.new.self
          (subst (λ s. (zone : List Record) (versions : List Version) (updates : List Messages) → has zone s versions updates → has zone c.tend.new.self versions updates)
          same.1 c.tend.ensures.kept)
          (subst (λ s. (zone : List Record) (versions : List Version) (updates : List Messages) → has zone s versions updates → leaves zone s c.tend.new.self updates)
          same.1 c.tend.ensures.crash)
          c.tend-2.ensures.kept c.tend-2.ensures.crash
          (told_between has leaves fault old begun new new batch verdicts c.tend.new.self c.keep-updates.new.store from refl
          (told_published has leaves fault last begun new batch judged verdicts c.tend.new.self c.keep-updates.new.store updates kept c.min.result
          c.begin_batch-last.ensures.last is c.keep-updates.ensures.kept c.keep-updates.ensures.stored c.keep-updates.ensures.crash c.finish.ensures.published));
      replied = c.finish.ensures.replied
          ∙ (ap (λ rs. rs ++ replies_to c.deref-2.result.now batch) (c.begin_batch-last.ensures.replied ∙ ap (λ p. g.P.UpdatePublisher.replied p) same.0)
          ∙ ap (λ vs. g.P.UpdatePublisher.replied c.args.self.now.publisher ++ replies_to vs batch) c.deref-2.ensures.value);
    }
