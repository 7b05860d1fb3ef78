-- A batch is begun where the reader has met what is published.
use Rattle.std.proofs.Common.{◌+◌, ℕ, sym, subst}
use Rattle.zone_server.specs.Met.{PublisherState, HasBegun}
use Rattle.zone_server.proofs.PublisherMetLemmas.{has_begun}
use Rattle.zone_server.proofs.server_publisher.ServerPublisherUpdatePublisher.begin_batch.Goals as goal

pub returns-clause-all : goal.returns-clause-all
returns-clause-all g c =
    let t = c.self.inside in
    let begun = c.begin_batch-batch.result in
    let state : ℕ → PublisherState = λ room. record { seen = c.begin_batch-batch.new.reader.seen; begun = begun.number + 1; room = room; replied = t.replied.replies; brought = g.P.ReplySender.brought t.replying } in
    subst (λ (s : PublisherState). HasBegun g.Z.FirstZone.zone s.seen (state c.begin_batch-batch.new.right.reserved.amount) begun.last) c.self.view_is
    (subst (λ (n : ℕ). HasBegun g.Z.FirstZone.zone t.reader.seen (state n) begun.last) (sym c.begin_batch-batch.ensures.reserved)
    (has_begun g.Z.FirstZone.zone t.reader c.begin_batch-batch.new.reader begun t.replied.replies (g.P.ReplySender.brought t.replying) c.begin_batch-batch.ensures.begun))
