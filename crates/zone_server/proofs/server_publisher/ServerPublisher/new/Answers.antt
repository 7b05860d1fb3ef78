-- It has met what is published.
use Rattle.std.proofs.Common.{◌+◌, ℕ, sym, subst}
use Rattle.zone_server.specs.Met.{PublisherState, HasBegun}
use Rattle.zone_server.proofs.PublisherMetLemmas.{begun_from, has_begun, met_more}
use Rattle.zone_server.proofs.server_publisher.ServerPublisher.new.Goals as goal

pub returns-clause-begun : goal.returns-clause-begun
returns-clause-begun g c =
    let first = g.Z.FirstZone.zone in
    let met = c.audit.new.reader in
    let begun = c.begin_batch-begun.result in
    let state : ℕ → PublisherState = λ room. record { seen = c.begin_batch-begun.new.reader.seen; begun = begun.number + 1; room = room; replied = c.new-2.result.replies; brought = g.P.ReplySender.brought c.args.replying } in (
      begun.last,
      begun_from first c.args.reader.seen met.seen (state c.begin_batch-begun.new.right.reserved.amount) begun.last (met_more first c.args.reader met c.audit.result c.audit.ensures.met)
          (subst (λ (n : ℕ). HasBegun first met.seen (state n) begun.last) (sym c.begin_batch-begun.ensures.reserved)
          (has_begun first met c.begin_batch-begun.new.reader begun c.new-2.result.replies (g.P.ReplySender.brought c.args.replying) c.begin_batch-begun.ensures.begun)),
    )
