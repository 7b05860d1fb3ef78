-- The history is that of what the reader has met.
use Rattle.std.proofs.Common.{◌∙◌, subst}
use Rattle.zone_tree.specs.Version.{Version}
use Rattle.snapshot_cell.specs.Tokens.{ReaderState}
use Rattle.weak_history.specs.Owned.{IsChain}
use Rattle.dns_engine.specs.Held.{EngineState}
use Rattle.dns_engine.specs.Entries.{entries_of}
use Rattle.zone_server.proofs.server.Server.chain.Goals as goal

pub returns : goal.returns
returns g c =
    let met = c.meet_last.ensures.met in
    let same = c.deref_mut-2.ensures.value ∙ c.meet_last.ensures.same in
    let published = c.deref_mut.result.now.held.published in (
      published,
      met.latest.history,
      met.begun,
      subst (λ (r : ReaderState Version). IsChain (entries_of published) c.args.from.0 c.args.upto r c.chain.new.reader c.chain.result) met.seen
          (subst (λ (s : EngineState). IsChain (entries_of s.held.published) c.args.from.0 c.args.upto c.meet_last.new.reader c.chain.new.reader c.chain.result) same c.chain.ensures.chain),
    )
