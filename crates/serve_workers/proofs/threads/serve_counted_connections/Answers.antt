-- What the reader has seen grows as what is known on each connection does, of the handler whose requests are counted.
use Rattle.std.proofs.Common.{sym, subst, ◌∙◌}
use Rattle.zone_tree.specs.Version.{Version}
use Rattle.snapshot_cell.specs.Tokens.{ReaderState}
use Rattle.requests.specs.Served.{BeginsWith}
use Rattle.zone_replies.proofs.PendingLemmas.{reader_grows}
use Rattle.serve_workers.proofs.threads.serve_counted_connections.Goals as goal

pub returns-clause-seen : goal.returns-clause-seen
returns-clause-seen g c =
    let before = c.with_sender-handler.result in
    let after = c.serve_counting-handler.result.0 in
    subst (λ (r : ReaderState Version). BeginsWith r.seen c.args.reader.seen) (sym c.into_reader.ensures)
    (subst (λ (r : ReaderState Version). BeginsWith after.reader.seen r.seen) (c.with_sender-handler.ensures.reader ∙ c.with_rules-handler.ensures.reader ∙ c.new-handler.ensures.reader)
    (reader_grows before.taken after.taken before.reader after.reader c.serve_counting-handler.ensures.grows).published)
