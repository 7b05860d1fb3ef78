-- What the reader has seen grows as what is known on each connection does, of the handler whose replies are signed and counted.
use Rattle.std.proofs.Common.{sym, ap, subst, ◌∙◌}
use Rattle.zone_tree.specs.Version.{Version}
use Rattle.snapshot_cell.specs.Tokens.{ReaderState}
use Rattle.requests.specs.Served.{BeginsWith}
use Rattle.zone_replies.specs.State.{HandlerState}
use Rattle.zone_replies.proofs.PendingLemmas.{reader_grows}
use Rattle.serve_workers.proofs.threads.serve_counted_signed.Goals as goal

pub returns-clause-seen : goal.returns-clause-seen
returns-clause-seen g c =
    let before = c.new-handler-2.result.inner in
    let after = c.serve_counting-handler.result.0.inner in
    subst (λ (r : ReaderState Version). BeginsWith r.seen c.args.reader.seen) (sym (c.into_reader.ensures ∙ ap (λ (h : HandlerState). h.reader) c.into_inner.ensures))
    (subst (λ (r : ReaderState Version). BeginsWith after.reader.seen r.seen) (ap (λ (h : HandlerState). h.reader) c.new-handler-2.ensures.inner ∙ (c.with_sender-handler.ensures.reader ∙ c.new-handler.ensures.reader))
    (reader_grows before.taken after.taken before.reader after.reader c.serve_counting-handler.ensures.grows).published)
