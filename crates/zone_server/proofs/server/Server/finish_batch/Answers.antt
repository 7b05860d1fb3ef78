-- What is published is what the reader has seen then, and each result holds for it.
use Rattle.std.proofs.Common.{rules, ◌≡◌, List, length, ap, ◌∙◌, sym, subst}
use Rattle.zone_tree.specs.Version.{Version}
use Rattle.snapshot_cell.specs.Tokens.{ReaderState}
use Rattle.dns_engine.specs.Held.{EngineState, IsLatest}
use Rattle.dns_engine.specs.Replayed.{IsReplay}
use Rattle.update_batches.specs.Batch.{versions_in}
use Rattle.zone_server.specs.UpdateResult.{AreResults}
use Rattle.zone_server.proofs.server.Server.finish_batch.Goals as goal

pub put_results-requires : goal.put_results-requires
put_results-requires g c = (
  search rules,
  (
    subst (λ (l : List Version). AreResults g.Z.FirstZone.zone l c.args.results.now.items) (sym c.publish_batch.ensures.published ∙ ap (λ (s : EngineState). s.held.published) (sym c.deref_mut-2.ensures.value)) c.requires.done,
    c.requires.outgoing_room,
  ),
)

pub returns : goal.returns
returns g c =
    let reader = c.args.reader.now in
    let versions = versions_in c.args.updates.items in
    let new = c.publish_batch.new.self in
    let same : c.deref.result.now ≡ new = search rules in
    let seen = ap (λ (r : ReaderState Version). r.seen) c.publish_batch.ensures.met in
    record {
      met = (
        new,
        record {
          begun = (versions, sym c.publish_batch.ensures.published);
          latest = subst (λ (s : EngineState). IsLatest g.Z.FirstZone.zone s.held.published s.held.last) same c.number.ensures.latest;
          replayed = subst (λ (s : EngineState). IsReplay g.Z.FirstZone.zone s.held.last) same c.number.ensures.replayed;
          seen = c.publish_batch.ensures.met ∙ ap (λ (l : List Version). record { cell = reader.cell; seen = l; left = reader.left; gone = reader.gone }) (sym c.publish_batch.ensures.published);
        },
        ap (λ (s : EngineState). s.held.last.number) (sym same) ∙ sym c.number.ensures.number,
      );
      published = seen;
      counted = c.publish_batch.ensures.counted ∙ ap length (sym seen);
      reserved = c.publish_batch.ensures.reserved;
      put = c.put_results.ensures.put;
      outgoing = c.put_results.ensures.outgoing;
      outgoing_room = c.put_results.ensures.room;
      none = c.put_results.ensures.none;
      results_room = c.put_results.ensures.results_room;
    }
