-- The batch is begun in the last version that the reader has met.
use Rattle.std.proofs.Common.{◌≡◌, [], ap, ◌∙◌, sym, subst, append-nil}
use Rattle.dns_engine.specs.Held.{Held, IsLatest}
use Rattle.dns_engine.specs.Replayed.{IsReplay}
use Rattle.zone_server.proofs.server.Server.begin_batch.Goals as goal

pub returns : goal.returns
returns g c =
    let new = c.begin_batch.new.self in
    let held : c.deref_mut.result.now.held ≡ new.held = sym c.begin_batch.ensures.held in
    let reader = c.args.reader.now in
    let here : new.held.published ≡ reader.seen = ap (λ (h : Held). h.published) (sym held) ∙ c.begin_batch.ensures.published in
    record {
      begun = (
        new,
        record {
          begun = ([], append-nil reader.seen ∙ sym here);
          latest = subst (λ (h : Held). IsLatest g.Z.FirstZone.zone h.published h.last) held c.begin_batch.ensures.latest;
          replayed = subst (λ (h : Held). IsReplay g.Z.FirstZone.zone h.last) held c.begin_batch.ensures.replayed;
          seen = c.begin_batch.ensures.same ∙ ap (λ l. record { cell = reader.cell; seen = l; left = reader.left; gone = reader.gone }) (sym here);
        },
        ap (λ (h : Held). h.last) (sym held) ∙ sym c.begin_batch.ensures.last,
        ap (λ (h : Held). h.last.number) (sym held) ∙ sym c.begin_batch.ensures.number,
        sym c.begin_batch.ensures.room,
      );
      same = c.begin_batch.ensures.same;
      reserved = c.begin_batch.ensures.reserved;
      counted = c.begin_batch.ensures.counted;
    }
