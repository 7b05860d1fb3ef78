-- The batch is to be judged in the version that was published last, and the reader has seen it.
use Rattle.std.proofs.Common.{◌≡◌, sym, ap, ◌∙◌, subst}
use Rattle.snapshot_cell.specs.Tokens.{ReaderState}
use Rattle.zone_tree.specs.Version.{Version}
use Rattle.dns_engine.specs.Held.{EngineState, Held, IsLatest}
use Rattle.dns_engine.specs.Replayed.{IsReplay}
use Rattle.zone_server.proofs.server_state.ServerState.begin_batch.Goals as goal

pub returns : goal.returns
returns g c =
    let state = c.reserve-room.ensures.state in
    let held : c.reserve-room.new.self.held ≡ c.args.self.now.held = ap (λ (s : EngineState). s.held) state ∙ ap (λ (s : EngineState). s.held) c.audit.ensures.same in
    let same = c.audit.ensures.all c.requires.counted in
    record {
      same = same;
      published = ap (λ (r : ReaderState Version). r.seen) (sym c.audit.ensures.met ∙ same);
      latest = subst (λ (h : Held). IsLatest g.Z.FirstZone.zone h.published h.last) held c.number-number.ensures.latest;
      replayed = subst (λ (h : Held). IsReplay g.Z.FirstZone.zone h.last) held c.number-number.ensures.replayed;
      last = c.share-last.ensures ∙ c.last_shared.ensures ∙ ap (λ (h : Held). h.last) held;
      number = c.number-number.ensures.number ∙ ap (λ (h : Held). h.last.number) held;
      room = sym (ap (λ (s : EngineState). s.free) state);
      held = held;
      reserved = c.reserve-room.ensures.reserved;
      counted = c.reserve-room.ensures.counted ∙ c.audit.ensures.right.0;
    }
