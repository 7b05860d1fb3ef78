-- What a batch makes is published where the reader has seen all that is.
use Rattle.std.proofs.Common.{rules, ◌≡◌, List, ◌++◌, length, sym, ap, ◌∙◌, subst, arith}
use Rattle.zone_tree.specs.Version.{Version}
use Rattle.snapshot_cell.specs.Tokens.{ReaderState}
use Rattle.dns_engine.specs.Held.{EngineState}
use Rattle.update_batches.specs.Batch.{versions_in}
use Rattle.update_batches.specs.Engine.{IsLast}
use Rattle.zone_server.proofs.MetLemmas.{met_twice}
use Rattle.zone_server.proofs.server_state.ServerState.publish_batch.Goals as goal

pub publish_all-requires : goal.publish_all-requires
publish_all-requires g c =
    let judged = c.requires.judged in
    let seen = ap (λ (r : ReaderState Version). r.seen) (sym (c.audit.ensures.all c.requires.counted) ∙ c.audit.ensures.met) in
    let here : c.args.reader.now.seen ≡ c.audit.new.self.held.published = seen ∙ ap (λ (s : EngineState). s.held.published) (sym c.audit.ensures.same) in (
      search rules,
      (
        (judged.0, subst (λ (l : List Version). IsLast l judged.0) here (judged.1.before, judged.1.ends), judged.2),
        omega (arith, c.requires.room, c.audit.ensures.right.1),
      ),
    )

pub returns : goal.returns
returns g c =
    let reader = c.args.reader.now in
    let versions = versions_in c.args.updates.items in
    let seen = ap (λ (r : ReaderState Version). r.seen) (sym (c.audit.ensures.all c.requires.counted) ∙ c.audit.ensures.met) in
    let here : reader.seen ≡ c.audit.new.self.held.published = seen ∙ ap (λ (s : EngineState). s.held.published) (sym c.audit.ensures.same) in
    let made = c.publish_all.new.self in
    let published : made.held.published ≡ reader.seen ++ versions =
    c.publish_all.ensures.published ∙ ap (λ (l : List Version). l ++ versions) (sym here) in
    let later : c.audit-2.new.self.held.published ≡ reader.seen ++ versions = ap (λ (s : EngineState). s.held.published) c.audit-2.ensures.same ∙ published in
    record {
      met = met_twice reader c.audit.new.reader c.audit-2.new.reader c.args.self.now.held.published made.held.published (reader.seen ++ versions) c.audit.ensures.met c.audit-2.ensures.met published;
      published = later;
      counted = c.audit-2.ensures.counted ∙ ap length published;
      reserved = omega (arith, c.publish_all.ensures.reserved, c.audit.ensures.right.1, c.audit-2.ensures.right.1);
    }
