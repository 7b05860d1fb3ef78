-- What is told is about what the reader has then seen.
use Rattle.std.proofs.Common.{ap, ◌∙◌, subst}
use Rattle.zone_tree.specs.Version.{zone_serial}
use Rattle.dns_engine.specs.Held.{EngineState}
use Rattle.dns_engine.specs.Outcomes.{IsTold}
use Rattle.zone_server.specs.Known.{HasMet}
use Rattle.zone_server.proofs.server.Server.update.Goals as goal

pub returns : goal.returns
returns g c =
    let old = c.deref_mut.result.now in
    let new = c.update-code.new.self in
    let same = c.deref_mut-2.ensures.value ∙ c.meet_last-before.ensures.same in
    record {
      old = old;
      new = new;
      met = c.meet_last-before.new.reader;
      meets = c.meet_last-before.ensures.met;
      reported = subst (λ (s : EngineState). IsTold s c.args.update.now c.args.may c.update-code.result new) same c.update-code.ensures.reported;
      meets_again = subst (λ (s : EngineState). HasMet g.Z.FirstZone.zone s c.meet_last-before.new.reader c.meet_last-after.new.reader) c.deref_mut-3.ensures.value c.meet_last-after.ensures.met;
      serial_before = c.meet_last-before.ensures.serial;
      serial_after = c.meet_last-after.ensures.serial ∙ ap (λ (s : EngineState). zone_serial s.held.last.zone) c.deref_mut-3.ensures.value;
    }
