use Rattle.std.proofs.Common.{length, Err, ap, ◌∙◌, arith}
use Rattle.std.proofs.lemmas.List.{length-map}
use Rattle.update_core.specs.Act.{record_at_serial}
use Rattle.update_core.proofs.RowEffects.{serial_change}
use Rattle.update_core.proofs.SerialPut.{serial_keeps}
use Rattle.update_core.proofs.outcome.with_serial.Goals as goal

pub edit-requires : goal.edit-requires
edit-requires c =
    let n = c.args.serial.0 in
    let zone = c.args.zone.now in
    let change = serial_change n zone c.in_ok-soa_at.field-0 c.deref.result.now c.soa_at.ensures.lawful.rules (c.deref.ensures.value ∙ c.in_ok-changes.ensures) c.in_ok-soa_at.ensures.set in
    rw change (serial_keeps n zone c.soa_at.ensures.lawful.rules).rules

pub returns-in-Ok : goal.returns-in-Ok
returns-in-Ok c =
    c.in-Ok.ensures.edited.0
    ∙ serial_change c.args.serial.0 c.args.zone.now c.in_ok-soa_at.field-0 c.deref.result.now c.soa_at.ensures.lawful.rules (c.deref.ensures.value ∙ c.in_ok-changes.ensures) c.in_ok-soa_at.ensures.set

pub unreachable-requires : goal.unreachable-requires
unreachable-requires c =
    let n = c.args.serial.0 in
    let zone = c.args.zone.now in
    let change = serial_change n zone c.in_ok-soa_at.field-0 c.deref.result.now c.soa_at.ensures.lawful.rules (c.deref.ensures.value ∙ c.in_ok-changes.ensures) c.in_ok-soa_at.ensures.set in
    let many = c.in-Err-Limit.ensures.limit (ap Err c.in-Err-Limit.field-0-is) in
    let few = c.soa_at.ensures.lawful.limits.few in
    omega (arith, ap length change, length-map zone (record_at_serial n))
