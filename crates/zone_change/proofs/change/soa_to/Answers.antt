use Rattle.std.proofs.Common.{◌≡◌, true, false, sym, ap, ◌∙◌}
use Rattle.std.specs.Cmp.Lexicographic.{pointwise}
use Rattle.dns_rdata.specs.SerialOrder.{serial_less, serial_next}
use Rattle.zone_tree.specs.Zone.{soa_of}
use Rattle.zone_tree.specs.Change.{is_same_record}
use Rattle.zone_tree.specs.Version.{zone_serial}
use Rattle.update_core.specs.Act.{at_serial}
use Rattle.zone_change.proofs.ChangeLemmas.{change_less, change_after}
use Rattle.zone_change.proofs.change.soa_to.Goals as goal

pub returns-then-less : goal.returns-then-less
returns-then-less c =
    let old = c.args.old.now in
    let next = c.args.next.now in
    let e : serial_less (zone_serial old) (zone_serial next) ≡ true =
    sym (c.less.ensures ∙ (λ i. serial_less (c.serial-serial.ensures i) (c.serial.ensures i))) ∙ c.if-less.true in
    change_less c.args.delta.now c.in_ok-soa.soa old next c.soa-soa.ensures.lawful c.soa-own.ensures.lawful e c.requires (c.in_ok-soa.ensures ∙ c.soa-own.ensures.set)

pub returns : goal.returns
returns c =
    let old = c.args.old.now in
    let next = c.args.next.now in
    let e : serial_less (zone_serial old) (zone_serial next) ≡ false =
    sym (c.less.ensures ∙ (λ i. serial_less (c.serial-serial.ensures i) (c.serial.ensures i))) ∙ c.if-less.false in
    let f : pointwise is_same_record old (at_serial (zone_serial old) next) ≡ false = sym c.in_ok-is_same_but_serial.ensures ∙ c.if-branch.false in
    let s = c.in_ok-soa-2.ensures.set ∙ ap (λ n. at_serial n (soa_of next)) (c.next.ensures ∙ ap serial_next c.serial-serial.ensures) in
    change_after c.args.delta.now c.in_ok-soa-2.soa old next c.soa-soa.ensures.lawful c.soa-own.ensures.lawful e f c.requires s
