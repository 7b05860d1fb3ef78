use Rattle.std.proofs.Common.{sym, ap, ◌∙◌}
use Rattle.zone_tree.specs.Zone.{soa_of}
use Rattle.update_core.specs.Act.{at_serial}
use Rattle.zone_change.proofs.ChangeLemmas.{other_soa, same_by}
use Rattle.zone_change.proofs.change.is_same_but_serial.Goals as goal

pub returns-then-not-is_same : goal.returns-then-not-is_same
returns-then-not-is_same c =
    other_soa c.args.delta.now c.args.old.now c.args.next.now c.soa-own.ensures.lawful c.in_ok-soa.ensures.lawful c.requires
    (λ e. c.if-not-is_same.ensures (c.in_ok-soa.ensures.set ∙ ap (λ n. at_serial n (soa_of c.args.next.now)) c.serial.ensures ∙ e ∙ sym c.soa-own.ensures.set))

pub returns : goal.returns
returns c =
    same_by c.args.delta.now c.args.old.now c.args.next.now c.soa-own.ensures.lawful c.in_ok-soa.ensures.lawful c.requires c.has_none.result c.has_none.ensures.none c.has_none.ensures.some
    (sym (c.in_ok-soa.ensures.set ∙ ap (λ n. at_serial n (soa_of c.args.next.now)) c.serial.ensures) ∙ c.if-not-is_same.ensures ∙ c.soa-own.ensures.set)
