use Rattle.std.proofs.Common.{arith}
use Rattle.dns_rdata.specs.Shown.{records_shown}
use Rattle.dns_message.specs.Octets.{record_octets}
use Rattle.dns_message.proofs.EncodedLemmas.{Completes-first, Completes-more, Completes-stop, Completes-end}
use Rattle.dns_message.proofs.SetLemmas.{each-flat_map}
use Rattle.dns_message.proofs.records.put_section.Goals as goal

pub loop-shown-init : goal.loop-shown-init
loop-shown-init c = Completes-first _ _ _ _ _ c.requires.within c.requires.table

pub loop-shown-preserved : goal.loop-shown-preserved
loop-shown-preserved c =
    Completes-more _ _ _ c.shown-item.result _ _ _ _ _ _ _ _ _ (omega arith, c.shown-item.is) c.loop-shown.invariant c.in_ok-next.ensures

pub returns-in_err-next : goal.returns-in_err-next
returns-in_err-next c =
    Completes-stop _ _ _ c.shown-item.result _ _ c.put_shown.new.out _ _ _ _ _ _ _ (omega arith, c.shown-item.is) (each-flat_map record_octets records_shown c.args.section.now) c.from_residual.ensures c.loop-shown.invariant c.in_err-next.ensures

pub returns : goal.returns
returns c =
    Completes-end _ _ _ _ _ _ _ _ _ _ c.loop-shown-test.false (each-flat_map record_octets records_shown c.args.section.now) c.loop-shown.invariant
