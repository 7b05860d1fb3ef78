use Rattle.std.proofs.Common.{arith}
use Rattle.dns_name.specs.Labels.{labels_in}
use Rattle.dns_message.proofs.EncodedLemmas.{Completes-first, Completes-more, Completes-stop, Completes-end}
use Rattle.dns_message.proofs.SetLemmas.{set_octets_of}
use Rattle.dns_message.proofs.records.put_set.Goals as goal

pub loop-data-init : goal.loop-data-init
loop-data-init c = Completes-first _ _ _ _ _ c.requires.within c.requires.table

pub loop-data-preserved : goal.loop-data-preserved
loop-data-preserved c =
    let written = rw c.octets.ensures.octets at c.in_ok-next.ensures in
    Completes-more _ _ _ c.data-item.result _ _ _ _ _ _ _ _ _ (omega arith, c.data-item.is) c.loop-data.invariant written

pub returns-in_err-next : goal.returns-in_err-next
returns-in_err-next c =
    let whole = set_octets_of (labels_in c.args.owner.now) c.args.ttl c.args.set.now c.data-data-items.result.now c.rtype-rtype.result c.ttl.result c.unwrap_or-ttl.result c.data-data-items.ensures.records c.rtype-rtype.ensures.of c.ttl.ensures.of c.unwrap_or-ttl.ensures in
    let stops = rw c.octets.ensures.octets at c.in_err-next.ensures in
    Completes-stop _ _ _ c.data-item.result _ _ c.put_record_under.new.out _ _ _ _ _ _ _ (omega arith, c.data-item.is) whole c.from_residual.ensures c.loop-data.invariant stops

pub returns : goal.returns
returns c =
    let whole = set_octets_of (labels_in c.args.owner.now) c.args.ttl c.args.set.now c.data-data-items.result.now c.rtype-rtype.result c.ttl.result c.unwrap_or-ttl.result c.data-data-items.ensures.records c.rtype-rtype.ensures.of c.ttl.ensures.of c.unwrap_or-ttl.ensures in
    Completes-end _ _ _ _ _ _ _ _ _ _ c.loop-data-test.false whole c.loop-data.invariant
