use Rattle.std.proofs.Common.{arith, option_map}
use Rattle.dns_name.specs.Labels.{labels_in}
use Rattle.dns_message.proofs.EncodedLemmas.{Completes-first, Completes-more, Completes-stop, Completes-end}
use Rattle.dns_message.proofs.SetLemmas.{sets_octets}
use Rattle.dns_message.proofs.records.put_sets.Goals as goal

pub loop-set-init : goal.loop-set-init
loop-set-init c = Completes-first _ _ _ _ _ c.requires.within c.requires.table

pub loop-set-preserved : goal.loop-set-preserved
loop-set-preserved c =
    Completes-more _ _ _ c.set-item.result _ _ _ _ _ _ _ _ _ (omega arith, c.set-item.is) c.loop-set.invariant c.in_ok-next.ensures

pub returns-in_err-next : goal.returns-in_err-next
returns-in_err-next c =
    Completes-stop _ _ _ c.set-item.result _ _ c.put_set.new.out _ _ _ _ _ _ _ (omega arith, c.set-item.is) (sets_octets (labels_in c.args.owner.now) (option_map (λ ttl. ttl.0) c.args.ttl) c.args.sets.now) c.from_residual.ensures c.loop-set.invariant c.in_err-next.ensures

pub returns : goal.returns
returns c =
    Completes-end _ _ _ _ _ _ _ _ _ _ c.loop-set-test.false (sets_octets (labels_in c.args.owner.now) (option_map (λ ttl. ttl.0) c.args.ttl) c.args.sets.now) c.loop-set.invariant
