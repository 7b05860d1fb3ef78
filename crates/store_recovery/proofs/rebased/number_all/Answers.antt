use Rattle.std.proofs.Common.{arith, ap, ◌∙◌}
use Rattle.store_recovery.specs.Rebased.{numbered_from}
use Rattle.store_recovery.proofs.RebasedLemmas.{one_more_numbered, all_numbered, all_written}
use Rattle.store_recovery.proofs.rebased.number_all.Goals as goal

pub loop-version-preserved : goal.loop-version-preserved
loop-version-preserved c = record {
  number = omega (arith, c.loop-version.invariant.number);
  items =
      one_more_numbered _ c.loop-version.version-items c.loop-version.version-index c.loop-version.number _ c.renumber.new.self c.loop-version-test.true
      c.loop-version.invariant.number c.loop-version.invariant.items c.renumber.ensures;
}

pub returns : goal.returns
returns c =
    all_written c.args.later.now.len c.args.later.now.items c.loop-version.version-items _ c.args.later.now.ok.0
    (all_numbered _ c.loop-version.version-items c.loop-version.version-index c.loop-version-test.false c.loop-version.invariant.items
    ∙ ap (numbered_from 1) c.deref_mut-version-items.ensures.value)
