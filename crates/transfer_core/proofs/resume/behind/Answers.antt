-- One record more is passed.
use Rattle.transfer_core.specs.Packed.{listed}
use Rattle.transfer_core.proofs.PlaceLemmas.{passed_one, passed_more}
use Rattle.transfer_core.proofs.resume.behind.Goals as goal

pub loop-passed-preserved : goal.loop-passed-preserved
loop-passed-preserved g c =
    passed_more c.loop-passed._passed (listed c.args.list) (listed c.loop-passed.list) (listed c.next_record.new.self) c.loop-passed.invariant (passed_one _ (listed c.loop-passed.list) (listed c.next_record.new.self) c.next_record.ensures)
