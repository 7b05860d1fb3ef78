use Rattle.std.proofs.Common.{◌≡◌, ◌++◌, length}
use Rattle.master_file.specs.Records.{records_of}
use Rattle.master_file.proofs.faulty.read_all.Given as goal

abbrev pub invariant-loop-rr : goal.invariant-loop-rr
invariant-loop-rr l = record {
  kept : l.kept.items ++ l.records.rrs ≡ (records_of l.fn.origin l.fn.text).rrs;
  fault : l.records.fault ≡ (records_of l.fn.origin l.fn.text).fault;
}

abbrev pub decreases-loop-rr : goal.decreases-loop-rr
decreases-loop-rr l = length l.records.rrs
