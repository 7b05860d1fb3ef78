use Rattle.std.proofs.Common.{◌≡◌, ◌++◌, length, string_bytes}
use Rattle.master_file.specs.Records.{records_of}
use Rattle.zone_warnings.specs.Warnings.{warnings_text}
use Rattle.zone_warnings.proofs.lines.write_all.Given as goal

-- the lines so far, with those of the records that are left, are all
abbrev pub invariant-loop-records : goal.invariant-loop-records
invariant-loop-records l = record {
  reported : string_bytes l.lines ++ warnings_text l.zone l.records.rrs ≡ warnings_text l.zone (records_of l.fn.origin l.fn.text).rrs;
  fault : l.records.fault ≡ (records_of l.fn.origin l.fn.text).fault;
}

abbrev pub decreases-loop-records : goal.decreases-loop-records
decreases-loop-records l = length l.records.rrs
