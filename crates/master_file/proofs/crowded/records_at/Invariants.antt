use Rattle.std.proofs.Common.{◌≡◌, ◌++◌, drop}
use Rattle.std.specs.List.{filter}
use Rattle.master_file.specs.FaultyLine.{is_among}
use Rattle.master_file.proofs.crowded.records_at.Given as goal

abbrev pub invariant-loop-kept : goal.invariant-loop-kept
invariant-loop-kept l = l.found.items ++ filter (λ rr. is_among l.owners.keys rr.owner) (drop l.kept-index l.fn.records) ≡ filter (λ rr. is_among l.owners.keys rr.owner) l.fn.records
