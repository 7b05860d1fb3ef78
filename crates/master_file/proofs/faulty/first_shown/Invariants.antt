use Rattle.std.proofs.Common.{◌≡◌, ◌<◌, ◌≤◌, ◌-◌, [], length, take, None}
use Rattle.master_file.specs.FaultyLine.{shows}
use Rattle.master_file.specs.ZoneText.{first_line}
use Rattle.master_file.proofs.faulty.first_shown.Given as goal

abbrev pub invariant-loop-low : goal.invariant-loop-low
invariant-loop-low l = record {
  apart : l.low < l.high;
  within : l.high ≤ length l.fn.records;
  none : first_line (shows l.fn.sought) [] (take l.low l.fn.records) ≡ None;
  some : first_line (shows l.fn.sought) [] (take l.high l.fn.records) ≡ None → ⊥;
}

abbrev pub decreases-loop-low : goal.decreases-loop-low
decreases-loop-low l = l.high - l.low
