use Rattle.std.proofs.Common.{◌≡◌, length, take}
use Rattle.zone_tree.specs.Zone.{apex_of}
use Rattle.transfer_in.specs.Taking.{IsRead, IsKept}
use Rattle.transfer_in.proofs.taking.Progress.read_all.Given as goal

abbrev pub invariant-loop-sent : goal.invariant-loop-sent
invariant-loop-sent l = record {
  read : IsRead l.zone l.initial.progress l.progress (take l.sent-index l.records);
  kept : IsKept (apex_of l.zone) l.progress;
  still : length l.records ≡ 0 → l.progress ≡ l.initial.progress;
}
