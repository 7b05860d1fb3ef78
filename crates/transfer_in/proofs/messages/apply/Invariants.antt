use Rattle.std.proofs.Common.{◌≡◌, [], take}
use Rattle.zone_tree.specs.Zone.{apex_of}
use Rattle.transfer_in.specs.Taking.{IsRead, IsKept}
use Rattle.transfer_in.specs.declared.taking.Progress.TheVariants.{Nothing}
use Rattle.transfer_in.proofs.MessageLemmas.{records_of}
use Rattle.transfer_in.proofs.messages.apply.Given as goal

abbrev pub invariant-loop-message : goal.invariant-loop-message
invariant-loop-message l = record {
  read : IsRead l.zone l.initial.progress l.progress (records_of (take l.message-index l.messages));
  kept : IsKept (apex_of l.zone) l.progress;
  still : records_of l.messages ≡ [] → l.progress ≡ Nothing;
}
