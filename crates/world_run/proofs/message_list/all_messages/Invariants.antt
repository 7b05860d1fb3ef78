use Rattle.std.proofs.Common.{◌≡◌, ◌++◌, length}
use Rattle.world_run.proofs.message_list.all_messages.Given as goal

-- the messages so far are those in front of the ones that are left
abbrev pub invariant-loop-len : goal.invariant-loop-len
invariant-loop-len g l = (length l.out.items ≡ 16384) × (l.items.items ++ l.left ≡ l.fn.packer)

abbrev pub decreases-loop-len : goal.decreases-loop-len
decreases-loop-len g l = length l.left
