use Rattle.std.proofs.Common.{arith}
use Rattle.store_recovery.proofs.HeldLemmas.{oldest_out, all_stay}
use Rattle.store_recovery.proofs.recent_versions.make_room.Goals as goal

pub returns-then-len-lt-KEPT : goal.returns-then-len-lt-KEPT
returns-then-len-lt-KEPT c = all_stay c.args.older.now.items (omega (arith, c.len.ensures))

pub returns : goal.returns
returns c = oldest_out c.args.older.now.items _ (omega arith) c.requires c.remove.ensures.items
