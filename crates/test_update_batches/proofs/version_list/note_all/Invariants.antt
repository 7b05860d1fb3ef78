-- The replies so far and those to the updates that are left, with the verdicts that are left, are all.
use Rattle.std.proofs.Common.{◌≡◌, ◌++◌, take}
use Rattle.std.specs.Vec.Iter.{drain_items}
use Rattle.update_batches.specs.Results.{replies_to}
use Rattle.test_update_batches.proofs.version_list.note_all.Given as goal

abbrev pub invariant-loop-update : goal.invariant-loop-update
invariant-loop-update l =
    l.replied.replies ++ replies_to l.left (drain_items l.update-iterator) ≡ l.fn.replied.replies ++ replies_to l.fn.verdicts (take l.fn.count l.fn.requests.items)
