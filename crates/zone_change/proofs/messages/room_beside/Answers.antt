use Rattle.zone_change.proofs.MessagesLemmas.{room_left}
use Rattle.zone_change.proofs.messages.room_beside.Goals as goal

pub returns : goal.returns
returns c =
    room_left c.args.zone.now c.args.prerequisites.now c.loop-raw.raw-index c.loop-raw.len c.checked_sub.result c.loop-raw-test.false c.loop-raw.invariant c.checked_sub.ensures
