use Rattle.std.proofs.Common.{◌<◌, length, refl, rules}
use Rattle.zone_change.proofs.MessagesLemmas.{long_record, part_put}
use Rattle.zone_change.proofs.messages.put_rest.Goals as goal

pub returns-then-count-eq0-clause-long : goal.returns-then-count-eq0-clause-long
returns-then-count-eq0-clause-long c _ =
    let some : 0 < length c.loop-rest.rest.now = search rules in
    long_record c.args.zone.now c.args.records.now c.loop-rest.rest.now _ _ c.room_beside.result c.unwrap_or-room.result c.fitting-count.result c.loop-rest.invariant some
    c.room_beside.ensures c.unwrap_or-room.ensures c.if-count-eq0.true c.fitting-count.ensures.most

pub loop-rest-preserved : goal.loop-rest-preserved
loop-rest-preserved c =
    part_put c.args.zone.now c.args.records.now c.loop-rest.rest.now _ _ _ _ c.room_beside.result c.unwrap_or-room.result c.fitting-count.result c.loop-rest.invariant
    c.room_beside.ensures c.unwrap_or-room.ensures c.if-count-eq0.false c.fitting-count.ensures.count c.fitting-count.ensures.room refl c.in_ok-put_part.ensures
