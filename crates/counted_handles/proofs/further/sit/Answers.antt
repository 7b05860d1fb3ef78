use Rattle.counted_handles.proofs.further.sit.Goals as goal

pub returns : goal.returns
returns g c mark is =
    let held = c.hold-claim.ensures.held mark is in
    record { it = c.hold-claim.result; held_is = c.replace.ensures.after; stake_is = held.0; value_is = held.1 }
