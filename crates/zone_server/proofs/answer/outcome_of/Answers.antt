-- What is told of a request that asks for an update is told of it.
use Rattle.zone_server.specs.Updated.{read}
use Rattle.zone_server.proofs.answer.outcome_of.Goals as goal

pub returns-in-Ok : goal.returns-in-Ok
returns-in-Ok g c = read c.in-Ok.update c.in-Ok.ensures c.of_update-heading.ensures c.judge.ensures

pub returns-in-Err : goal.returns-in-Err
returns-in-Err g c = c.in-Err.ensures g.Z.FirstZone.zone c.args.may c.args.reader.now
