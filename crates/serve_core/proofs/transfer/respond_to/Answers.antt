use Rattle.serve_core.proofs.ServedLemmas.{answered_over, short_over}
use Rattle.serve_core.proofs.transfer.respond_to.Goals as goal

pub returns-clause-octets : goal.returns-clause-octets
returns-clause-octets g c = answered_over c.args.transport c.args.may (g.Z.ZoneRead.records c.args.zone.now) c.args.query.now c.over.result _ c.over.ensures.peer c.over.ensures.carried c.respond_to_peer.ensures.octets

pub returns-clause-len : goal.returns-clause-len
returns-clause-len g c = short_over c.args.transport c.args.query.now.edns c.over.result _ c.over.ensures.carried c.respond_to_peer.ensures.len
