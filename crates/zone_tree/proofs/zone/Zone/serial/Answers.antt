use Rattle.zone_tree.proofs.VersionLemmas.{rtype_of-soa}
use Rattle.zone_tree.proofs.zone.Zone.serial.Goals as goal

pub serial_in-requires-clause-typed : goal.serial_in-requires-clause-typed
serial_in-requires-clause-typed c = rtype_of-soa c.args.self.now c.soa.result.now c.soa.ensures.set c.soa.ensures.one
