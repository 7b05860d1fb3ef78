use Rattle.update_core.proofs.ChangedOwners.{differ_only}
use Rattle.update_core.proofs.outcome.with_delta.Goals as goal

pub between-requires : goal.between-requires
between-requires c = differ_only c.args.zone.now c.args.after c.in_ok-next.next c.args.raws.now c.in_ok-owners_of.field-0.items c.in_ok-owners_of.ensures c.requires c.in_ok-next.ensures
