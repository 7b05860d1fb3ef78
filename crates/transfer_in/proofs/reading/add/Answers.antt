use Rattle.transfer_in.proofs.reading.add.Goals as goal

pub returns-then-not-is_soa-clause-reported : goal.returns-then-not-is_soa-clause-reported
returns-then-not-is_soa-clause-reported c = c.add_one.ensures.reported c.args.first.now
