use Rattle.transfer_in.proofs.reading.go_on.Goals as goal

pub returns-in-Deleting-clause-reported : goal.returns-in-Deleting-clause-reported
returns-in-Deleting-clause-reported c = rw c.in-Deleting.is (c.delete.ensures.reported c.args.first.now)
