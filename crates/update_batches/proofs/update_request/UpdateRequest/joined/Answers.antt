use Rattle.update_batches.proofs.ReadLemmas.{read_from}
use Rattle.update_batches.proofs.update_request.UpdateRequest.joined.Goals as goal

pub invariant_of-result : goal.invariant_of-result
invariant_of-result c = record { read = read_from c.args.messages c.args.update c.requires }
