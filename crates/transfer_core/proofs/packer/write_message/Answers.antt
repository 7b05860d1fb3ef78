use Rattle.transfer_core.proofs.CountLemmas.{written_of}
use Rattle.transfer_core.proofs.packer.write_message.Goals as goal

pub returns-clause-message : goal.returns-clause-message
returns-clause-message g c = written_of _ _ _ _ _ _ _ _ _ c.write_first.result c.new-records.ensures c.write_first.ensures.message
