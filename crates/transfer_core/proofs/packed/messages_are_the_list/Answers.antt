use Rattle.transfer_core.proofs.PackedLemmas.{all_records, same_head, no_question, no_opt}
use Rattle.transfer_core.proofs.packed.messages_are_the_list.Goals as goal

pub returns : goal.returns
returns c = record { records = all_records; headers = same_head; questions = no_question; opts = no_opt }
