use Rattle.message_counts.proofs.ReplyLemmas.{replies_count_once}
use Rattle.message_counts.proofs.laws.replies_count_once.Goals as goal

pub returns : goal.returns
returns c = replies_count_once
