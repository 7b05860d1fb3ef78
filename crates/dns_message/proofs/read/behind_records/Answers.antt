use Rattle.dns_message.proofs.ReadLemmas.{none_behind}
use Rattle.dns_message.proofs.read.behind_records.Goals as goal

pub returns-then-count-eq0 : goal.returns-then-count-eq0
returns-then-count-eq0 c = none_behind c.args.octets.now c.args.count c.args.at c.if-count-eq0.true
