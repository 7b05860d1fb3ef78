use Rattle.std.proofs.Common.{refl}
use Rattle.dns_message.proofs.OptLemmas.{none_heard}
use Rattle.dns_message.proofs.edns.opt_at.Goals as goal

pub returns-then-count-eq0 : goal.returns-then-count-eq0
returns-then-count-eq0 c = none_heard c.args.octets.now c.args.count c.args.at _ c.if-count-eq0.true refl
