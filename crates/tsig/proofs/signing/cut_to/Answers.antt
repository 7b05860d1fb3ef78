use Rattle.std.proofs.Common.{arith, refl}
use Rattle.tsig.proofs.ListLemmas.{reply_cut, cut_counted, cut_behind}
use Rattle.tsig.proofs.signing.cut_to.Goals as goal

pub returns-clause-octets : goal.returns-clause-octets
returns-clause-octets c =
    reply_cut c.args.out.now c.put_at.new.out c.cut_middle-middle.result c.args.len c.args.len c.args.asked c.put_at.result c.args.end refl c.requires.header c.requires.before
    c.cut_middle-middle.ensures c.put_at.ensures.next c.put_at.ensures.front c.put_at.ensures.behind

pub returns-clause-counted : goal.returns-clause-counted
returns-clause-counted c =
    cut_counted c.args.out.now c.put_at.new.out c.cut_middle-middle.result c.args.len c.args.asked c.put_at.result (omega arith) c.cut_middle-middle.ensures c.put_at.ensures.next c.put_at.ensures.front

pub returns-clause-behind : goal.returns-clause-behind
returns-clause-behind c =
    cut_behind c.args.out.now c.put_at.new.out c.cut_middle-middle.result c.args.len c.args.len c.args.asked c.put_at.result (omega arith) c.cut_middle-middle.ensures c.put_at.ensures.next c.put_at.ensures.behind
