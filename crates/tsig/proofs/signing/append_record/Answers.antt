use Rattle.tsig.proofs.ListLemmas.{record_appended, record_behind}
use Rattle.tsig.proofs.signing.append_record.Goals as goal

pub returns-clause-octets : goal.returns-clause-octets
returns-clause-octets c =
    record_appended c.args.out.now c.put_at.new.out c.put_at-2.new.out c.to_be_bytes.result c.args.added.now c.args.len c.number_at-count.result c.put_at.result c.put_at-2.result
    c.requires.header c.number_at-count.ensures c.to_be_bytes.ensures c.put_at.ensures.next c.put_at.ensures.front c.put_at.ensures.behind c.put_at-2.ensures.front

pub returns-clause-behind : goal.returns-clause-behind
returns-clause-behind c =
    record_behind c.args.out.now c.put_at.new.out c.put_at-2.new.out c.to_be_bytes.result c.args.added.now c.args.len c.number_at-count.result c.put_at.result c.put_at-2.result
    c.requires.header c.to_be_bytes.ensures c.put_at.ensures.next c.put_at-2.ensures.next c.put_at.ensures.behind c.put_at-2.ensures.behind
