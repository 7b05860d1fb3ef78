use Rattle.std.proofs.Common.{Ok, ◌∙◌}
use Rattle.dns_message.specs.Reads.{record_of}
use Rattle.tsig.proofs.RecordLemmas.{none_behind, some_behind}
use Rattle.tsig.proofs.record.tsig_behind.Goals as goal

pub returns-in-None : goal.returns-in-None
returns-in-None c = none_behind c.args.owner c.args.octets.now (record_of c.args.octets.now (Ok (c.args.owner, c.args.at))) c.data_at.result (c.data_at.ensures c.args.owner) c.in-None.is

pub returns-in-Some : goal.returns-in-Some
returns-in-Some c =
    c.tsig_of.ensures
    ∙ some_behind c.args.owner c.args.octets.now (record_of c.args.octets.now (Ok (c.args.owner, c.args.at))) c.data_at.result c.in-Some.own (c.data_at.ensures c.args.owner) c.in-Some.is
