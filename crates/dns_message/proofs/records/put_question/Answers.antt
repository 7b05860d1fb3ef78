use Rattle.std.specs.Int.{to_be_bytes, w16}
use Rattle.std.proofs.Common.{true, ◌++◌, None}
use Rattle.dns_message.specs.Encoding.{named, these}
use Rattle.dns_message.specs.Octets.{question_octets}
use Rattle.dns_message.proofs.EncodedLemmas.{WritesParts-octets, WritesParts-then, WritesParts-stop, WritesEncoding-stop, WritesEncoding-octets}
use Rattle.dns_message.proofs.records.put_question.Goals as goal

pub returns-in_err-at-clause-put : goal.returns-in_err-at-clause-put
unfolding question_octets
returns-in_err-at-clause-put c =
    let rtype = to_be_bytes w16 c.args.question.now.rtype.0 in
    let class = to_be_bytes w16 c.args.question.now.class.0 in
    rw c.from_residual.ensures (WritesEncoding-stop (named true c.args.question.now.name) (these (rtype ++ class)) c.args.out.now c.put_name.new.out c.args.at c.args.names.now c.put_name.new.names c.put_name.new.names c.in_err-at.ensures.put)

pub returns-in_err-at-2-clause-put : goal.returns-in_err-at-2-clause-put
unfolding question_octets
returns-in_err-at-2-clause-put c =
    let rtype = to_be_bytes w16 c.args.question.now.rtype.0 in
    let class = to_be_bytes w16 c.args.question.now.class.0 in
    let stops = WritesParts-stop c.put_name.new.out c.put_u16.new.out c.in_ok-at.at rtype class c.in_err-at-2.ensures in
    rw c.from_residual-in_err-at-2.ensures (WritesEncoding-octets (named true c.args.question.now.name) (rtype ++ class) c.args.out.now c.put_name.new.out c.put_u16.new.out c.args.at c.in_ok-at.at c.args.names.now c.put_name.new.names None c.in_ok-at.ensures.put stops)

pub returns-clause-put : goal.returns-clause-put
unfolding question_octets
returns-clause-put c =
    let rtype = to_be_bytes w16 c.args.question.now.rtype.0 in
    let class = to_be_bytes w16 c.args.question.now.class.0 in
    let last = WritesParts-octets c.put_u16.new.out c.put_u16-2.new.out c.in_ok-at-2.at class c.put_u16-2.result c.put_u16-2.ensures in
    let both = WritesParts-then c.put_name.new.out c.put_u16.new.out c.put_u16-2.new.out c.in_ok-at.at c.in_ok-at-2.at rtype class c.put_u16-2.result c.in_ok-at-2.ensures last in
    WritesEncoding-octets (named true c.args.question.now.name) (rtype ++ class) c.args.out.now c.put_name.new.out c.put_u16-2.new.out c.args.at c.in_ok-at.at c.args.names.now c.put_name.new.names c.put_u16-2.result c.in_ok-at.ensures.put both
