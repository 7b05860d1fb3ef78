use Rattle.std.proofs.Common.{true, ◌++◌, None}
use Rattle.std.specs.Int.{to_be_bytes, w16, w32}
use Rattle.dns_name.specs.Labels.{labels_in}
use Rattle.dns_rdata.specs.Numbers.{class_IN}
use Rattle.dns_message.specs.Encoding.{named, these, before, measured}
use Rattle.dns_message.specs.Octets.{data_octets, record_octets}
use Rattle.dns_message.proofs.EncodedLemmas.{stays, WritesEncoding-these, WritesEncoding-then, WritesEncoding-stop, WritesEncoding-behind}
use Rattle.dns_message.proofs.TrueLemmas.{lawful}
use Rattle.dns_message.proofs.records.put_record_under.Goals as goal

pub returns-in_err-at : goal.returns-in_err-at
unfolding record_octets
returns-in_err-at c =
    let fixed = to_be_bytes w16 c.args.rtype.0 ++ to_be_bytes w16 class_IN ++ to_be_bytes w32 c.args.ttl.0 in
    let data_ = measured (data_octets c.args.rtype.0 c.args.rdata.now) in
    rw c.from_residual.ensures (WritesEncoding-stop (named true (labels_in c.args.owner.now)) (before (these fixed) data_) c.args.out.now c.put_name_octets.new.out c.args.at c.args.names.now c.put_name_octets.new.names c.put_name_octets.new.names c.in_err-at.ensures)

pub returns-in_err-at-2 : goal.returns-in_err-at-2
unfolding record_octets
returns-in_err-at-2 c =
    let fixed = to_be_bytes w16 c.args.rtype.0 ++ to_be_bytes w16 class_IN ++ to_be_bytes w32 c.args.ttl.0 in
    let data_ = measured (data_octets c.args.rtype.0 c.args.rdata.now) in
    let names = c.put_name_octets.new.names in
    let short = WritesEncoding-these fixed c.put_name_octets.new.out c.put_fixed.new.out c.in_ok-at.at names None (lawful c.in_ok-at.ensures) c.in_err-at-2.ensures in
    let stops = WritesEncoding-stop (these fixed) data_ c.put_name_octets.new.out c.put_fixed.new.out c.in_ok-at.at names names names short in
    rw c.from_residual-in_err-at-2.ensures
    (WritesEncoding-then (named true (labels_in c.args.owner.now)) (before (these fixed) data_) c.args.out.now c.put_name_octets.new.out c.put_fixed.new.out c.args.at c.in_ok-at.at c.args.names.now names names None c.in_ok-at.ensures stops)

pub put_measured-requires-clause-table : goal.put_measured-requires-clause-table
put_measured-requires-clause-table c = (stays _ _ _ _ _ _ (lawful c.in_ok-at.ensures) c.in_ok-at-2.ensures).all

pub returns : goal.returns
unfolding record_octets
returns c =
    let fixed = to_be_bytes w16 c.args.rtype.0 ++ to_be_bytes w16 class_IN ++ to_be_bytes w32 c.args.ttl.0 in
    let data_ = measured (data_octets c.args.rtype.0 c.args.rdata.now) in
    let behind = WritesEncoding-behind fixed data_ c.put_name_octets.new.out c.put_fixed.new.out c.put_measured.new.out c.in_ok-at.at c.in_ok-at-2.at c.put_name_octets.new.names c.put_measured.new.names c.put_measured.result (lawful c.in_ok-at.ensures) c.in_ok-at-2.ensures c.put_measured.ensures in
    WritesEncoding-then (named true (labels_in c.args.owner.now)) (before (these fixed) data_) c.args.out.now c.put_name_octets.new.out c.put_measured.new.out c.args.at c.in_ok-at.at c.args.names.now c.put_name_octets.new.names c.put_measured.new.names c.put_measured.result c.in_ok-at.ensures behind
