use Rattle.dns_message.specs.Octets.{data_octets}
use Rattle.dns_message.proofs.KeepsLemmas.{Keeps-data}
use Rattle.dns_message.proofs.DataLemmas.{measured_short, measured_stop, measured_whole}
use Rattle.dns_message.proofs.EncodedLemmas.{stays}
use Rattle.dns_message.proofs.data.put_measured.Goals as goal

pub returns-in_err-start : goal.returns-in_err-start
returns-in_err-start c =
    rw c.from_residual.ensures (measured_short (data_octets c.args.rtype.0 c.args.octets.now) c.args.out.now c.put_u16.new.out c.args.at c.args.names.now c.args.names.now c.in_err-start.ensures)

pub put_data-requires-clause-table : goal.put_data-requires-clause-table
put_data-requires-clause-table c = (stays _ _ _ _ _ _ c.requires.table c.in_ok-start.ensures).all

pub returns-in_err-next : goal.returns-in_err-next
returns-in_err-next c =
    rw c.from_residual-in_err-next.ensures (measured_stop (data_octets c.args.rtype.0 c.args.octets.now) c.args.out.now c.put_u16.new.out c.put_data.new.out c.args.at c.in_ok-start.start c.args.names.now c.put_data.new.names c.requires.table c.in_ok-start.ensures c.in_err-next.ensures)

pub returns : goal.returns
returns c =
    measured_whole (data_octets c.args.rtype.0 c.args.octets.now) _ _ _ _ _ _ _ _ _ (Keeps-data c.args.rtype.0 c.args.octets.now) c.requires.within c.requires.table c.in_ok-start.ensures c.in_ok-next.ensures c.set_u16.ensures
