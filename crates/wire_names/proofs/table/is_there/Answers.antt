use Rattle.std.proofs.Common.{◌+◌, length}
use Rattle.wire_names.proofs.PlainLemmas.{on_true, plain_at, where_true}
use Rattle.wire_names.proofs.table.is_there.Goals as goal

pub returns-then-stands_at : goal.returns-then-stands_at
returns-then-stands_at c = (c.args.place + length c.args.octets.now, plain_at c.args.msg.now c.args.octets.now c.args.place c.requires (on_true _ _ c.if-stands_at.true c.stands_at.ensures))

pub returns : goal.returns
returns c = where_true _ _ c.spells.ensures
