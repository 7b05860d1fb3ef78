use Rattle.std.proofs.Common.{sym}
use Rattle.dns_message.proofs.DataLemmas.{IsAmong-first, IsAmong-none, IsAmong-end, IsAmong-behind, IsAmong-stop}
use Rattle.dns_message.proofs.data.put_names.Goals as goal

pub loop-init : goal.loop-init
loop-init c = IsAmong-first _ _ _ _ _ _ c.requires.within c.requires.table

pub returns-in_default : goal.returns-in_default
returns-in_default c =
    IsAmong-none _ _ _ _ _ _ _ _ _ _ _ _ _ c.loop.invariant (sym c.in_default.ensures) c.put.ensures

pub returns-in_err-next : goal.returns-in_err-next
returns-in_err-next c =
    IsAmong-stop _ _ _ _ _ _ _ _ _ _ _ c.put_name_octets.new.out _ _ _ c.loop.invariant c.loop-test.true (sym c.in-Some.ensures.name) c.from_residual.ensures c.in_err-next.ensures

pub put_name_octets-requires-clause-within : goal.put_name_octets-requires-clause-within
put_name_octets-requires-clause-within c = c.loop.invariant.within

pub put_name_octets-requires-clause-table : goal.put_name_octets-requires-clause-table
put_name_octets-requires-clause-table c = c.loop.invariant.lawful

pub loop-preserved : goal.loop-preserved
loop-preserved c =
    IsAmong-behind _ _ _ _ _ _ _ _ _ _ _ _ _ _ _ _ c.loop.invariant c.loop-test.true c.in-Some.ensures c.in_ok-next.ensures

pub returns : goal.returns
returns c = IsAmong-end _ _ _ _ _ _ _ _ _ _ _ _ _ c.loop.invariant c.loop-test.false c.put-2.ensures
