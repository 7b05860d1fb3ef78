use Rattle.zone_deploy.proofs.TransferLemmas.{IsUnderWay, octets_of}
use Rattle.std.specs.Option.{option_copied}
use Rattle.zone_deploy.proofs.transfer.read_transfer.Given as goal

-- what was read of the transfer
abbrev pub invariant-loop : goal.invariant-loop
invariant-loop g l =
    IsUnderWay (option_copied l.key) l.query (g.R.Read.remaining l.initial.reader) l.initial.chain (g.R.Read.remaining l.reader) l.chain l.has_begun (octets_of l.messages.items)
