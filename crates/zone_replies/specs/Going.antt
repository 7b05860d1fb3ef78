-- A transfer in progress, as contracts see it (RFC 1995, 4; RFC 5936, 2.2).
use Rattle.std.specs.Prelude.{ℕ, List}
use Rattle.zone_replies.specs.RemainingMessages.{messages_from}
use Rattle.zone_replies.specs.declared.transfer.Transfer.{Transfer}

-- the messages that are left of a transfer, in its version, with the versions of its chain
abbrev pub transfer_left : Transfer → List (List ℕ)
transfer_left t = messages_from t.version.zone t.chain.versions t.query t.is_begun t.place
