-- The handler of connections, and the updates that are pending on them, as contracts see them (own).
use Rattle.std.specs.Prelude.{ℕ, Bool, List, Option}
use Rattle.std.specs.declared.net.socket_addr.SocketAddr.{SocketAddr}
use Rattle.zone_tree.specs.Version.{Version}
use Rattle.snapshot_cell.specs.Tokens.{ReaderState}
use Rattle.serve_core.specs.declared.peer.Peer.{Peer}
use Rattle.zone_server.specs.declared.open_ticket.WaitingTicket.{WaitingTicket}

-- updates that are pending on a connection: the address of its peer, the tickets for the result of the first one and for those of the ones after it,
-- the number of the last version that was published when the first of those that waited together was submitted, and what the reader knew before
pub record PendingState : Type 0 where
  pub from : SocketAddr
  pub ticket : WaitingTicket
  pub more : List WaitingTicket
  pub number : ℕ
  pub known : ReaderState Version

-- the handler: its reader, the current peer and the key of its connection, the pending updates by the keys of their connections, and whether it submits
-- updates to the update thread
pub record HandlerState : Type 0 where
  pub reader : ReaderState Version
  pub peer : Peer
  pub asker : ℕ
  pub taken : List (Option PendingState)
  pub submits : Bool
