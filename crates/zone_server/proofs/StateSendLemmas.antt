-- A server state may be sent to another thread.
use denote.Param.Send.{IsSend, recorded_send, struct_send, sendable}
use denote.RattleType.{RattleType}
use denote.Ref.{NamedLft}
use denote.Struct.Declared.{shape}
use Rattle.arrayvec.proofs.array_vec.ArrayVec.TheSendSync as array_vec
use Rattle.dns_engine.proofs.SendLemmas as engine
use Rattle.dns_engine.specs.declared.versions.FirstZone.{Ghosts}
use Rattle.dns_rdata.specs.contracts.raw.RawRecord as raw
use Rattle.snapshot_cell.proofs.SendLemmas as cell
use Rattle.snapshot_cell.specs.declared.named.Naming as naming
use Rattle.std.proofs.Crossing as crossing
use Rattle.std.proofs.sync.ledger.Book.TheSendSync as book
use Rattle.std.proofs.sync.ledger.Share.TheSendSync as share
use Rattle.zone_server.specs.contracts.server_state.ServerState as state
use Rattle.zone_server.specs.contracts.server_state.ServerState.TheInside as inside
use Rattle.zone_server.specs.contracts.right.PublishRight as right
use Rattle.zone_server.specs.contracts.pending_replies.PendingReplies as tickets
use Rattle.zone_server.specs.declared.right.ServerName as names

-- what a ticket has, step by step: one search for all of it breaks off
pub raw_send : IsSend raw.the_row
raw_send = search (array_vec.the_send, crossing.crosses, sendable) depth 60 fits 20000

replies_send : IsSend (tickets.the_field).row
replies_send = search (raw_send, array_vec.the_send, crossing.crosses, sendable) depth 60 fits 20000

pub right_send : (N : RattleType) (n : naming.Ghosts N.Denot) (s : names.Ghosts N.Denot) → IsSend (right.the_row N s n)
right_send N n s = search (share.the_send, crossing.crosses, sendable) depth 60 fits 20000

module _ (a : NamedLft) (T : RattleType) (g : Ghosts T.Denot) (N : RattleType) (n : naming.Ghosts N.Denot) (s : names.Ghosts N.Denot) where
  inside_send : IsSend (inside.the_row a T N n g s)
  inside_send =
      recorded_send (inside.the_field a T N n g s).row _ _ (inside.the_type a T N n g s).to_one
      (struct_send (shape (inside.the_type a T N n g s))
      (search (engine.shared_send, engine.shared_sync, cell.crosses, crossing.crosses, sendable) depth 60 fits 20000, (engine.engine_send a T g N n, (replies_send, (book.the_send _ _, (book.the_send _ _, (search (right_send, sendable) depth 60 fits 20000, tt)))))))

  pub state_send : IsSend (state.the_row a T N n g s)
  state_send = search (inside_send, sendable) depth 60 fits 20000
