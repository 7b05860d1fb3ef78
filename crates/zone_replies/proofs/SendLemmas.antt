-- Who answers on connections may be sent to another thread.
use denote.RattleType.{RattleType}
use denote.Ref.{NamedLft}
use denote.Param.Send.{IsSend, IsSync, recorded_send, shr_send, struct_send, sendable}
use denote.Struct.Declared.{shape}
use Rattle.arrayvec.proofs.array_vec.ArrayVec.TheSendSync as array_vec
use Rattle.std.proofs.Crossing as crossing
use Rattle.std.proofs.alloc.Global.TheSendSync as global
use Rattle.std.proofs.option.Option.TheSendSync as option
use Rattle.snapshot_cell.proofs.SendLemmas as cell
use Rattle.snapshot_cell.specs.declared.named.Naming as naming
use Rattle.dns_engine.specs.declared.versions.FirstZone.{Ghosts}
use Rattle.dns_message.specs.contracts.query.Query as query
use Rattle.requests.specs.contracts.allowed.Allowed as allowed
use Rattle.rights.specs.contracts.rule.NameScope as scope
use Rattle.rights.specs.contracts.rule.Rule as rule
use Rattle.rights.specs.contracts.rule.UpdateRight as update_right
use Rattle.wire_names.specs.contracts.write.NameWriter as names
use Rattle.zone_server.specs.declared.right.ServerName as server_names
use Rattle.zone_server.proofs.ServerSendLemmas.{server_sync, sender_send}
use Rattle.zone_server.specs.contracts.open_ticket.WaitingTicket as ticket
use Rattle.zone_replies.specs.contracts.connection_handler.ConnectionHandler as replies
use Rattle.zone_replies.specs.contracts.connection_handler.ConnectionHandler.TheInside as inside
use Rattle.zone_replies.specs.contracts.pending_updates.PendingUpdates as taken

scope_sync : IsSync (scope.the_field).row
scope_sync = search (array_vec.the_sync, crossing.crosses, sendable) depth 60 fits 20000

right_sync : IsSync (update_right.the_field).row
right_sync = search (scope_sync, crossing.crosses, sendable) depth 60 fits 20000

pub rule_sync : IsSync (rule.the_field).row
rule_sync = search (right_sync, array_vec.the_sync, option.the_field_sync, option.the_sync, crossing.crosses, sendable) depth 60 fits 20000

pub allowed_send : (a : NamedLft) → IsSend (allowed.the_field a).row
allowed_send a = search (rule_sync, global.the_field_send, crossing.crosses, sendable) depth 60 fits 20000

query_send : IsSend (query.the_field).row
query_send = search (array_vec.the_send, option.the_field_send, crossing.crosses, sendable) depth 60 fits 20000

names_send : IsSend names.the_row
names_send = search (array_vec.the_send, crossing.crosses, sendable) depth 60 fits 20000

ticket_send : IsSend (ticket.the_field).row
ticket_send = search (crossing.crosses, sendable) depth 60 fits 20000

pending_send : (N : RattleType) (n : naming.Ghosts N.Denot) → IsSend (taken.the_row N n)
pending_send N n = search (ticket_send, cell.crosses, option.the_field_send, option.the_send, crossing.crosses, sendable) depth 60 fits 20000

module _ (a b : NamedLft) (T N L : RattleType) (g : Ghosts T.Denot) (n : naming.Ghosts N.Denot) (s : server_names.Ghosts N.Denot) (hears : IsSync L) where
  inside_send : IsSend (inside.the_row a b T N L n g s)
  inside_send =
      recorded_send (inside.the_field a b T N L n g s).row _ _ (inside.the_type a b T N L n g s).to_one
      (struct_send (shape (inside.the_type a b T N L n g s))
      (shr_send _ _ _ (server_sync b T N g n s), (search (cell.crosses, crossing.crosses, sendable) depth 60 fits 20000, (search (crossing.crosses, sendable) depth 60 fits 20000, (search (global.the_field_send, sendable) depth 60 fits 20000, (search (crossing.crosses, sendable) depth 60 fits 20000, (search (crossing.crosses, sendable) depth 60 fits 20000, (search (crossing.crosses, sendable) depth 60 fits 20000, (search (query_send, sendable) depth 60 fits 20000, (search (names_send, sendable) depth 60 fits 20000, (search (allowed_send, option.the_field_send, option.the_send, crossing.crosses, sendable) depth 60 fits 20000, (search (sender_send, option.the_field_send, option.the_send, crossing.crosses, sendable) depth 60 fits 20000, (pending_send N n, tt)))))))))))))

  pub connection_handler_send : IsSend (replies.the_row a b T N L n g s)
  connection_handler_send = search (inside_send, sendable) depth 60 fits 20000
