-- Who publishes batches and tells of them may be sent to a thread, with what brings replies.
use denote.RattleType.{RattleType}
use denote.Ref.{NamedLft}
use denote.Param.Send.{IsSend, IsSync, recorded_send, shr_send, struct_send, sendable}
use denote.Struct.Declared.{shape}
use Rattle.arrayvec.proofs.array_vec.ArrayVec.TheSendSync as array_vec
use Rattle.std.proofs.Crossing as crossing
use Rattle.std.proofs.option.Option.TheSendSync as option
use Rattle.std.proofs.sync.ledger.Share.TheSendSync as share
use Rattle.dns_engine.proofs.SendLemmas as engine
use Rattle.snapshot_cell.proofs.SendLemmas as cell
use Rattle.snapshot_cell.specs.declared.named.Naming as naming
use Rattle.dns_engine.specs.declared.versions.FirstZone.{Ghosts}
use Rattle.wire_names.specs.contracts.write.NameWriter as names
use Rattle.zone_server.specs.declared.right.ServerName as server_names
use Rattle.zone_server.proofs.ServerSendLemmas.{server_sync, tsig_send}
use Rattle.zone_server.specs.contracts.right.PublishRight as right
use Rattle.zone_server.specs.contracts.server_publisher.ServerPublisher as publisher
use Rattle.zone_server.specs.contracts.server_publisher.ServerPublisher.TheInside as inside
use Rattle.zone_server.specs.declared.reply_sender.ReplySender as replying
use Rattle.zone_server.proofs.StateSendLemmas.{raw_send}
use Rattle.zone_server.specs.contracts.update_result.QueuedResult as result
use Rattle.zone_server.specs.contracts.outgoing.Outgoing as outgoing

names_send : IsSend names.the_row
names_send = search (array_vec.the_send, crossing.crosses, sendable) depth 60 fits 20000

right_send : (N : RattleType) (n : naming.Ghosts N.Denot) (s : server_names.Ghosts N.Denot) → IsSend (right.the_field N s n).row
right_send N n s = search (share.the_send, crossing.crosses, sendable) depth 60 fits 20000

result_send : IsSend result.the_row
result_send = search (raw_send, tsig_send, array_vec.the_send, option.the_field_send, option.the_send, crossing.crosses, sendable) depth 60 fits 20000

outgoing_send : IsSend outgoing.the_row
outgoing_send = search (raw_send, tsig_send, array_vec.the_send, option.the_field_send, option.the_send, crossing.crosses, sendable) depth 60 fits 20000

module _ (a b : NamedLft) (T N L P : RattleType) (g : Ghosts T.Denot) (n : naming.Ghosts N.Denot) (s : server_names.Ghosts N.Denot) (r : replying.Ghosts P.Denot) where
  inside_send : IsSync L → IsSend P → IsSend (inside.the_row a b T N L P n g s r)
  inside_send hears brings =
      recorded_send (inside.the_field a b T N L P n g s r).row _ _ (inside.the_type a b T N L P n g s r).to_one
      (struct_send (shape (inside.the_type a b T N L P n g s r))
      (shr_send _ _ _ (server_sync b T N g n s), (search (cell.crosses, crossing.crosses, sendable) depth 60 fits 20000, (search (right_send, sendable) depth 60 fits 20000, (search (crossing.crosses, sendable) depth 60 fits 20000, (brings, (search (crossing.crosses, sendable) depth 60 fits 20000, (search (names_send, sendable) depth 60 fits 20000, (search (crossing.crosses, sendable) depth 60 fits 20000, (search (crossing.crosses, sendable) depth 60 fits 20000, (search (engine.shared_send, crossing.crosses, sendable) depth 60 fits 20000, (search (result_send, crossing.crosses, sendable) depth 60 fits 20000, (search (outgoing_send, crossing.crosses, sendable) depth 60 fits 20000, (search (crossing.crosses, sendable) depth 60 fits 20000, tt))))))))))))))

  pub publisher_send : IsSync L → IsSend P → IsSend (publisher.the_row a b T N L P n g s r)
  publisher_send hears brings = let inside = inside_send hears brings in search sendable depth 60 fits 20000
