-- A worker may be sent to a thread, and so may the jobs on sockets and who answers in them.
use denote.RattleType.{RattleType}
use denote.Ref.{NamedLft}
use denote.Param.Send.{IsSend, IsSync, recorded_send, recorded_sync, shr_send, struct_send, struct_sync, sendable}
use denote.Struct.Declared.{shape}
use Rattle.arrayvec.proofs.array_vec.ArrayVec.TheSendSync as array_vec
use Rattle.arrayvec.proofs.cells.Cells.TheSendSync as cells
use Rattle.std.proofs.Crossing as crossing
use Rattle.std.proofs.alloc.Global.TheSendSync as global
use Rattle.std.proofs.option.Option.TheSendSync as option
use Rattle.std.proofs.sync.Mutex.TheSendSync as mutex
use Rattle.snapshot_cell.proofs.SendLemmas as cell
use Rattle.snapshot_cell.specs.declared.named.Naming as naming
use Rattle.counters.proofs.SendLemmas as shown
use Rattle.dns_engine.proofs.SendLemmas as engine
use Rattle.dns_engine.specs.declared.versions.FirstZone.{Ghosts}
use Rattle.dns_message.specs.contracts.query.Query as query
use Rattle.signed_replies.specs.contracts.messages.SignedMessages as signed_messages
use Rattle.sockets.specs.contracts.peer.TcpPeer as peer
use Rattle.sockets.specs.contracts.place.TcpPlace as place
use Rattle.sockets.specs.contracts.watch.Watch as watch
use Rattle.wire_names.specs.contracts.write.NameWriter as names
use Rattle.tcp_connections.specs.contracts.connection.Connection as connection
use Rattle.tcp_connections.specs.contracts.machine.ConnectionState as state_of
use Rattle.tcp_connections.specs.declared.handler.Messages as messages
use Rattle.tcp_loop.specs.contracts.worker.EventLoop as event_loop
use Rattle.tsig.specs.contracts.key.Key as key
use Rattle.tsig.specs.contracts.keys.Keys as shared_keys
use Rattle.zone_server.specs.declared.right.ServerName as server_names
use Rattle.zone_server.proofs.ServerSendLemmas.{server_sync, sender_send, tsig_send}
use Rattle.zone_server.specs.contracts.datagram_handler.DatagramHandler as asked
use Rattle.zone_replies.proofs.SendLemmas.{allowed_send}
use Rattle.zone_replies.specs.contracts.transfer.Transfer as transfer
use Rattle.worker_jobs.specs.contracts.connections_job.ConnectionsJob as connections
use Rattle.worker_jobs.specs.contracts.waking_poll.WakingPoll as waking
use Rattle.worker_jobs.specs.contracts.notify_job.NotifyJob as telling
use Rattle.worker_jobs.specs.contracts.notify_socket.NotifySocket as told
use Rattle.worker_jobs.specs.contracts.wake_list.State as state
use Rattle.worker_jobs.specs.contracts.wake_list.WakeList as keys
use Rattle.worker_jobs.specs.contracts.workers.Worker as worker

query_send : IsSend (query.the_field).row
query_send = search (array_vec.the_send, option.the_field_send, crossing.crosses, sendable) depth 60 fits 20000

names_send : IsSend names.the_row
names_send = search (array_vec.the_send, crossing.crosses, sendable) depth 60 fits 20000

pub transfer_send : IsSend transfer.the_row
transfer_send = search (engine.shared_send, engine.shared_sync, array_vec.the_send, cells.the_field_send, option.the_field_send, option.the_send, crossing.crosses, sendable) depth 60 fits 20000

watch_send : (a : NamedLft) (C : RattleType) → IsSync C → IsSend (watch.the_row a C)
watch_send a C ticks = search (crossing.crosses, sendable) depth 60 fits 20000

peer_send : IsSend peer.the_row
peer_send = search (crossing.crosses, sendable) depth 60 fits 20000

place_send : IsSend place.the_row
place_send = search (crossing.crosses, sendable) depth 60 fits 20000

woken_send : IsSend state.the_row
woken_send = search (option.the_field_send, option.the_send, crossing.crosses, sendable) depth 60 fits 20000

pub woken_sync : IsSync keys.the_row
woken_sync = recorded_sync (keys.the_field).row _ _ (keys.the_type).to_one (struct_sync (shape (keys.the_type)) (mutex.the_sync _ woken_send, tt))

waking_send : (a : NamedLft) (P : RattleType) → IsSend P → IsSend (waking.the_field a P).row
waking_send a P polls = search (woken_sync, option.the_field_send, option.the_send, crossing.crosses, sendable) depth 60 fits 20000

state_send : (M : RattleType) (m : messages.Ghosts M.Denot) → IsSend M → IsSend (state_of.the_row M m)
state_send M m makes = search (option.the_field_send, global.the_field_send, crossing.crosses, sendable) depth 60 fits 20000

connection_send : (S M : RattleType) (m : messages.Ghosts M.Denot) → IsSend S → IsSend M → IsSend (connection.the_row S M m)
connection_send S M m peers makes = search (state_send, crossing.crosses, sendable) depth 60 fits 20000

loop_send : (S M : RattleType) (m : messages.Ghosts M.Denot) → IsSend S → IsSend M → IsSend (event_loop.the_field S M m).row
loop_send S M m peers makes = search (connection_send, global.the_field_send, crossing.crosses, sendable) depth 60 fits 20000

connections_send : (a : NamedLft) (S P L M C : RattleType) (m : messages.Ghosts M.Denot) → IsSend S → IsSend P → IsSend L → IsSend M → IsSync C → IsSend (connections.the_field a S P L M C m).row
connections_send a S P L M C m peers polls places makes ticks =
    struct_send (shape (connections.the_type a S P L M C m))
    (search (crossing.crosses, sendable) depth 60 fits 20000, (waking_send a P polls, (search (crossing.crosses, sendable) depth 60 fits 20000, (loop_send S M m peers makes, (search (allowed_send, crossing.crosses, sendable) depth 60 fits 20000, (search (crossing.crosses, sendable) depth 60 fits 20000, (search (crossing.crosses, sendable) depth 60 fits 20000, (search (crossing.crosses, sendable) depth 60 fits 20000, (search (crossing.crosses, sendable) depth 60 fits 20000, (search (crossing.crosses, sendable) depth 60 fits 20000, (search (crossing.crosses, sendable) depth 60 fits 20000, (search (crossing.crosses, sendable) depth 60 fits 20000, tt))))))))))))

pub tcp_send : (a : NamedLft) (M C : RattleType) (m : messages.Ghosts M.Denot) → IsSend M → IsSync C → IsSend (connections.the_field a peer.the_row (watch.the_row a C) place.the_row M C m).row
tcp_send a M C m makes ticks = connections_send a peer.the_row (watch.the_row a C) place.the_row M C m peer_send (watch_send a C ticks) place_send makes ticks

-- the same as an argument of another type
pub tcp_row_send : (a : NamedLft) (M C : RattleType) (m : messages.Ghosts M.Denot) → IsSend M → IsSync C → IsSend (connections.the_row a peer.the_row (watch.the_row a C) place.the_row M C m)
tcp_row_send a M C m makes ticks =
    recorded_send (connections.the_field a peer.the_row (watch.the_row a C) place.the_row M C m).row _ _ (connections.the_type a peer.the_row (watch.the_row a C) place.the_row M C m).to_one (tcp_send a M C m makes ticks)

pub key_sync : IsSync key.the_row
key_sync = search (array_vec.the_sync, crossing.crosses, sendable) depth 60 fits 20000

pub keys_sync : IsSync shared_keys.the_row
keys_sync = search (key_sync, crossing.crosses, sendable) depth 60 fits 20000

-- the signed messages of a reply may be sent to a thread where its messages may
pub signed_messages_send : (a : NamedLft) (M : RattleType) → IsSend M → IsSend (signed_messages.the_row a M)
signed_messages_send a M makes = search (key_sync, array_vec.the_send, option.the_field_send, option.the_send, crossing.crosses, sendable) depth 60 fits 20000

told_send : IsSend (told.the_field).row
told_send = search (array_vec.the_send, option.the_field_send, option.the_send, crossing.crosses, sendable) depth 60 fits 20000

pub telling_send : (a : NamedLft) (C : RattleType) → IsSync C → IsSend (telling.the_field a C).row
telling_send a C ticks = search (told_send, keys_sync, shown.server_sync, option.the_field_send, option.the_send, global.the_field_send, crossing.crosses, sendable) depth 60 fits 20000

pub datagram_handler_send : (a b : NamedLft) (T N L : RattleType) (g : Ghosts T.Denot) (n : naming.Ghosts N.Denot) (s : server_names.Ghosts N.Denot) → IsSync L → IsSend (asked.the_field a b T N L n g s).row
datagram_handler_send a b T N L g n s hears =
    struct_send (shape (asked.the_type a b T N L n g s))
    (shr_send _ _ _ (server_sync b T N g n s), (search (cell.crosses, crossing.crosses, sendable) depth 60 fits 20000, (search (crossing.crosses, sendable) depth 60 fits 20000, (search (global.the_field_send, sendable) depth 60 fits 20000, (search (crossing.crosses, sendable) depth 60 fits 20000, (search (crossing.crosses, sendable) depth 60 fits 20000, (search (query_send, sendable) depth 60 fits 20000, (search (names_send, sendable) depth 60 fits 20000, (search (allowed_send, option.the_field_send, option.the_send, crossing.crosses, sendable) depth 60 fits 20000, (search (sender_send, option.the_field_send, option.the_send, crossing.crosses, sendable) depth 60 fits 20000, (search (tsig_send, option.the_field_send, option.the_send, crossing.crosses, sendable) depth 60 fits 20000, tt)))))))))))

pub worker_send : (a b : NamedLft) (T N J L : RattleType) (g : Ghosts T.Denot) (n : naming.Ghosts N.Denot) (s : server_names.Ghosts N.Denot) → IsSend J → IsSync L → IsSend (worker.the_row a b T N J L n g s)
worker_send a b T N J L g n s sends hears =
    recorded_send (worker.the_field a b T N J L n g s).row _ _ (worker.the_type a b T N J L n g s).to_one
    (struct_send (shape (worker.the_type a b T N J L n g s)) (datagram_handler_send a b T N L g n s hears, (sends, (search (crossing.crosses, sendable) depth 60 fits 20000, tt))))
