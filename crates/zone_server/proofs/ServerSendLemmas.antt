-- A server may be shared by threads, and who submits updates may be sent.
use denote.RattleType.{RattleType}
use denote.Ref.{NamedLft}
use denote.Param.Send.{IsSend, IsSync, recorded_sync, struct_sync, sendable}
use denote.Struct.Declared.{shape}
use Rattle.arrayvec.proofs.array_vec.ArrayVec.TheSendSync as array_vec
use Rattle.std.proofs.Crossing as crossing
use Rattle.std.proofs.option.Option.TheSendSync as option
use Rattle.std.proofs.sync.Mutex.TheSendSync as mutex
use Rattle.snapshot_cell.proofs.SendLemmas as cell
use Rattle.snapshot_cell.specs.declared.named.Naming as naming
use Rattle.dns_engine.proofs.SendLemmas as engine
use Rattle.zone_server.proofs.StateSendLemmas as state
use Rattle.zone_server.specs.declared.right.ServerName as names
use Rattle.dns_engine.specs.declared.versions.FirstZone.{Ghosts}
use Rattle.tsig.specs.contracts.request_tsig.RequestTsig as tsig
use Rattle.update_batches.proofs.queue.Queue.TheSendSync as queue
use Rattle.zone_server.specs.contracts.submit.UpdateSender as sender
use Rattle.update_batches.specs.contracts.queued_update.QueuedUpdate as waiting
use Rattle.zone_server.specs.contracts.server.Server as server

pub server_sync : (a : NamedLft) (T N : RattleType) (g : Ghosts T.Denot) (n : naming.Ghosts N.Denot) (s : names.Ghosts N.Denot) → IsSync (server.the_row a T N n g s)
server_sync a T N g n s =
    recorded_sync (server.the_field a T N n g s).row _ _ (server.the_type a T N n g s).to_one
    (struct_sync (shape (server.the_type a T N n g s))
    (search (engine.shared_send, engine.shared_sync, cell.crosses, crossing.crosses, sendable) depth 60 fits 20000, (mutex.the_sync _ (state.state_send a T g N n s), tt)))

pub tsig_send : IsSend (tsig.the_field).row
tsig_send = search (array_vec.the_send, crossing.crosses, sendable) depth 60 fits 20000

pub queued_send : IsSend waiting.the_row
queued_send = search (tsig_send, array_vec.the_send, option.the_field_send, option.the_send, crossing.crosses, sendable) depth 60 fits 20000

pub sender_send : (a : NamedLft) → IsSend (sender.the_row a)
sender_send a = search (queue.the_sync, queued_send, crossing.crosses, sendable) depth 60 fits 20000
