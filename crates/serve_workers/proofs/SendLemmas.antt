-- A thread's work may be sent to it.
use denote.RattleType.{RattleType}
use denote.Ref.{NamedLft}
use denote.Param.Send.{IsSend, IsSync, recorded_send, recorded_sync, shr_send, struct_send, struct_sync, enum_send, sendable}
use denote.Signature.{static_lft}
use denote.Struct.Declared.{shape}
use denote.Enum.Declared as enum
use Rattle.std.proofs.Crossing as crossing
use Rattle.std.proofs.alloc.Global.TheSendSync as global
use Rattle.std.proofs.option.Option.TheSendSync as option
use Rattle.snapshot_cell.proofs.SendLemmas as cell
use Rattle.snapshot_cell.specs.declared.named.Naming as naming
use Rattle.dns_engine.specs.declared.versions.FirstZone.{Ghosts}
use Rattle.zone_server.specs.declared.right.ServerName as server_names
use Rattle.zone_server.proofs.ServerSendLemmas.{server_sync, queued_send}
use Rattle.update_batches.proofs.queue.Queue.TheSendSync as queue
use Rattle.serve_workers.specs.contracts.server_thread.ServerThread as thread
use Rattle.serve_workers.specs.contracts.threads.SocketJob as job
use Rattle.serve_workers.specs.contracts.updates.Updates as updates
use Rattle.signed_replies.specs.contracts.key_ring.KeyRights as rights
use Rattle.signed_replies.specs.contracts.messages.SignedMessages as signed_messages
use Rattle.signed_replies.specs.contracts.messages.SignedMessagesMessages.TheImpl as signed_sending
use Rattle.zone_replies.proofs.SendLemmas.{allowed_send, rule_sync}
use Rattle.zone_replies.specs.contracts.transfer.Transfer as transfer
use Rattle.zone_replies.specs.contracts.transfer.TransferMessages.TheImpl as sending
use Rattle.worker_jobs.proofs.SendLemmas.{woken_sync, transfer_send, tcp_send, tcp_row_send, telling_send, keys_sync, signed_messages_send}
use Rattle.counters.proofs.SendLemmas as shown
use Rattle.message_counts.specs.contracts.thread.NoCounts as no_counts
use Rattle.message_counts.specs.contracts.thread.ThreadCounts as counts
use Rattle.counted_requests.specs.contracts.messages.CountedMessages as counted_messages
use Rattle.counted_requests.specs.contracts.messages.CountedMessagesMessages.TheImpl as counted_sending
use Rattle.server_control.proofs.SendLemmas.{control_send, metrics_send}
use Rattle.worker_jobs.specs.contracts.connections_job.ConnectionsJob as connections
use Rattle.worker_jobs.specs.contracts.datagrams_job.DatagramsJob as datagrams
use Rattle.worker_jobs.specs.contracts.worker_socket.WorkerSocket as socket
use Rattle.serve_workers.specs.contracts.counted_jobs.CountedJob as counted
use Rattle.serve_workers.specs.contracts.signed_jobs.SharedKeys as shared_keys
use Rattle.serve_workers.specs.contracts.signed_jobs.SignedJob as signed

updates_sync : IsSync updates.the_row
updates_sync =
    recorded_sync (updates.the_field).row _ _ (updates.the_type).to_one
    (struct_sync (shape (updates.the_type)) (search (queue.the_field_sync, queue.the_sync, queued_send, crossing.crosses, sendable) depth 60 fits 20000, (search (crossing.crosses, sendable) depth 60 fits 20000, (search (woken_sync, crossing.crosses, sendable) depth 60 fits 20000, tt))))

-- what the holders of keys may do is shared by threads, and so are the keys
rights_sync : (a : NamedLft) → IsSync (rights.the_field a).row
rights_sync a = search (rule_sync, crossing.crosses, sendable) depth 60 fits 20000

shared_keys_send : (a : NamedLft) → IsSend (shared_keys.the_field a).row
shared_keys_send a = search (keys_sync, rights_sync, crossing.crosses, sendable) depth 60 fits 20000

-- a job whose requests may be signed may be sent where the job may
signed_send : (a : NamedLft) (J C : RattleType) → IsSend J → IsSync C → IsSend (signed.the_field a J C).row
signed_send a J C sends ticks =
    struct_send (shape (signed.the_type a J C)) (sends, (shared_keys_send a, (search (crossing.crosses, sendable) depth 60 fits 20000, tt)))

-- a job whose requests are counted may be sent where the job may
counted_send : (a : NamedLft) (J C : RattleType) → IsSend J → IsSync C → IsSend (counted.the_field a J C).row
counted_send a J C sends ticks =
    struct_send (shape (counted.the_type a J C)) (sends, (search (shown.shared_sync, crossing.crosses, sendable) depth 60 fits 20000, (search (crossing.crosses, sendable) depth 60 fits 20000, tt)))

counted_row_send : (a : NamedLft) (J C : RattleType) → IsSend J → IsSync C → IsSend (counted.the_row a J C)
counted_row_send a J C sends ticks = recorded_send (counted.the_field a J C).row _ _ (counted.the_type a J C).to_one (counted_send a J C sends ticks)

counted_messages_send : (a : NamedLft) (M : RattleType) → IsSend M → IsSend (counted_messages.the_row a M)
counted_messages_send a M makes = search (shown.shared_sync, option.the_field_send, option.the_send, crossing.crosses, sendable) depth 60 fits 20000

counts_send : (a : NamedLft) (C : RattleType) → IsSync C → IsSend (counts.the_row a C)
counts_send a C ticks = search (shown.shared_sync, option.the_field_send, option.the_send, crossing.crosses, sendable) depth 60 fits 20000

no_counts_send : IsSend no_counts.the_row
no_counts_send = search (crossing.crosses, sendable) depth 60 fits 20000

udp_send : (a : NamedLft) (T : RattleType) → IsSend T → IsSend (datagrams.the_row a (socket.the_row a T))
udp_send a T tells = search (allowed_send, crossing.crosses, sendable) depth 60 fits 20000

udp_field_send : (a : NamedLft) (T : RattleType) → IsSend T → IsSend (datagrams.the_field a (socket.the_row a T)).row
udp_field_send a T tells = search (allowed_send, crossing.crosses, sendable) depth 60 fits 20000

-- the messages of a reply that are signed
signing_send : (a : NamedLft) → IsSend (signed_messages.the_row a transfer.the_row)
signing_send a = signed_messages_send a transfer.the_row transfer_send

job_send : (a : NamedLft) (C : RattleType) → IsSync C → IsSend (job.the_field a C).row
job_send a C ticks =
    enum_send (enum.shape (job.the_type a C)) (
      (udp_field_send a no_counts.the_row no_counts_send, tt),
      (
        (tcp_send a transfer.the_row C _ transfer_send ticks, tt),
        (
          (signed_send a _ C (udp_send a no_counts.the_row no_counts_send) ticks, tt),
          (
            (signed_send a _ C (tcp_row_send a (signed_messages.the_row a transfer.the_row) C (signed_sending.ghosts transfer.the_row sending.ghosts signed_sending.no_dict signed_sending.no_dict) (signing_send a) ticks) ticks, tt),
            (
              (udp_field_send a (counts.the_row a C) (counts_send a C ticks), tt),
              (
                (counted_send a _ C (tcp_row_send a (counted_messages.the_row a transfer.the_row) C (counted_sending.ghosts transfer.the_row sending.ghosts counted_sending.no_dict counted_sending.no_dict) (counted_messages_send a transfer.the_row transfer_send) ticks) ticks, tt),
                (
                  (signed_send a _ C (udp_send a (counts.the_row a C) (counts_send a C ticks)) ticks, tt),
                  (
                    (signed_send a _ C (counted_row_send a _ C (tcp_row_send a (counted_messages.the_row a (signed_messages.the_row a transfer.the_row)) C (counted_sending.ghosts (signed_messages.the_row static_lft transfer.the_row) (signed_sending.ghosts transfer.the_row sending.ghosts signed_sending.no_dict signed_sending.no_dict) counted_sending.no_dict counted_sending.no_dict) (counted_messages_send a (signed_messages.the_row a transfer.the_row) (signing_send a)) ticks) ticks) ticks, tt),
                    ((telling_send a C ticks, tt), ((control_send a C ticks, tt), ((metrics_send a C ticks, tt), tt))),
                  ),
                ),
              ),
            ),
          ),
        ),
      ),
    )

pub thread_send : (a b : NamedLft) (T N L C : RattleType) (g : Ghosts T.Denot) (n : naming.Ghosts N.Denot) (s : server_names.Ghosts N.Denot) → IsSync L → IsSync C → IsSend (thread.the_row a b T N L C n g s)
thread_send a b T N L C g n s hears ticks =
    recorded_send (thread.the_field a b T N L C n g s).row _ _ (thread.the_type a b T N L C n g s).to_one
    (struct_send (shape (thread.the_type a b T N L C n g s))
    (search (cell.crosses, option.the_field_send, option.the_send, crossing.crosses, sendable) depth 60 fits 20000, (job_send a C ticks, (search (crossing.crosses, sendable) depth 60 fits 20000, (search (global.the_field_send, sendable) depth 60 fits 20000, (shr_send _ _ _ (server_sync b T N g n s), (search (crossing.crosses, sendable) depth 60 fits 20000, (search sendable depth 60 fits 20000, (search (updates_sync, crossing.crosses, sendable) depth 60 fits 20000, tt)))))))))
