-- A job may be sent to its thread.
use denote.Exit.{no}
use denote.Param.{param}
use denote.Param.Send.{IsSend, param_send, arg_send, recorded_send, shr_send, struct_send, sendable}
use denote.RattleType.{RattleType}
use denote.Ref.{NamedLft}
use denote.Struct.Declared.{shape}
use Rattle.std.proofs.Crossing as crossing
use Rattle.std.proofs.alloc.Global.TheSendSync as global
use Rattle.std.proofs.option.Option.TheSendSync as option
use Rattle.snapshot_cell.proofs.SendLemmas as cell
use Rattle.snapshot_cell.specs.declared.named.Naming as naming
use Rattle.dns_engine.specs.declared.versions.FirstZone.{Ghosts}
use Rattle.zone_server.specs.declared.right.ServerName as server_names
use Rattle.zone_server.proofs.ServerSendLemmas.{server_sync}
use Rattle.test_threads.specs.contracts.gates.BothJob as job
use Rattle.test_threads.proofs.gates.serve.Goals as goal

job_send : (a b : NamedLft) (T N : RattleType) (g : Ghosts T.Denot) (n : naming.Ghosts N.Denot) (s : server_names.Ghosts N.Denot) → IsSend (job.the_row a b T N n g s)
job_send a b T N g n s =
    recorded_send (job.the_field a b T N n g s).row _ _ (job.the_type a b T N n g s).to_one
    (struct_send (shape (job.the_type a b T N n g s))
    (search (crossing.crosses, sendable) depth 60 fits 20000, (search (global.the_field_send, sendable) depth 60 fits 20000, (search (crossing.crosses, sendable) depth 60 fits 20000, (shr_send _ _ _ (server_sync b T N g n s), (search (option.the_field_send, option.the_send, cell.crosses, crossing.crosses, sendable) depth 60 fits 20000, (search (option.the_field_send, option.the_send, crossing.crosses, sendable) depth 60 fits 20000, (search (option.the_field_send, option.the_send, crossing.crosses, sendable) depth 60 fits 20000, tt))))))))

pub run_workers-requires-send-J : goal.run_workers-requires-send-J
run_workers-requires-send-J g c κs within = param_send _ _ (arg_send _ no _ (job_send _ _ (param 1 g.row.Z) (param 2 g.row.N) g.Z.FirstZone g.N.Naming g.N.ServerName))
