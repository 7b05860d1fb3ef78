-- The jobs that an operator sees and commands a server by may be sent to threads.
use denote.RattleType.{RattleType}
use denote.Ref.{NamedLft}
use denote.Param.Send.{IsSend, IsSync, recorded_sync, struct_sync, sendable}
use denote.Struct.Declared.{shape}
use Rattle.std.proofs.Crossing as crossing
use Rattle.std.proofs.alloc.Global.TheSendSync as global
use Rattle.std.proofs.option.Option.TheSendSync as option
use Rattle.std.proofs.sync.Mutex.TheSendSync as mutex
use Rattle.arrayvec.proofs.array_vec.ArrayVec.TheSendSync as array_vec
use Rattle.counters.proofs.SendLemmas as counted
use Rattle.dns_engine.proofs.SendLemmas as engine
use Rattle.log_lines.specs.contracts.recent.RecentLines as recent
use Rattle.server_control.specs.contracts.control_job.ControlJob as control
use Rattle.server_control.specs.contracts.metrics_client.MetricsClient as client
use Rattle.server_control.specs.contracts.metrics_job.MetricsJob as metrics
use Rattle.server_control.specs.contracts.metrics_job.MetricsPlan as plan
use Rattle.server_control.specs.contracts.reload_slot.ReloadState as state
use Rattle.server_control.specs.contracts.reload_slot.ReloadSlot as slot

state_send : IsSend state.the_row
state_send = search (engine.shared_send, array_vec.the_send, option.the_field_send, crossing.crosses, sendable) depth 60 fits 20000

pub slot_send : IsSend slot.the_row
slot_send = search (mutex.the_send, state_send, crossing.crosses, sendable) depth 60 fits 20000

pub slot_sync : IsSync slot.the_row
slot_sync = recorded_sync (slot.the_field).row _ _ (slot.the_type).to_one (struct_sync (shape (slot.the_type)) (mutex.the_sync _ state_send, (search (crossing.crosses, sendable) depth 60 fits 20000, tt)))

pub control_send : (a : NamedLft) (C : RattleType) → IsSync C → IsSend (control.the_field a C).row
control_send a C ticks = search (slot_send, slot_sync, counted.server_sync, option.the_field_send, option.the_send, global.the_field_send, crossing.crosses, sendable) depth 60 fits 20000

recent_send : IsSend recent.the_row
recent_send = search (mutex.the_send, global.the_field_send, crossing.crosses, sendable) depth 60 fits 20000

recent_sync : IsSync recent.the_row
recent_sync = search (mutex.the_sync, global.the_field_sync, crossing.crosses, sendable) depth 60 fits 20000

plan_send : IsSend (plan.the_field).row
plan_send = search (recent_send, recent_sync, option.the_field_send, option.the_send, crossing.crosses, sendable) depth 60 fits 20000

client_send : IsSend client.the_row
client_send = search (crossing.crosses, sendable) depth 60 fits 20000

pub metrics_send : (a : NamedLft) (C : RattleType) → IsSync C → IsSend (metrics.the_field a C).row
metrics_send a C ticks = search (plan_send, client_send, counted.server_sync, option.the_field_send, global.the_field_send, crossing.crosses, sendable) depth 60 fits 20000
