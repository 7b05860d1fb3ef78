-- A text that is to be written may be sent to its thread.
use denote.Param.Send.{IsSend, recorded_send, struct_send, sendable}
use denote.RattleType.{RattleType}
use denote.Struct.Declared.{shape}
use denote.Struct.Tuple.{TupleAt, type_at, field_at}
use Rattle.std.proofs.Common.{ℕ, List, [], ◌∷◌}
use Rattle.std.proofs.Crossing as crossing
use Rattle.std.proofs.alloc.Global.TheSendSync as global
use Rattle.store_compaction.specs.contracts.next.NextText as next
use Rattle.dns_engine.proofs.SendLemmas as engine
use Rattle.store_compaction.specs.contracts.thread.TextJob as job

next_send : IsSend (next.the_field).row
next_send = search (engine.shared_send, crossing.crosses, sendable) depth 60 fits 20000

pub job_send : IsSend job.the_row
job_send =
    recorded_send (job.the_field).row _ _ (job.the_type).to_one
    (struct_send (shape (job.the_type))
    (search (global.the_field_send, sendable) depth 60 fits 20000, (search (crossing.crosses, sendable) depth 60 fits 20000, (next_send, (search (crossing.crosses, sendable) depth 60 fits 20000, (search (crossing.crosses, sendable) depth 60 fits 20000, (search (crossing.crosses, sendable) depth 60 fits 20000, tt)))))))

-- a closure that has one value
pub captured_send : (name : List ℕ) (T : RattleType) → IsSend T → IsSend (TupleAt name (T ∷ []))
captured_send name T sends = recorded_send (field_at name (T ∷ [])).row _ _ (type_at name (T ∷ [])).to_one (struct_send (shape (type_at name (T ∷ []))) (sends, tt))
