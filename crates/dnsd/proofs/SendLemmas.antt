-- What reads a zone file again may be sent to a thread.
use denote.Param.Send.{IsSend, recorded_send, struct_send, sendable}
use denote.RattleType.{RattleType}
use denote.Struct.Declared.{shape}
use denote.Struct.Tuple.{TupleAt, type_at, field_at}
use Rattle.arrayvec.proofs.array_vec.ArrayVec.TheSendSync as array_vec
use Rattle.std.proofs.Common.{ℕ, List, [], ◌∷◌}
use Rattle.std.proofs.Crossing as crossing
use Rattle.std.specs.contracts.rt.LibcRuntime as runtime
use Rattle.server_control.proofs.SendLemmas.{slot_send, slot_sync}
use Rattle.dnsd_setup.proofs.writer.Shared.TheSendSync as shared
use Rattle.dnsd_setup.specs.contracts.reload.FileReader as reader

pub reader_send : IsSend reader.the_row
reader_send = search (slot_send, slot_sync, shared.the_send, shared.the_sync, array_vec.the_send, crossing.crosses, sendable) depth 60 fits 20000

pub runtime_send : IsSend runtime.the_row
runtime_send = search (crossing.crosses, sendable) depth 60 fits 20000

-- a closure that has two values
pub captured_send : (name : List ℕ) (T U : RattleType) → IsSend T → IsSend U → IsSend (TupleAt name (T ∷ U ∷ []))
captured_send name T U one other =
    recorded_send (field_at name (T ∷ U ∷ [])).row _ _ (type_at name (T ∷ U ∷ [])).to_one (struct_send (shape (type_at name (T ∷ U ∷ []))) (one, (other, tt)))
