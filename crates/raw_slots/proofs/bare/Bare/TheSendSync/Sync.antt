use denote.RattleType.{RattleType}
use denote.Param.Send.{IsSend, IsSync, Frees, part_keyless}
use Rattle.core.specs.declared.alloc.Allocator.{Ghosts}
use Rattle.raw_slots.specs.contracts.bare.Bare.{the_row}
use Rattle.raw_slots.proofs.bare.Bare.TheSendSync.Send.{send}

pub sync : (T A : RattleType) (g : Ghosts A.Denot) → IsSend T → IsSend A → Frees g g.dealloc_token → IsSync (the_row T A g)
sync T A g s z f = record { shared = λ d b o ν q. part_keyless (the_row T A g) (send T A g s z f) q d b o }
