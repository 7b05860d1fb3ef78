use denote.RattleType.{RattleType}
use denote.Param.Send.{IsSend, Frees}
use Rattle.core.specs.declared.alloc.Allocator.{Ghosts}
use Rattle.raw_slots.specs.contracts.bare.Bare.{the_row}
use Rattle.raw_slots.proofs.Sent.{row_keyless}

pub send : (T A : RattleType) (g : Ghosts A.Denot) → IsSend T → IsSend A → Frees g g.dealloc_token → IsSend (the_row T A g)
send T A g s _ f = record { owned = λ d vs. ((λ vss. (tt, (((λ uss. (tt, (tt, tt))), row_keyless T s d.row.at d.row.total d.row.values), (((λ uss. (tt, (tt, ((tt, tt), ((λ wss. (tt, tt)), tt))))), f.frees _ _ _), ((λ uss. (tt, (tt, tt))), tt))))), λ _. tt); leaving = λ k x vs. (tt, (tt, tt)) }
